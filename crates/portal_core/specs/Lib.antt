pub mod Decision
