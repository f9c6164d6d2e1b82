-- The words of other crates that the proofs cite, passed on from one place.
pub use Rattle.std.proofs.Common.{Bool, Bor, Err, List, None, Ok, Option, Result, Some, [], ap, append-nil}
pub use Rattle.std.proofs.Common.{append_assoc, arith, false, get_or, length, map, option_map, refl, subst}
pub use Rattle.std.proofs.Common.{sym, take, true, ℕ, ◌%◌, ◌&&◌, ◌++◌, ◌+◌, ◌/◌, ◌<◌, ◌||◌, ◌∙◌, ◌∷◌, ◌≡◌}
pub use Rattle.std.specs.Prelude.{All, IfOk, IsAscii, IsOk, IsUtf8, MatchResult, String, string_bytes}
pub use Rattle.portal_json.specs.Bodies.{captive_data, captive_keys, session_data, session_keys}
pub use Rattle.portal_json.specs.Bodies.{sessions_data}
pub use Rattle.portal_json.specs.Objects.{KeyedValue, members_in_order, object_of, put_all, put_some}
pub use Rattle.serde_json.specs.Data.{Data, member, no_members, object, put}
pub use Rattle.serde_json.specs.View.{items_of, view}
pub use Rattle.serde_json.specs.Written.{compact_text, has_float, items_have_float}
