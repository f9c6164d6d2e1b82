pub mod Common
pub mod DayLists
pub mod DaySumLemmas
pub mod Devices
pub mod Padding
pub mod SamePlan
pub mod Starts
pub mod Totals
