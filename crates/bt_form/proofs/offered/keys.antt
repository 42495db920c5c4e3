-- Keys: their order, limits between which they lie, and items side by side.
pub mod Limits
pub mod SideBySide
pub mod SortedLists
