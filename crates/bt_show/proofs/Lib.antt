pub mod Drawings
pub mod EarlierPages
pub mod Fronts
pub mod IndexColumns
pub mod NextPages
pub mod Totals
pub mod offered
