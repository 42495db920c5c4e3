pub mod lemmas
pub mod offered
