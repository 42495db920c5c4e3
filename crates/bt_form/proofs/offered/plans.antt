-- The children that are flushed: the repeated choice gives the plan, and the loop is one pass.
pub mod Marks
pub mod OnePass
pub mod RenewedChoice
