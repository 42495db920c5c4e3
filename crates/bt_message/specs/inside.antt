-- The laws that an impl states, from which its functions are proved.
pub mod KeyNumbers
