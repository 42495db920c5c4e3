-- A node after a packet: order, sizes, height and rows.
pub mod Regrouped
