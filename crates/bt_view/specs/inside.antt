-- Definitions that only private clauses cite: the results before rows are shown, and pages in an order.
pub mod Orders
pub mod Shown
