-- Facts about the steps of a flush, for code that takes them separately.

-- the children that are flushed
pub use Rattle.bt_form.proofs.offered.plans.Marks.{length-flush_marks}
pub use Rattle.bt_form.proofs.offered.plans.OnePass.{names}
pub use Rattle.bt_form.proofs.offered.plans.RenewedChoice.{renewed-planned}
-- children with their pivots, their bins and their marks
pub use Rattle.bt_form.proofs.offered.flushes.Children.{ChildLies, ChildrenLie, all_pending}
pub use Rattle.bt_form.proofs.offered.flushes.Divisions.{bins-length, divided-lie, joined-pending, pending-with_pending, pivots-with_pending, shares-length, with_pending-shared}
pub use Rattle.bt_form.proofs.offered.flushes.Groups.{all_pending-within, children-nodes, led-full, some_length, stripped, stripped-lie}
pub use Rattle.bt_flush.proofs.offered.NodeSizes.{ChildrenSized, both-sized, flushed-fits, none_pending-sized, shared-sized, total-loads}
pub use Rattle.bt_form.proofs.offered.flushes.Shares.{length-shared}
pub use Rattle.bt_form.proofs.offered.keys.SideBySide.{Begins, blocks-lie, blocks-long}
pub use Rattle.bt_form.proofs.offered.keys.SortedLists.{from-back, from-joined, from-prefix}
-- items that are dealt into parts: none is lost, and no part is empty
pub use Rattle.bt_form.proofs.offered.deals.Parts.{AllNonEmpty, full-deal, joined, joined-deal}
-- siblings with their pending messages, dealt under inner nodes
pub use Rattle.bt_flush.proofs.offered.EmptyPackets.{all_pending-shared}
pub use Rattle.bt_node.proofs.lemmas.flushes.Regrouped.{grouped_fits}
-- a node after its messages, child by child
pub use Rattle.bt_flush.proofs.offered.EmptyPackets.{still-here}
pub use Rattle.bt_flush.proofs.offered.Laws.{anywhere, fit_there}
pub use Rattle.bt_form.proofs.offered.flushes.Passes.{Keeps, after_pass-lie, flushed-light, flushed-slots, in_place, names-slots, slots}
pub use Rattle.bt_flush.proofs.offered.Recursion.{flush_recurs}
pub use Rattle.bt_form.proofs.offered.flushes.RowsKept.{flush-keeps}
pub use Rattle.bt_form.proofs.offered.flushes.ValuesKept.{start-lies}
