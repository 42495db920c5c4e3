use Rattle.std.proofs.Common.{◌∙◌, ap, length, rules, sym}
use Rattle.std.proofs.lemmas.List.Sorted.{answers_always}
use Rattle.std.specs.List.Sorted.{IsSorted}
use Rattle.bt_keycode.proofs.offered.Occurrences.{written_back}
use Rattle.bt_load.specs.Steps.{no_key, placed_cmp}
use Rattle.bt_message.proofs.offered.Moved.{moved_permutation}
use Rattle.bt_load.proofs.Moved.{in_order}
use Rattle.bt_load.proofs.Orders.{placed_before, placed_ranks}
use Rattle.bt_load.proofs.loading.InTurnLoading.sort.Goals as goal

-- out of memory
pub returns-then-is_err-clause-sorted : goal.returns-then-is_err-clause-sorted
returns-then-is_err-clause-sorted c =
    let lent = c.as_mut_slice.ensures in
    let placed = c.sort_by_key.new.items in
    written_back (IsSorted placed_cmp) c.sort_unstable_by.new.self placed.items placed.len (c.sort_unstable_by.ensures.len ∙ lent.len) (sym (ap length lent.value) ∙ lent.len)
    (c.sort_unstable_by.ensures.sorted placed_before placed_ranks (answers_always _ _ _ (λ f a r h q. search rules)))

-- sorted by places
pub returns-else-is_err-clause-permutation : goal.returns-else-is_err-clause-permutation
returns-else-is_err-clause-permutation c = moved_permutation no_key c.args.placed.now.items c.sort_by_key.new.items.items (search rules)

pub returns-else-is_err-clause-sorted : goal.returns-else-is_err-clause-sorted
returns-else-is_err-clause-sorted c = in_order c.args.placed.now.items c.sort_by_key.new.items.items c.requires.places (search rules)
