use Rattle.std.proofs.Common.{◌≡◌, ◌∙◌, List, [], ap, subst}
use Rattle.std.specs.List.Sorted.{IsPermutation}
use Rattle.std.specs.FinMap.{is_sorted}
use Rattle.bt_value.specs.declared.value.Value.{Value}
use Rattle.bt_keycode.specs.Keys.{Key, key_cmp}
use Rattle.bt_keycode.proofs.offered.Truths.{true_t}
use Rattle.bt_message.proofs.offered.Moved.{moved_permutation, moved_sorted}
use Rattle.bt_message.specs.Effects.{Rows}
use Rattle.bt_messages.proofs.offered.Stable.{from_sorted}
use Rattle.bt_fanout.specs.Entries.{entry_of}
use Rattle.bt_fanout.specs.Selections.{select}
use Rattle.bt_fanout.proofs.Lookups.{sorted-select}
use Rattle.bt_fanout.proofs.SortedEntries.{sorted_entries-are}
use Rattle.bt_fanout.proofs.building.sorted_entries.Goals as goal

pub returns : goal.returns
returns c =
    let def = c.args.def.now in
    let rows = c.args.rows.now in
    let entries : Rows (List Value) = c.in_ok-entries.entries.items in
    let sorted : Rows (List Value) = c.sort_by_key.new.items.items in
    let absent : Key × List Value = ([], []) in
    let arrived = c.in_ok-sort_by_key.ensures.sorted in
    let up = from_sorted sorted (λ k d z l. moved_sorted absent entries sorted arrived k d l) in
    let moved = subst (λ es. IsPermutation es sorted) c.in_ok-entries.ensures (moved_permutation absent entries sorted arrived) in
    let are : sorted ≡ select (entry_of def) rows = sorted_entries-are def rows sorted c.requires moved up in
    record { entries = are; rising = ap (is_sorted key_cmp) are ∙ true_t _ (sorted-select (entry_of def) rows) }
