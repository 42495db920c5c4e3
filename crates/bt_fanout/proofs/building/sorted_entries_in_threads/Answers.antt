use Rattle.std.proofs.Common.{rules, ◌≡◌, ◌∙◌, IsPermutation, ap, drop, length, subst, sym, take}
use Rattle.std.proofs.lemmas.List.Sorted.{answers_always}
use Rattle.std.specs.Bool.{IsTrue}
use Rattle.std.specs.FinMap.{is_sorted}
use Rattle.bt_keycode.specs.Keys.{key_cmp}
use Rattle.bt_keycode.proofs.offered.Occurrences.{written_back}
use Rattle.bt_keycode.proofs.offered.Truths.{true_t}
use Rattle.bt_messages.proofs.offered.Stable.{earlier, earlier_ranks, from_sorted}
use Rattle.bt_fanout.specs.Entries.{entry_of}
use Rattle.bt_fanout.specs.Selections.{select}
use Rattle.bt_fanout.proofs.Lookups.{sorted-select}
use Rattle.bt_fanout.proofs.SortedEntries.{sorted_entries-are}
use Rattle.bt_fanout.proofs.building.sorted_entries_in_threads.Goals as goal

pub returns-clause-entries : goal.returns-clause-entries
returns-clause-entries g c =
    let def = c.args.def.now in
    let rows = c.args.rows.now in
    let lent = c.as_mut_slice.ensures in
    let made = c.in_ok-entries.entries in
    let sorted = c.par_sort_unstable_by.new.s in
    let up = from_sorted sorted (c.par_sort_unstable_by.ensures.sorted earlier earlier_ranks (answers_always _ _ _ (λ f a r h q. search rules))) in
    let moved = subst (λ es. IsPermutation es sorted) (lent.value ∙ c.in_ok-entries.ensures) c.par_sort_unstable_by.ensures.permutation in
    let are : sorted ≡ select (entry_of def) rows = sorted_entries-are def rows sorted c.requires.suits moved up in
    written_back (λ es. es ≡ select (entry_of def) rows) sorted made.items made.len (c.par_sort_unstable_by.ensures.len ∙ lent.len) (sym (ap length lent.value) ∙ lent.len) are

pub returns-clause-rising : goal.returns-clause-rising
returns-clause-rising g c =
    let def = c.args.def.now in
    let rows = c.args.rows.now in
    subst (λ es. IsTrue (is_sorted key_cmp es)) (sym (returns-clause-entries g c)) (true_t _ (sorted-select (entry_of def) rows))
