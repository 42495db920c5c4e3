use Rattle.std.proofs.Common.{◌≡◌, ◌∙◌, ◌-◌, ◌+◌, ◌++◌, [], ap, arith, drop, get_or, length, rules, subst, sym}
use Rattle.std.specs.Option.{option_to_list}
use Rattle.std.specs.Vec.Iter.{into_iter_items}
use Rattle.bt_fanout.specs.Entries.{entry_of}
use Rattle.bt_fanout.specs.inside.RowEntries.{entries_of}
use Rattle.bt_fanout.proofs.SortedEntries.{first_made, one_more, others_made}
use Rattle.bt_fanout.proofs.building.entries_in_threads.Goals as goal

pub loop-entry-preserved : goal.loop-entry-preserved
loop-entry-preserved g c =
    let def = c.args.def.now in
    let rows = c.args.rows.now in
    let all = into_iter_items c.loop-entry.entry-iterator in
    let rest = into_iter_items c.next.new.self in
    let next = c.in-Some.ensures.steps.0 in
    let so_far = c.loop-entry.invariant in
    let made = first_made def rows c.in-Some.entry rest all next so_far.few so_far.made in
    let at = length rows - length all in
    let after : at + 1 ≡ length rows - length rest = omega (arith, ap length next, so_far.few) in
    let row = get_or rows at ([], []) in
    record {
      few = omega (arith, ap length next, so_far.few);
      made = others_made def rows c.in-Some.entry rest all next so_far.few so_far.made;
      so_far = subst (λ i. entries_of (entry_of def) rows ≡ c.add_entry.new.entries.items ++ entries_of (entry_of def) (drop i rows)) after
          (one_more def rows at row _ c.loop-entry.entries.items c.add_entry.new.entries.items (omega (arith, ap length next, so_far.few)) (search rules) so_far.so_far
          (c.in_ok-add_entry.ensures ∙ ap (λ e. c.loop-entry.entries.items ++ option_to_list e) (search rules)));
    }
