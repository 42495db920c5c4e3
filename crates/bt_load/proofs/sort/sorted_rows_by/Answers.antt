use Rattle.std.proofs.Common.{◌∙◌, ap, length, rules}
use Rattle.std.proofs.lemmas.List.{length-map}
use Rattle.std.proofs.lemmas.List.Sorted.{length_permutation}
use Rattle.bt_keycode.proofs.offered.Truths.{true_t}
use Rattle.bt_load.specs.inside.Sorts.{pair_at, placed_from}
use Rattle.bt_load.proofs.Maps.{sorted_is_map}
use Rattle.bt_load.proofs.Places.{distinct_placed}
use Rattle.bt_load.proofs.Repeats.{length-placed_from, sorted_pairs}
use Rattle.bt_load.proofs.sort.sorted_rows_by.Goals as goal

pub new-requires : goal.new-requires
new-requires g c = distinct_placed c.keys.result c.args.rows.items c.in_ok-placed.placed.items (search rules)

pub returns-clause-answer : goal.returns-clause-answer
returns-clause-answer g c =
    let given = sorted_pairs c.args.schema.now.keys c.args.rows.items c.in_ok-placed.placed.items _ c.new.ensures (search rules) (search rules) in
    sorted_is_map c.args.schema.now.keys c.args.rows.items c.new.result given.moved given.rising

pub returns-clause-rising : goal.returns-clause-rising
returns-clause-rising g c =
    let given = sorted_pairs c.args.schema.now.keys c.args.rows.items c.in_ok-placed.placed.items _ c.new.ensures (search rules) (search rules) in
    true_t _ given.rising

pub returns-clause-count : goal.returns-clause-count
returns-clause-count g c =
    let rows = c.args.rows.items in
    let keys = c.args.schema.now.keys in
    let placed = c.in_ok-placed.placed.items in
    ap length c.new.ensures ∙ length-map placed (pair_at rows) ∙ length_permutation (placed_from keys 0 rows) placed (search rules) ∙ length-placed_from keys 0 rows
