use Rattle.std.proofs.Common.{rules}
use Rattle.bt_keycode.proofs.offered.Truths.{true_t}
use Rattle.bt_load.proofs.Maps.{sorted_is_map}
use Rattle.bt_load.proofs.Places.{distinct_placed}
use Rattle.bt_load.proofs.Repeats.{sorted_pairs}
use Rattle.bt_load.proofs.Stands.{all_stand, all_under}
use Rattle.bt_load.proofs.sort.load_rows_by.Goals as goal

pub with_rows-requires : goal.with_rows-requires
with_rows-requires g c = distinct_placed c.keys.result c.args.rows.items c.in_ok-placed.placed.items (search rules)

pub returns-clause-answer : goal.returns-clause-answer
returns-clause-answer g c =
    let given = sorted_pairs c.args.schema.now.keys c.args.rows.items c.in_ok-placed.placed.items _ c.in_ok-with_rows.ensures (search rules) (search rules) in
    sorted_is_map c.args.schema.now.keys c.args.rows.items c.in_ok-with_rows.field-0.items given.moved given.rising

pub returns-clause-rising : goal.returns-clause-rising
returns-clause-rising g c =
    let given = sorted_pairs c.args.schema.now.keys c.args.rows.items c.in_ok-placed.placed.items _ c.in_ok-with_rows.ensures (search rules) (search rules) in
    true_t _ given.rising

pub returns-clause-keys : goal.returns-clause-keys
returns-clause-keys g c =
    let given = sorted_pairs c.args.schema.now.keys c.args.rows.items c.in_ok-placed.placed.items _ c.in_ok-with_rows.ensures (search rules) (search rules) in
    all_under c.args.schema.now.keys c.args.rows.items c.in_ok-with_rows.field-0.items given.moved

pub returns-clause-stand : goal.returns-clause-stand
returns-clause-stand g c =
    let given = sorted_pairs c.args.schema.now.keys c.args.rows.items c.in_ok-placed.placed.items _ c.in_ok-with_rows.ensures (search rules) (search rules) in
    λ are. all_stand c.args.schema.now c.args.rows.items c.in_ok-with_rows.field-0.items given.moved are
