use Rattle.std.proofs.Common.{rules, sym, SFits, w64}
use Rattle.std.proofs.lemmas.Int.{to_z-of_z}
use Rattle.bt_row.proofs.Replacements.{has_int, made_packed, made_values, width_fits}
use Rattle.bt_row.proofs.operations.arithmetic.make_at.Goals as goal

pub int_here-requires-clause-within : goal.int_here-requires-clause-within
int_here-requires-clause-within c = width_fits _ c.offset-at.ensures.rest

pub overwrite_int-requires : goal.overwrite_int-requires
overwrite_int-requires c = (has_int _ _ _ _ c.offset-at.ensures (sym c.in-Some.ensures)).within

pub returns-in-Some-clause-packed : goal.returns-in-Some-clause-packed
returns-in-Some-clause-packed c =
    let new : SFits w64 c.make.result = search rules in
    let written = simp to_z-of_z at c.overwrite_int.ensures in
    made_packed _ _ _ _ _ _ c.requires c.offset-at.ensures (sym c.in-Some.ensures) new written

pub returns-in-Some-clause-values : goal.returns-in-Some-clause-values
returns-in-Some-clause-values c =
    let number : SFits w64 c.args.number = c.ranges.number in
    let old : SFits w64 c.in-Some.old = search rules in
    let new : SFits w64 c.make.result = search rules in
    let is = simp to_z-of_z at c.make.ensures in
    let written = simp to_z-of_z at c.overwrite_int.ensures in
    made_values _ _ c.args.arithmetic _ _ _ _ _ c.requires c.offset-at.ensures (sym c.in-Some.ensures) new is written
