use Rattle.std.proofs.Common.{rules, ◌≡◌, ◌∙◌, ◌==◌, Some, arith, false, refl, slice_get}
use Rattle.std.proofs.lemmas.Option.{slice_get_read}
use Rattle.std.specs.Cmp.Lexicographic.{pointwise}
use Rattle.bt_table.proofs.Indexes.{next_named}
use Rattle.bt_table.proofs.index.find_index.Goals as goal

pub loop-place-preserved : goal.loop-place-preserved
loop-place-preserved c =
    let place = c.loop-place.place in
    let heads = c.args.heads.now in
    let entries = c.args.entries.now in
    let head : slice_get heads place ≡ Some c.index-heads-place.result = slice_get_read heads _ place _ refl c.loop-place-test.true c.index-heads-place.is in
    let tree : slice_get entries place ≡ Some c.index-entries-place.result = slice_get_read entries _ place _ refl (omega (arith, c.loop-place-test.true, c.requires)) c.index-entries-place.is in
    let other : pointwise ◌==◌ c.index-heads-place.result.name c.args.name.now ≡ false = search rules in
    c.loop-place.invariant ∙ next_named c.args.name.now place heads entries _ _ head tree other
