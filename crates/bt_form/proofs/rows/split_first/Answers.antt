use Rattle.std.proofs.Common.{◌≡◌, rules}
use Rattle.std.specs.declared.cmp.Ordering.TheVariants.{Equal}
use Rattle.bt_keycode.specs.Keys.{key_cmp}
use Rattle.bt_form.proofs.offered.code.RowPass.{first_kept_at, first_of_rows}
use Rattle.bt_form.proofs.rows.split_first.Goals as goal

pub returns-then-ne-clause-value : goal.returns-then-ne-clause-value
returns-then-ne-clause-value g c =
    let other : key_cmp c.first-item.result.0 c.args.key.now ≡ Equal → ⊥ = search rules in
    (first_kept_at c.args.key.now c.first-item.result c.args.rows.now c.requires.sorted c.requires.none_before c.first-item.is other).0

pub returns-then-ne-clause-others : goal.returns-then-ne-clause-others
returns-then-ne-clause-others g c =
    let other : key_cmp c.first-item.result.0 c.args.key.now ≡ Equal → ⊥ = search rules in
    (first_kept_at c.args.key.now c.first-item.result c.args.rows.now c.requires.sorted c.requires.none_before c.first-item.is other).1

pub returns-clause-value : goal.returns-clause-value
returns-clause-value g c =
    let same : key_cmp c.first-item.result.0 c.args.key.now ≡ Equal = search rules in
    (first_of_rows c.args.key.now c.first-item.result c.args.rows.now c.requires.sorted c.in-len1-up.len_at_least c.first-item.is same).0

pub returns-clause-others : goal.returns-clause-others
returns-clause-others g c =
    let same : key_cmp c.first-item.result.0 c.args.key.now ≡ Equal = search rules in
    (first_of_rows c.args.key.now c.first-item.result c.args.rows.now c.requires.sorted c.in-len1-up.len_at_least c.first-item.is same).1
