use Rattle.std.proofs.Common.{◌≡◌, ◌∷◌, rules}
use Rattle.std.specs.declared.cmp.Ordering.TheVariants.{Equal}
use Rattle.bt_keycode.specs.Keys.{key_cmp}
use Rattle.bt_form.proofs.offered.code.RowPass.{first_kept_at, first_taken_at}
use Rattle.bt_form.proofs.rows.take_first.Goals as goal

pub returns-then-ne-clause-value : goal.returns-then-ne-clause-value
returns-then-ne-clause-value g c =
    let other : key_cmp c.in_ok-first.first.now.0 c.args.key.now ≡ Equal → ⊥ = search rules in
    (first_kept_at c.args.key.now c.in_ok-first.first.now c.args.rows.now.items c.requires.sorted c.requires.none_before c.in_ok-first.ensures.lookup other).0

pub returns-then-ne-clause-others : goal.returns-then-ne-clause-others
returns-then-ne-clause-others g c =
    let other : key_cmp c.in_ok-first.first.now.0 c.args.key.now ≡ Equal → ⊥ = search rules in
    (first_kept_at c.args.key.now c.in_ok-first.first.now c.args.rows.now.items c.requires.sorted c.requires.none_before c.in_ok-first.ensures.lookup other).1

pub returns-clause-value : goal.returns-clause-value
returns-clause-value g c =
    let same : key_cmp c.in_ok-first.first.now.0 c.args.key.now ≡ Equal = search rules in
    let taken : c.args.rows.now.items ≡ (c.in_ok-value.field-0-0, c.in_ok-value.value) ∷ c.pop_front.new.self.items = search rules in
    (first_taken_at c.args.key.now c.in_ok-first.first.now _ c.args.rows.now.items _ c.requires.sorted taken c.in_ok-first.ensures.lookup same).0

pub returns-clause-others : goal.returns-clause-others
returns-clause-others g c =
    let same : key_cmp c.in_ok-first.first.now.0 c.args.key.now ≡ Equal = search rules in
    let taken : c.args.rows.now.items ≡ (c.in_ok-value.field-0-0, c.in_ok-value.value) ∷ c.pop_front.new.self.items = search rules in
    (first_taken_at c.args.key.now c.in_ok-first.first.now _ c.args.rows.now.items _ c.requires.sorted taken c.in_ok-first.ensures.lookup same).1
