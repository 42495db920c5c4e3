use Rattle.std.proofs.Common.{sym, subst, rules}
use Rattle.bt_value.specs.Values.{BytesFit}
use Rattle.bt_value.specs.Views.{value_of_ref}
use Rattle.bt_value.specs.declared.value.ValueRef.{ValueRef}
use Rattle.bt_row.proofs.LentValues.{has_text}
use Rattle.bt_row.proofs.operations.lent_row.LentRow.apply.Goals as goal

pub set-requires-then-place-len : goal.set-requires-then-place-len
set-requires-then-place-len c =
    let old = c.index-old.result.now in
    let held = has_text c.self.inside.values.items c.in-Make.place old (search rules) c.self.invariant in
    c.made_value.ensures.bytes (subst (λ (v : ValueRef). BytesFit (value_of_ref v)) (sym c.index-old.ensures) held)
