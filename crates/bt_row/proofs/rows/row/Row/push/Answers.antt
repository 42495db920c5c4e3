use Rattle.std.proofs.Common.{[], ◌∷◌, ◌++◌, sym, ap, subst, ◌∙◌}
use Rattle.bt_row.specs.inside.Packing.{IsPacked, unpacked}
use Rattle.bt_value.specs.Views.{value_of_ref}
use Rattle.bt_row.proofs.Walks.{pushed, pushed_packed}
use Rattle.bt_row.proofs.rows.row.Row.push.Goals as goal

pub invariant_of-self-2 : goal.invariant_of-self-2
invariant_of-self-2 c = subst IsPacked (sym c.in_ok-add_value.ensures.ok) (pushed_packed _ (value_of_ref c.args.value) c.self.invariant c.in_ok-add_value.ensures.in_range)

pub returns-clause-ok : goal.returns-clause-ok
returns-clause-ok c =
    ap unpacked c.in_ok-add_value.ensures.ok ∙ pushed _ (value_of_ref c.args.value) c.self.invariant c.in_ok-add_value.ensures.in_range
    ∙ ap (λ z. z ++ value_of_ref c.args.value ∷ []) c.self.view_is
