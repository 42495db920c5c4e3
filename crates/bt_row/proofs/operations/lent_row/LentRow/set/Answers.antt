use Rattle.std.proofs.Common.{ap, set, ◌∙◌}
use Rattle.std.proofs.lemmas.List.{map-set}
use Rattle.bt_value.specs.Views.{value_of_ref}
use Rattle.bt_row.proofs.LentValues.{have_text}
use Rattle.bt_row.proofs.operations.lent_row.LentRow.set.Goals as goal

pub invariant_of-self : goal.invariant_of-self
invariant_of-self c = have_text c.self.inside.values.items c.args.place c.args.value c.requires c.self.invariant

pub returns-then-place-len : goal.returns-then-place-len
returns-then-place-len c = map-set value_of_ref c.self.inside.values.items c.args.place c.args.value ∙ ap (λ z. set z c.args.place (value_of_ref c.args.value)) c.self.view_is
