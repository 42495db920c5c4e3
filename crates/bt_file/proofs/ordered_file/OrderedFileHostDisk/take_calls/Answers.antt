use Rattle.std.proofs.Common.{◌∙◌, ◌∷◌, List, ap, refl}
use Rattle.bt_file.specs.Calls.{Event}
use Rattle.bt_file.specs.declared.calls.Call.TheVariants.{Taken}
use Rattle.bt_file.proofs.ordered_file.OrderedFileHostDisk.take_calls.Goals as goal

pub returns-clause-taken : goal.returns-clause-taken
returns-clause-taken c =
    let e : Event = (Taken, c.new-none.result) in
    (e, refl, c.note.ensures ∙ ap (λ (events : List Event). e ∷ events) c.self.view_is)
