use Rattle.std.proofs.Common.{◌∙◌, ap, set}
use Rattle.std.proofs.lemmas.List.{set-get_or}
use Rattle.bt_messages.proofs.stream.keep_before.Goals as goal
use Rattle.bt_messages.proofs.stream.keep_before.Goals.{then-place-end-2, else-place-end-2}

pub loop-run-preserved : goal.loop-run-preserved
loop-run-preserved g c =
    let runs = c.loop-run.runs.items in
    let run = c.loop-run.run in
    elim c.if-place-end-2.branch [
      | then-place-end-2 w ↦
          ap (λ v. v.items) w.runs-is ∙ ap (λ buffer. set runs run buffer) (w.keep_weight.ensures ∙ w.index_mut.ensures.value)
          ∙ set-get_or runs run _ ∙ c.loop-run.invariant
      | else-place-end-2 w ↦ ap (λ v. v.items) w.runs-is ∙ c.loop-run.invariant
    ]
