use Rattle.std.proofs.Common.{◌∙◌, sym}
use Rattle.bt_fanout.proofs.Naming.{both_faulty, stays_refused}
use Rattle.bt_fanout.proofs.definition_parts.read_parts.Goals as goal

pub returns-in-Some-clause-answer : goal.returns-in-Some-clause-answer
returns-in-Some-clause-answer c memory =
    both_faulty _ _ c.in-Some.fault c.refusal_with.result (sym c.in-Some.is ∙ c.chosen_fault.ensures.fault)
    (c.refusal_with.ensures _ c.read_condition_in-read.ensures.answer c.read_condition_in-read.ensures.certain)

pub returns-in-Some-clause-certain : goal.returns-in-Some-clause-certain
returns-in-Some-clause-certain c =
    stays_refused _ _ c.refusal_with.result
    (both_faulty _ _ c.in-Some.fault c.refusal_with.result (sym c.in-Some.is ∙ c.chosen_fault.ensures.fault)
    (c.refusal_with.ensures _ c.read_condition_in-read.ensures.answer c.read_condition_in-read.ensures.certain))
