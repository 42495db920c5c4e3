use Rattle.std.proofs.Common.{◌≡◌, ◌∙◌, ◌+◌, ◌*◌, ◌<◌, ◌∷◌, List, Option, ap, arith, drop, fold, length, sym}
use Rattle.bt_fault.specs.Reasons.{lower_reason, op_reason, op_reasons}
use Rattle.bt_fault.specs.declared.reason.Reason.{Reason}
use Rattle.bt_fault.proofs.Groups.{reasons_end, reasons_more}
use Rattle.bt_fault.proofs.upsert.ops_reason.Goals as goal

pub loop-group-preserved : goal.loop-group-preserved
loop-group-preserved c =
    let schema = c.args.schema.now in
    let item = c.args.item in
    let fields = c.args.fields.now in
    let place = c.keys-keys.result + 3 * c.loop-group.group in
    let next = c.keys-keys.result + 3 * (c.loop-group.group + 1) in
    let found = c.loop-group.found in
    let in_fields : place + 2 < length fields = omega arith in
    let three : place + 3 ≡ next = omega arith in
    let here = op_reason schema item place c.get-word.result.now c.get-name.result.now c.get-argument.result.now in
    let more : op_reasons schema item place (drop place fields) ≡ here ∷ op_reasons schema item next (drop next fields) =
    reasons_more schema item fields place c.get-word.result.now c.get-name.result.now c.get-argument.result.now in_fields c.get-word.ensures c.get-name.ensures c.get-argument.ensures
    ∙ ap (λ n. here ∷ op_reasons schema item n (drop n fields)) three in
    let so_far : lower_reason found here ≡ c.lower_reason-found.result = sym (c.lower_reason-found.ensures ∙ ap (lower_reason found) c.op_reason-reason.ensures) in
    c.loop-group.invariant ∙ ap (λ (rs : List (Option Reason)). fold lower_reason found rs) more
    ∙ ap (λ (f : Option Reason). fold lower_reason f (op_reasons schema item next (drop next fields))) so_far

pub returns : goal.returns
returns c =
    let none = reasons_end c.args.schema.now c.args.item c.args.fields.now (c.keys-keys.result + 3 * c.loop-group.group) (omega arith) in
    sym (c.loop-group.invariant ∙ ap (λ (rs : List (Option Reason)). fold lower_reason c.loop-group.found rs) none)
