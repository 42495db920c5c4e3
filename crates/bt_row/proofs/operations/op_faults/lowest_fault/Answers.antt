use Rattle.std.proofs.Common.{◌+◌, ◌∙◌, ◌∷◌, List, Option, ap, arith, drop, subst, sym}
use Rattle.std.proofs.lemmas.List.{drop_more}
use Rattle.std.specs.List.{filter_map}
use Rattle.std.specs.Option.{option_to_list}
use Rattle.bt_row.specs.Fits.{OpsInRange}
use Rattle.bt_row.specs.Ops.{fault_of}
use Rattle.bt_row.specs.declared.operations.op.Op.{Op}
use Rattle.bt_row.proofs.LeastFaults.{one_fault}
use Rattle.bt_value.specs.Refusals.{lowest_from}
use Rattle.bt_value.specs.declared.refusal.Refusal.{Refusal}
use Rattle.bt_row.proofs.operations.op_faults.lowest_fault.Goals as goal

pub loop-op-preserved : goal.loop-op-preserved
loop-op-preserved c =
    let ops = c.args.ops.now in
    let place = c.loop-op.op-index in
    let faults = filter_map (fault_of c.args.schema.now c.args.item) in
    let found = c.loop-op.found in
    let next = drop_more ops place c.op-item.result (omega arith) ∙ ap (λ (op : Op). op ∷ drop (place + 1) ops) (sym c.op-item.is) in
    let lowest = c.with_fault-found.ensures ∙ ap (λ (fault : Option Refusal). lowest_from found (option_to_list fault)) c.fault_of.ensures.fault in
    record {
      fault = c.loop-op.invariant.fault ∙ ap (λ (ops : List Op). lowest_from found (faults ops)) next
          ∙ one_fault found (fault_of c.args.schema.now c.args.item c.op-item.result) (faults (drop (place + 1) ops))
          ∙ ap (λ (fault : Option Refusal). lowest_from fault (faults (drop (place + 1) ops))) (sym lowest);
      in_range = λ rest. c.loop-op.invariant.in_range (subst OpsInRange (sym next) (c.fault_of.ensures.in_range, rest));
    }
