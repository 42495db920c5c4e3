use Rattle.std.proofs.Common.{◌≡◌, ◌∙◌, ◌∷◌, ◌++◌, ◌+◌, ◌*◌, ◌<◌, List, Result, refl, ap, sym, arith, length, drop}
use Rattle.std.proofs.lemmas.List.{append-nil}
use Rattle.std.specs.List.{filter_map}
use Rattle.std.specs.Result.{result_err, result_ok}
use Rattle.bt_row.specs.Ops.{ops_of}
use Rattle.bt_value.specs.Refusals.{lowest_from}
use Rattle.bt_row.specs.declared.operations.op.Op.{Op}
use Rattle.bt_value.specs.declared.refusal.Refusal.{Refusal}
use Rattle.bt_value.proofs.offered.Readings.{is_answer, with_refusal, with_value}
use Rattle.bt_rowtype.proofs.Groups.{op_of_fields, ops_end, ops_more}
use Rattle.bt_rowtype.proofs.upsert.read_groups.Goals as goal

pub loop-group-init : goal.loop-group-init
loop-group-init c =
    let keys : c.args.schema.now.keys ≡ c.keys-keys.result + 0 = omega (arith, c.keys-keys.ensures.value) in
    record {
      values = rw (c.in_ok-reading.ensures.values, ← keys) refl;
      refusal = rw (c.in_ok-reading.ensures.refusal, ← keys) refl;
    }

pub loop-group-preserved : goal.loop-group-preserved
loop-group-preserved c =
    let schema = c.args.schema.now in
    let item = c.args.item in
    let fields = c.args.fields.now in
    let place = c.keys-keys.result + 3 * c.loop-group.group in
    let next = c.keys-keys.result + 3 * (c.loop-group.group + 1) in
    let read = c.read_op-read.result in
    let in_fields : place + 2 < length fields = omega arith in
    let three : place + 3 ≡ next = omega arith in
    let spelled = op_of_fields schema item fields place c.get-word.result.now c.get-name.result.now c.get-argument.result.now c.get-word.ensures c.get-name.ensures c.get-argument.ensures
    ∙ is_answer _ read c.read_op-read.ensures.answer c.in_ok-add.ensures.memory in
    let more : ops_of schema item (drop place fields) ≡ read ∷ ops_of schema item (drop next fields) =
    ops_more schema item fields place in_fields ∙ ap (λ (o : Result Op Refusal). o ∷ ops_of schema item (drop (place + 3) fields)) spelled
    ∙ ap (λ n. read ∷ ops_of schema item (drop n fields)) three in
    record {
      values = c.loop-group.invariant.values ∙ ap (λ (l : List (Result Op Refusal)). c.loop-group.reading.values ++ filter_map result_ok l) more
          ∙ with_value c.loop-group.reading.values c.add.new.self.values read (ops_of schema item (drop next fields)) c.in_ok-add.ensures.values;
      refusal = c.loop-group.invariant.refusal ∙ ap (λ (l : List (Result Op Refusal)). lowest_from c.loop-group.reading.refusal (filter_map result_err l)) more
          ∙ with_refusal c.loop-group.reading.refusal c.add.new.self.refusal read (ops_of schema item (drop next fields)) c.in_ok-add.ensures.refusal;
    }

pub returns-clause-values : goal.returns-clause-values
returns-clause-values c =
    let none = ops_end c.args.schema.now c.args.item c.args.fields.now (c.keys-keys.result + 3 * c.loop-group.group) (omega arith) in
    sym (c.loop-group.invariant.values ∙ ap (λ (l : List (Result Op Refusal)). c.loop-group.reading.values ++ filter_map result_ok l) none ∙ append-nil c.loop-group.reading.values)

pub returns-clause-refusal : goal.returns-clause-refusal
returns-clause-refusal c =
    let none = ops_end c.args.schema.now c.args.item c.args.fields.now (c.keys-keys.result + 3 * c.loop-group.group) (omega arith) in
    sym (c.loop-group.invariant.refusal ∙ ap (λ (l : List (Result Op Refusal)). lowest_from c.loop-group.reading.refusal (filter_map result_err l)) none)
