use Rattle.std.proofs.Common.{◌≡◌, ℕ, ◌∙◌, ◌∷◌, ◌++◌, ◌+◌, List, Result, ap, sym, drop}
use Rattle.std.specs.List.{filter_map}
use Rattle.std.specs.Result.{result_err, result_ok}
use Rattle.bt_value.specs.Refusals.{lowest_from}
use Rattle.bt_value.specs.declared.refusal.Refusal.{Refusal}
use Rattle.bt_value.specs.declared.value.Value.{Value}
use Rattle.bt_value.proofs.offered.Readings.{is_answer, with_refusal, with_value}
use Rattle.bt_row.specs.Schemas.{read_as}
use Rattle.bt_load.specs.Loads.{typed_from}
use Rattle.bt_load.proofs.Typed.{typed_next}
use Rattle.bt_load.proofs.typing.type_in_turn.Goals as goal

pub loop-place-preserved : goal.loop-place-preserved
loop-place-preserved c =
    let columns = c.args.schema.now.columns in
    let item : ℕ = 1 in
    let place = c.loop-place.place in
    let records = c.args.records.now in
    let read = c.read_row-read.result in
    let others = typed_from columns (item + (place + 1)) (drop (place + 1) records) in
    let more : typed_from columns (item + place) (drop place records) ≡ read ∷ others =
    typed_next columns item place records c.index-records-place.result c.loop-place-test.true
    ∙ ap (λ (answer : Result (List Value) Refusal). answer ∷ others) (ap (read_as columns (item + place)) (sym c.index-records-place.is)
    ∙ is_answer _ read c.read_row-read.ensures c.in_ok-add.ensures.memory)
    in
    record {
      values = sym (with_value c.loop-place.reading.values c.add.new.self.values read others c.in_ok-add.ensures.values)
          ∙ ap (λ (l : List (Result (List Value) Refusal)). c.loop-place.reading.values ++ filter_map result_ok l) (sym more) ∙ c.loop-place.invariant.values;
      refusal = sym (with_refusal c.loop-place.reading.refusal c.add.new.self.refusal read others c.in_ok-add.ensures.refusal)
          ∙ ap (λ (l : List (Result (List Value) Refusal)). lowest_from c.loop-place.reading.refusal (filter_map result_err l)) (sym more) ∙ c.loop-place.invariant.refusal;
    }
