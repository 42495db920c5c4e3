use Rattle.std.proofs.Common.{◌≡◌, ◌∙◌, ◌∷◌, ◌++◌, ◌+◌, List, Result, ap, sym, drop}
use Rattle.std.specs.List.{filter_map}
use Rattle.std.specs.Result.{result_err, result_ok}
use Rattle.bt_batch.specs.Batches.{KeyedMessage, read_batch, read_message}
use Rattle.bt_batch.proofs.Batches.{read_next}
use Rattle.bt_value.proofs.offered.Readings.{is_answer, with_refusal, with_value}
use Rattle.bt_value.specs.Refusals.{lowest_from}
use Rattle.bt_value.specs.declared.refusal.Refusal.{Refusal}
use Rattle.bt_batch.proofs.line_messages.read_lines.Goals as goal

pub loop-place-preserved : goal.loop-place-preserved
loop-place-preserved c =
    let schema = c.args.schema.now in
    let before = c.args.before in
    let place = c.loop-place.place in
    let lines = c.args.lines.now in
    let read = c.read_message.result in
    let others = read_batch schema (before + (place + 1) + 1) (drop (place + 1) lines) in
    let more : read_batch schema (before + place + 1) (drop place lines) ≡ read ∷ others =
    read_next schema before place lines c.index-lines-place.result c.loop-place-test.true
    ∙ ap (λ (answer : Result KeyedMessage Refusal). answer ∷ others) (ap (read_message schema (before + place + 1)) (sym c.index-lines-place.is)
    ∙ is_answer _ read c.read_message.ensures c.in_ok-add.ensures.memory)
    in
    record {
      messages = c.loop-place.invariant.messages
          ∙ ap (λ (l : List (Result KeyedMessage Refusal)). c.loop-place.reading.values ++ filter_map result_ok l) more
          ∙ with_value c.loop-place.reading.values c.add.new.self.values read others c.in_ok-add.ensures.values;
      refusal = c.loop-place.invariant.refusal
          ∙ ap (λ (l : List (Result KeyedMessage Refusal)). lowest_from c.loop-place.reading.refusal (filter_map result_err l)) more
          ∙ with_refusal c.loop-place.reading.refusal c.add.new.self.refusal read others c.in_ok-add.ensures.refusal;
    }
