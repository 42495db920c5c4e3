use Rattle.std.proofs.Common.{◌≡◌, ◌≢◌, ◌∙◌, arith, sym, ap, refl, false}
use Rattle.std.proofs.lemmas.Bool.{false≢true}
use Rattle.csv.specs.Machine.{is_end}
use Rattle.bt_record.specs.inside.CsvStates.{csv_action, csv_state}
use Rattle.bt_record.specs.declared.csv_states.ByteAction.{ByteAction}
use Rattle.bt_record.specs.declared.csv_states.ByteAction.TheVariants as action
use Rattle.bt_record.proofs.RecordEnds.{ends_here, ends_last, inside_more, inside_start}
use Rattle.bt_record.proofs.csv_states.record_end.Goals.{in-EndRecord, in_default}
use Rattle.bt_record.proofs.csv_states.record_end.Goals as goal

pub loop-place-init : goal.loop-place-init
loop-place-init c = inside_start c.args.text.now

pub returns-then-matches-clause-ends : goal.returns-then-matches-clause-ends
returns-then-matches-clause-ends c =
    elim c.match-matches.branch [
      | in-EndRecord w ↦
          ends_here c.args.text.now c.loop-place.place (csv_state c.loop-place.state) (csv_action c.step-next.result.1) c.requires c.loop-place-test.true
          c.step-next.ensures.action (ap csv_action w.in-EndRecord.is) c.loop-place.invariant
      | in_default w ↦ absurd (false≢true (sym w.matches-is ∙ c.if-matches.true))
    ]

-- no other action ends a record
no_end : (a : ByteAction) → a ≢ action.EndRecord → is_end (csv_action a) ≡ false
no_end action.Skip other = refl
no_end action.Copy other = refl
no_end action.EndField other = refl
no_end action.EndRecord other = absurd (other refl)

pub loop-place-preserved : goal.loop-place-preserved
loop-place-preserved c =
    let s = csv_state c.loop-place.state in
    let t = csv_state c.step-next.result.0 in
    let x = csv_action c.step-next.result.1 in
    elim c.match-matches.branch [
      | in-EndRecord w ↦ absurd (false≢true (sym c.if-matches.false ∙ w.matches-is))
      | in_default w ↦ inside_more c.args.text.now c.loop-place.place s t x c.loop-place-test.true c.step-next.ensures.action c.step-next.ensures.state
          (no_end c.step-next.result.1 w.in_default.not-EndRecord) c.loop-place.invariant
    ]

pub returns-clause-ends : goal.returns-clause-ends
returns-clause-ends c = ends_last c.args.text.now c.loop-place.place (csv_state c.loop-place.state) c.requires (omega arith) c.loop-place.invariant
