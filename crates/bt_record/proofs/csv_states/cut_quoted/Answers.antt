use Rattle.std.proofs.Common.{◌≡◌, ◌≤◌, ◌++◌, ◌∷◌, [], ◌∙◌, arith, sym, ap, refl, false, true, List, Option, Some, ℕ, length, length-append, get_or, drop, is_some, option_map, unwrap_or}
use Rattle.std.proofs.lemmas.Bool.{false≢true}
use Rattle.csv.specs.Machine.{Read, is_end, next_record}
use Rattle.csv.specs.Reading.{default_config}
use Rattle.csv.specs.declared.parser.Action.{Action}
use Rattle.csv.specs.declared.parser.Action.TheVariants as act
use Rattle.bt_record.specs.inside.Pieces.{pieces}
use Rattle.bt_record.specs.inside.CsvStates.{csv_action, csv_state}
use Rattle.bt_record.specs.declared.csv_states.State.{State}
use Rattle.bt_record.specs.declared.csv_states.State.TheVariants as state
use Rattle.bt_record.proofs.Found.{many_fields}
use Rattle.bt_record.proofs.Pieces.{copied_field, copied_fields, ended_fields, ended_within, length_pieces, none_left, same_field, same_fields}
use Rattle.bt_record.proofs.ReaderSteps.{TakesByte, one_more, record_ends, text_ends, nothing_left}
use Rattle.bt_record.proofs.csv_states.cut_quoted.Goals.{in-Skip, in-Copy+in_ok-push-in-Copy, in-EndField+in_ok-push-in-EndField}
use Rattle.bt_record.proofs.csv_states.cut_quoted.Goals as goal

-- the end of a text that has a record
last_field : (s : State) (text : List ℕ) (i : ℕ) (fields fields_new : List (List ℕ)) (field : List ℕ) → length text ≤ i
    → is_some (option_map (λ p. p.0) (next_record default_config (csv_state s) fields field (drop i text))) ≡ true → fields_new ≡ fields ++ field ∷ []
    → Some fields_new ≡ option_map (λ p. p.0) (next_record default_config (csv_state s) fields field (drop i text))
last_field state.Record text i fields fields_new field past found is = absurd (false≢true (ap is_some (nothing_left text i (csv_state state.Record) fields field past refl) ∙ found))
last_field state.Field text i fields fields_new field past found is = text_ends text i (csv_state state.Field) fields fields_new field past refl is
last_field state.Plain text i fields fields_new field past found is = text_ends text i (csv_state state.Plain) fields fields_new field past refl is
last_field state.Quoted text i fields fields_new field past found is = text_ends text i (csv_state state.Quoted) fields fields_new field past refl is
last_field state.Quote text i fields fields_new field past found is = text_ends text i (csv_state state.Quote) fields fields_new field past refl is

pub returns-then-len-most-clause-many : goal.returns-then-len-most-clause-many
returns-then-len-most-clause-many c = λ _.
    let bytes = c.loop-byte.bytes.items in
    let spans = c.loop-byte.spans.items in
    let more = many_fields c.args.text.now (drop c.loop-byte.byte-index c.args.text.now) (csv_state c.loop-byte.state) (pieces bytes spans)
    (drop c.loop-byte.start bytes) c.requires c.loop-byte.invariant.reads in
    omega (arith, more, length_pieces bytes spans)

pub returns-then-len-most-2-clause-many : goal.returns-then-len-most-2-clause-many
returns-then-len-most-2-clause-many c = λ _.
    let bytes = c.loop-byte.bytes.items in
    let spans = c.loop-byte.spans.items in
    let more = many_fields c.args.text.now (drop c.loop-byte.byte-index c.args.text.now) (csv_state c.loop-byte.state) (pieces bytes spans)
    (drop c.loop-byte.start bytes) c.requires c.loop-byte.invariant.reads in
    omega (arith, more, length_pieces bytes spans)

pub returns-in-EndRecord-clause-fields : goal.returns-in-EndRecord-clause-fields
returns-in-EndRecord-clause-fields c = λ _.
    let bytes = c.loop-byte.bytes.items in
    let spans = c.loop-byte.spans.items in
    let ended = ended_fields bytes bytes spans c.push-in-EndRecord.new.self.items c.loop-byte.start c.len-end.result refl c.in_ok-push-in-EndRecord.ensures.items (omega arith) in
    let done = record_ends c.args.text.now c.loop-byte.byte-index (csv_state c.loop-byte.state) (csv_action c.step-next.result.1) (pieces bytes spans) (pieces bytes c.push-in-EndRecord.new.self.items)
    (drop c.loop-byte.start bytes) c.loop-byte-test.true c.step-next.ensures.action (ap csv_action c.in-EndRecord.is) ended in
    ap (λ (found : Option Read). unwrap_or (option_map (λ p. p.0) found) []) c.loop-byte.invariant.reads ∙ ap (λ (o : Option (List (List ℕ))). unwrap_or o []) (sym done)

pub returns-in-EndRecord-clause-within : goal.returns-in-EndRecord-clause-within
returns-in-EndRecord-clause-within c = λ _.
    ended_within (length c.loop-byte.bytes.items) c.loop-byte.spans.items c.push-in-EndRecord.new.self.items c.loop-byte.start c.len-end.result
    c.loop-byte.invariant.within (omega (arith, c.loop-byte.invariant.starts)) (omega arith)
    c.in_ok-push-in-EndRecord.ensures.items

pub loop-byte-preserved : goal.loop-byte-preserved
loop-byte-preserved c =
    let text = c.args.text.now in
    let i = c.loop-byte.byte-index in
    let s = csv_state c.loop-byte.state in
    let t = csv_state c.match-action.state in
    let x = csv_action c.step-next.result.1 in
    let old = c.loop-byte.bytes.items in
    let new = c.match-action.bytes.items in
    let spans = c.loop-byte.spans.items in
    let spans_new = c.match-action.spans.items in
    let start = c.loop-byte.start in
    let start_new = c.match-action.start in
    let fields = pieces old spans in
    let field = drop start old in
    let byte : (a : Action) → x ≡ a → is_end a ≡ false → t ≡ csv_state c.step-next.result.0 → TakesByte text i s t a = λ a action more state.
    let is = c.step-next.ensures in
    record { within = c.loop-byte-test.true; action = sym action ∙ is.action; state = state ∙ is.state (ap is_end action ∙ more); more = more } in
    let within = c.loop-byte.invariant.within in
    let starts = c.loop-byte.invariant.starts in
    elim c.match-action.branch [
      | in-Skip w ↦
          let bytes_is : new ≡ old = ap (λ v. v.items) w.bytes-is in
          let spans_is : spans_new ≡ spans = ap (λ v. v.items) w.spans-is in
          record {
            starts = rw (bytes_is, w.start-is) starts;
            within = rw (spans_is, w.start-is) within;
            reads = c.loop-byte.invariant.reads ∙ one_more fields field (byte act.Skip (ap csv_action w.in-Skip.is) refl (ap csv_state w.state-is))
                (same_fields old new spans spans_new bytes_is spans_is) (same_field old new start start_new bytes_is w.start-is);
          }
      | in-Copy+in_ok-push-in-Copy w ↦
          let bytes_is = ap (λ v. v.items) w.bytes-is ∙ w.in_ok-push-in-Copy.ensures.items in
          let spans_is : spans_new ≡ spans = ap (λ v. v.items) w.spans-is in
          record {
            starts = omega (arith, starts, w.start-is, ap length bytes_is, length-append old (get_or text i 0 ∷ []));
            within = rw (spans_is, w.start-is) within;
            reads = c.loop-byte.invariant.reads ∙ one_more fields field (byte act.Copy (ap csv_action w.in-Copy.is) refl (ap csv_state w.state-is))
                (copied_fields old new spans spans_new start (get_or text i 0) within starts bytes_is spans_is) (copied_field old new start start_new (get_or text i 0) starts bytes_is w.start-is);
          }
      | in-EndField+in_ok-push-in-EndField w ↦
          let bytes_is : new ≡ old = ap (λ v. v.items) w.bytes-is in
          let spans_is = ap (λ v. v.items) w.spans-is ∙ w.in_ok-push-in-EndField.ensures.items in
          let end : c.len-end.result ≡ length old = omega arith in
          let start_is : start_new ≡ length old = omega (arith, w.start-is, end) in
          record {
            starts = omega (arith, start_is, ap length bytes_is);
            within = ended_within start_new spans spans_new start c.len-end.result within (omega (arith, starts, end)) (omega (arith, start_is, end)) spans_is;
            reads = c.loop-byte.invariant.reads ∙ one_more fields field (byte act.EndField (ap csv_action w.in-EndField.is) refl (ap csv_state w.state-is))
                (ended_fields old new spans spans_new start c.len-end.result bytes_is spans_is end) (none_left old new start_new bytes_is start_is);
          }
    ]

pub returns-clause-fields : goal.returns-clause-fields
returns-clause-fields c = λ _.
    let text = c.args.text.now in
    let i = c.loop-byte.byte-index in
    let bytes = c.loop-byte.bytes.items in
    let spans = c.loop-byte.spans.items in
    let reads = c.loop-byte.invariant.reads in
    let found = ap (λ (r : Option Read). is_some (option_map (λ p. p.0) r)) (sym reads) ∙ c.requires in
    let ended = ended_fields bytes bytes spans c.push-2.new.self.items c.loop-byte.start c.len-end-2.result refl c.in_ok-push.ensures.items (omega arith) in
    let done = last_field c.loop-byte.state text i (pieces bytes spans) (pieces bytes c.push-2.new.self.items) (drop c.loop-byte.start bytes) c.loop-byte-test.false found ended in
    ap (λ (r : Option Read). unwrap_or (option_map (λ p. p.0) r) []) reads ∙ ap (λ (o : Option (List (List ℕ))). unwrap_or o []) (sym done)

pub returns-clause-within : goal.returns-clause-within
returns-clause-within c = λ _.
    ended_within (length c.loop-byte.bytes.items) c.loop-byte.spans.items c.push-2.new.self.items c.loop-byte.start c.len-end-2.result
    c.loop-byte.invariant.within (omega (arith, c.loop-byte.invariant.starts)) (omega arith)
    c.in_ok-push.ensures.items
