use Rattle.std.proofs.Common.{◌≡◌, ◌≢◌, ◌==◌, ◌∙◌, ℕ, arith, ap, sym, refl, false, get_or, length}
use Rattle.std.proofs.lemmas.Bool.Decides.{nat_tests}
use Rattle.bt_value.specs.PlainFields.{is_special}
use Rattle.bt_record.specs.declared.fields.FieldSpan.{FieldSpan}
use Rattle.bt_record.proofs.Pieces.{more_spans}
use Rattle.bt_record.proofs.Plain.{cut_comma, cut_end, cut_other, plain_end, plain_more}
use Rattle.bt_record.proofs.offered.PlainTexts.{plain_text}
use Rattle.bt_record.proofs.commas.cut_plain.Goals.{then-byte-eq44+else-len-most+in_ok-push, else-byte-eq44+else-is_special}
use Rattle.bt_record.proofs.commas.cut_plain.Goals as goal

comma_is_plain : (b : ℕ) → b ≡ 44 → is_special b ≡ false
comma_is_plain b is = rw is refl

no_comma : (b : ℕ) → b ≢ 44 → (b == 44) ≡ false
no_comma b other = grind (arith, nat_tests)

pub loop-place-preserved : goal.loop-place-preserved
loop-place-preserved c =
    let text = c.args.text.now in
    let place = c.loop-place.place in
    let start = c.loop-place.start in
    let spans = c.loop-place.spans.items in
    let b = get_or text place 0 in
    let here = c.loop-place-test.true in
    let so_far = c.loop-place.invariant in
    elim c.if-byte-eq44.branch [
      | then-byte-eq44+else-len-most+in_ok-push w ↦
          let spans_is = ap (λ v. v.items) w.spans-is ∙ w.in_ok-push.ensures.items in
          record {
            starts = omega (arith, w.start-is);
            within = rw spans_is (more_spans (length text) spans (record { start = start; end = place }) so_far.within so_far.starts (omega arith));
            parts = rw (spans_is, w.start-is) (cut_comma text spans start place here w.if-byte-eq44.true so_far.parts);
            plain = so_far.plain ∙ plain_more text place here (comma_is_plain b w.if-byte-eq44.true);
          }
      | else-byte-eq44+else-is_special w ↦
          let spans_is = ap (λ v. v.items) w.spans-is in
          record {
            starts = omega (arith, w.start-is, so_far.starts);
            within = rw spans_is so_far.within;
            parts = rw (spans_is, w.start-is) (cut_other text spans start place so_far.starts here (no_comma b w.if-byte-eq44.false) so_far.parts);
            plain = so_far.plain ∙ plain_more text place here (sym w.is_special.ensures ∙ w.if-is_special.false);
          }
    ]

pub returns-clause-fields : goal.returns-clause-fields
returns-clause-fields c = λ _.
    let text = c.args.text.now in
    let place = c.loop-place.place in
    let end : place ≡ length text = omega arith in
    let plain = c.loop-place.invariant.plain ∙ plain_end text place end in
    plain_text text c.requires plain ∙ rw c.in_ok-push-2.ensures.items (cut_end text c.loop-place.spans.items c.loop-place.start place end c.loop-place.invariant.parts)

pub returns-clause-within : goal.returns-clause-within
returns-clause-within c = λ _.
    let text = c.args.text.now in
    let p : FieldSpan = record { start = c.loop-place.start; end = length text } in
    rw c.in_ok-push-2.ensures.items (more_spans (length text) c.loop-place.spans.items p c.loop-place.invariant.within (omega (arith, c.loop-place.invariant.starts)) (omega arith))
