use Rattle.std.proofs.Common.{◌∙◌, ◌++◌, ◌∷◌, [], ℕ, List, ap, rules, arith, length, append_assoc}
use Rattle.bt_value.specs.Views.{value_of_ref}
use Rattle.bt_row.proofs.Packing.{length_packed}
use Rattle.bt_row.proofs.RecordTexts.{blank, something, width, wrote_all, wrote_more, wrote_none}
use Rattle.bt_row.proofs.rows.record_writer.write_fields.Goals as goal

pub loop-value-init : goal.loop-value-init
loop-value-init c = record { wrote = wrote_none c.args.values c.args.out.now.items; room = c.requires.room }

pub write_field-requires : goal.write_field-requires
write_field-requires c =
    omega (arith, width c.loop-value.rest c.next.new.self (value_of_ref c.in-Some.value) c.in-Some.ensures.some, length_packed (value_of_ref c.in-Some.value) c.next.new.self)

pub loop-value-preserved : goal.loop-value-preserved
loop-value-preserved c = record {
  wrote =
      wrote_more c.args.values c.loop-value.rest c.next.new.self c.loop-value.place c.args.out.now.items c.loop-value.out.items c.write_field.new.out.items (value_of_ref c.in-Some.value)
      c.loop-value.invariant.wrote c.in-Some.ensures.some c.write_field.ensures.text;
  room = omega (arith, width c.loop-value.rest c.next.new.self (value_of_ref c.in-Some.value) c.in-Some.ensures.some, length_packed (value_of_ref c.in-Some.value) c.next.new.self);
}

pub loop-value-smaller : goal.loop-value-smaller
loop-value-smaller c = omega (arith, ap length c.in-Some.ensures.some)

pub returns-then-len-start : goal.returns-then-len-start
returns-then-len-start c =
    let old = c.args.out.now.items in
    let out = c.loop-value.out.items in
    let values = c.args.values in
    let wrote = wrote_all values c.loop-value.rest c.loop-value.place old out c.loop-value.invariant.wrote c.in_default.ensures.none.0 in
    c.push_reserved-then-len-start.ensures.items ∙ ap (λ (t : List ℕ). t ++ 34 ∷ []) c.push_reserved.ensures.items ∙ append_assoc out (34 ∷ []) (34 ∷ []) ∙ blank old out values wrote (search rules)

pub returns-else-len-start : goal.returns-else-len-start
returns-else-len-start c =
    let old = c.args.out.now.items in
    let out = c.loop-value.out.items in
    let values = c.args.values in
    let wrote = wrote_all values c.loop-value.rest c.loop-value.place old out c.loop-value.invariant.wrote c.in_default.ensures.none.0 in
    something old out values wrote (λ e. c.if-len-start.false (search rules))
