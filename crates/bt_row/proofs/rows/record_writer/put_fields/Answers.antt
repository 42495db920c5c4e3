use Rattle.std.proofs.Common.{◌≡◌, ◌∙◌, ◌++◌, ◌∷◌, [], ℕ, List, ap, arith, length, length-take, refl, sym, take}
use Rattle.bt_value.specs.Views.{value_of_ref}
use Rattle.bt_row.proofs.Packing.{length_packed}
use Rattle.bt_row.proofs.RecordTexts.{blank, something, width, wrote_all, wrote_more, wrote_none}
use Rattle.bt_row.proofs.rows.record_writer.put_fields.Goals as goal

pub loop-value-init : goal.loop-value-init
loop-value-init c = record { wrote = wrote_none c.args.values []; room = omega (arith, c.requires); size = c.told-room }

pub put_field-end-requires : goal.put_field-end-requires
put_field-end-requires c =
    omega (
      arith,
      c.loop-value.invariant.room,
      width c.loop-value.rest c.next.new.self (value_of_ref c.in-Some.value) c.in-Some.ensures.some,
      length_packed (value_of_ref c.in-Some.value) c.next.new.self,
    )

pub loop-value-preserved : goal.loop-value-preserved
loop-value-preserved c = record {
  wrote =
      wrote_more c.args.values c.loop-value.rest c.next.new.self c.loop-value.place [] (take c.loop-value.end c.loop-value.room) (take c.put_field-end.result c.put_field-end.new.room)
      (value_of_ref c.in-Some.value) c.loop-value.invariant.wrote c.in-Some.ensures.some c.put_field-end.ensures.text;
  room = omega (
    arith,
    c.loop-value.invariant.room,
    c.put_field-end.ensures.room,
    width c.loop-value.rest c.next.new.self (value_of_ref c.in-Some.value) c.in-Some.ensures.some,
    length_packed (value_of_ref c.in-Some.value) c.next.new.self,
  );
  size = c.put_field-end.array_long;
}

pub loop-value-smaller : goal.loop-value-smaller
loop-value-smaller c = omega (arith, ap length c.in-Some.ensures.some)

pub returns-then-end-eq0-clause-text : goal.returns-then-end-eq0-clause-text
returns-then-end-eq0-clause-text c =
    let out = take c.loop-value.end c.loop-value.room in
    let values = c.args.values in
    let wrote = wrote_all values c.loop-value.rest c.loop-value.place [] out c.loop-value.invariant.wrote c.in_default.ensures.none.0 in
    let none : out ≡ [] = ap (λ (n : ℕ). take n c.loop-value.room) c.if-end-eq0.true in
    c.put_byte.ensures.text ∙ ap (λ (t : List ℕ). t ++ 34 ∷ []) c.put_byte-second.ensures.text ∙ blank [] [] values (sym none ∙ wrote) refl

pub returns-clause-text : goal.returns-clause-text
returns-clause-text c =
    let out = take c.loop-value.end c.loop-value.room in
    let values = c.args.values in
    let wrote = wrote_all values c.loop-value.rest c.loop-value.place [] out c.loop-value.invariant.wrote c.in_default.ensures.none.0 in
    something [] out values wrote (λ e. c.if-end-eq0.false (omega (arith, e, c.loop-value.invariant.size, c.loop-value.invariant.room, length-take c.loop-value.end c.loop-value.room)))
