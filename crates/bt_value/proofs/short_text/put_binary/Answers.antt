use Rattle.std.proofs.Common.{◌++◌, ◌≡◌, ◌∙◌, ℕ, List, ap, arith, take}
use Rattle.std.proofs.lemmas.List.{take_all}
use Rattle.csv.specs.Writing.{default_writer, field_text}
use Rattle.bt_value.specs.Hex.{hex_text}
use Rattle.bt_value.proofs.FieldTexts.{hex_field}
use Rattle.bt_value.proofs.HexTexts.{one_more}
use Rattle.bt_value.proofs.short_text.put_binary.Goals as goal

pub loop-byte-preserved : goal.loop-byte-preserved
loop-byte-preserved c = record {
  text =
      one_more (take c.args.at c.args.room.now) (take c.loop-byte.end c.loop-byte.room) (take c.put_two_digits-end.result c.put_two_digits-end.new.room) c.args.bytes.now c.loop-byte.byte-index
      c.loop-byte-test.true c.loop-byte.invariant.text c.put_two_digits-end.ensures.text;
  end = omega (arith, c.put_two_digits-end.ensures.end, c.loop-byte.invariant.end);
}

pub returns-clause-text : goal.returns-clause-text
returns-clause-text c =
    let plain : field_text default_writer (hex_text c.args.bytes.now) ≡ hex_text c.args.bytes.now = hex_field c.args.bytes.now in
    rw plain (c.loop-byte.invariant.text ∙ ap (λ (bs : List ℕ). take c.args.at c.args.room.now ++ hex_text bs) (take_all c.loop-byte.byte-index c.args.bytes.now c.loop-byte-test.false))
