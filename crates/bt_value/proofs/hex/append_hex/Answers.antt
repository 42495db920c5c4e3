use Rattle.std.proofs.Common.{◌++◌, ◌∙◌, ℕ, List, ap, append-nil, arith, sym}
use Rattle.std.proofs.lemmas.List.{take_all}
use Rattle.bt_value.specs.Hex.{hex_text}
use Rattle.bt_value.proofs.HexTexts.{one_more}
use Rattle.bt_value.proofs.hex.append_hex.Goals as goal

pub loop-byte-init : goal.loop-byte-init
loop-byte-init c = record { text = sym (append-nil c.args.out.now.items); room = omega arith }

pub loop-byte-preserved : goal.loop-byte-preserved
loop-byte-preserved c = record {
  text =
      one_more c.args.out.now.items c.loop-byte.out.items c.add_two_digits.new.out.items c.args.bytes.now c.loop-byte.byte-index c.loop-byte-test.true c.loop-byte.invariant.text
      c.add_two_digits.ensures.text;
  room = omega arith;
}

pub returns-clause-text : goal.returns-clause-text
returns-clause-text c = c.loop-byte.invariant.text ∙ ap (λ (bs : List ℕ). c.args.out.now.items ++ hex_text bs) (take_all c.loop-byte.byte-index c.args.bytes.now c.loop-byte-test.false)
