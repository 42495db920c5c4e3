use Rattle.std.proofs.Common.{arith}
use Rattle.bt_value.proofs.Quotes.{all_quoted, more_escaped, none_escaped}
use Rattle.bt_value.proofs.field_writer.write_quoted.Goals as goal

pub loop-byte-init : goal.loop-byte-init
loop-byte-init c = record {
  text = none_escaped c.args.out.now.items c.push_reserved.new.self.items c.push_reserved.ensures.items;
  room = omega arith;
}

pub loop-byte-preserved : goal.loop-byte-preserved
loop-byte-preserved c = record {
  text =
      more_escaped c.args.out.now.items c.loop-byte.out.items c.add_escaped.new.out.items c.args.text.now c.loop-byte.byte-index c.loop-byte-test.true c.loop-byte.invariant.text
      c.add_escaped.ensures.text;
  room = omega arith;
}

pub returns-clause-text : goal.returns-clause-text
returns-clause-text c =
    all_quoted c.args.out.now.items c.loop-byte.out.items c.push_reserved-2.new.self.items c.args.text.now c.loop-byte.byte-index c.loop-byte-test.false c.loop-byte.invariant.text
    c.push_reserved-2.ensures.items
