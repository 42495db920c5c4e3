use Rattle.std.proofs.Common.{arith, take}
use Rattle.bt_value.proofs.Quotes.{more_escaped, none_escaped}
use Rattle.bt_value.proofs.short_text.put_quoted.Goals as goal

pub loop-byte-init : goal.loop-byte-init
loop-byte-init c = record {
  text = none_escaped (take c.args.at c.args.room.now) (take c.put_byte-end.result c.put_byte-end.new.room) c.put_byte-end.ensures.text;
  end = omega (arith, c.put_byte-end.ensures.end);
}

pub loop-byte-preserved : goal.loop-byte-preserved
loop-byte-preserved c = record {
  text =
      more_escaped (take c.args.at c.args.room.now) (take c.loop-byte.end c.loop-byte.room) (take c.put_escaped-end.result c.put_escaped-end.new.room) c.args.text.now c.loop-byte.byte-index
      c.loop-byte-test.true c.loop-byte.invariant.text c.put_escaped-end.ensures.text;
  end = omega (arith, c.put_escaped-end.ensures.room, c.loop-byte.invariant.end);
}
