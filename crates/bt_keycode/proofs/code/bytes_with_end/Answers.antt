use Rattle.std.proofs.Common.{arith}
use Rattle.bt_keycode.proofs.CodesOfOne.{end_written}
use Rattle.bt_keycode.proofs.code.bytes_with_end.Goals as goal

pub returns : goal.returns
returns c = end_written 22 c.args.plain.now c.copy_from_slice.new.self (omega (arith, c.requires)) c.copy_from_slice.ensures.after
