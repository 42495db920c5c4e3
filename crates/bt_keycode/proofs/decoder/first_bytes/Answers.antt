use Rattle.bt_keycode.proofs.Decoding.{no_bytes}
use Rattle.bt_keycode.proofs.decoder.first_bytes.Goals as goal

pub returns-in_err-found-clause-none : goal.returns-in_err-found-clause-none
returns-in_err-found-clause-none c = rw c.from_residual.ensures (no_bytes c.args.bytes.now c.in_err-found.ensures.none)
