use Rattle.std.proofs.Common.{◌≡◌, ◌++◌, drop}
use Rattle.bt_keycode.specs.Codes.{code_of}
use Rattle.bt_fanout.specs.Entries.{picked}
use Rattle.bt_fanout.proofs.selecting.add_picked_codes.Given as goal

abbrev pub invariant-loop-place : goal.invariant-loop-place
invariant-loop-place l = l.fn.code ++ code_of (picked l.places l.row) ≡ l.code ++ code_of (picked (drop l.place-index l.places) l.row)
