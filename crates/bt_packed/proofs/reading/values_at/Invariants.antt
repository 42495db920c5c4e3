use Rattle.std.proofs.Common.{◌≡◌, [], drop}
use Rattle.bt_packed.specs.Layout.{values_from}
use Rattle.bt_packed.proofs.reading.values_at.Given as goal

-- what is read from here on, after the values so far, is what is read in all
abbrev pub invariant-loop-place : goal.invariant-loop-place
invariant-loop-place l = values_from l.item l.columns 0 [] l.fn.bytes ≡ values_from l.item (drop l.place l.columns) l.place l.row l.rest
