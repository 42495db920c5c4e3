use Rattle.std.proofs.Common.{◌≡◌, drop}
use Rattle.bt_rowtype.specs.Loads.{is_header}
use Rattle.bt_rowtype.proofs.header.is_header.Given as goal

-- the result depends only on the names from here on
abbrev pub invariant-loop-place : goal.invariant-loop-place
invariant-loop-place l = is_header l.columns l.names ≡ is_header (drop l.place l.columns) (drop l.place l.names)
