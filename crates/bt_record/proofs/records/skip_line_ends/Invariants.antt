use Rattle.std.proofs.Common.{◌≡◌, length}
use Rattle.csv.specs.Reading.{default_config, records}
use Rattle.bt_record.proofs.records.skip_line_ends.Given as goal

-- the rest has the same records
abbrev pub invariant-loop-rest : goal.invariant-loop-rest
invariant-loop-rest l = records default_config l.rest ≡ records default_config l.text

abbrev pub decreases-loop-rest : goal.decreases-loop-rest
decreases-loop-rest l = length l.rest
