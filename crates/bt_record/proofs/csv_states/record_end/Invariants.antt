use Rattle.bt_record.specs.inside.CsvStates.{csv_state}
use Rattle.bt_record.proofs.RecordEnds.{Inside}
use Rattle.bt_record.proofs.csv_states.record_end.Given as goal

-- no record ends before this place
abbrev pub invariant-loop-place : goal.invariant-loop-place
invariant-loop-place l = Inside l.text l.place (csv_state l.state)
