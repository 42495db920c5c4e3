use Rattle.std.proofs.Common.{◌≡◌}
use Rattle.example_service.proofs.Service.count.Given as goal

-- the changes so far were checked by the schema of the table
abbrev pub invariant-loop-name : goal.invariant-loop-name
invariant-loop-name g l = l.changes.schema ≡ l.initial.changes.schema
