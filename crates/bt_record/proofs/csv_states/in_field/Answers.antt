use Rattle.std.proofs.Common.{◌≡◌, ◌⊎◌, ℕ, refl}
use Rattle.std.proofs.Math.Logic.{⊎_elim}
use Rattle.csv.specs.Machine.{in_field}
use Rattle.csv.specs.Reading.{default_config}
use Rattle.csv.specs.declared.parser.Action.TheVariants.{EndRecord}
use Rattle.bt_record.proofs.csv_states.in_field.Goals as goal

pub returns-in-44-clause-action : goal.returns-in-44-clause-action
returns-in-44-clause-action c = rw c.in-44.is refl

pub returns-in-44-clause-state : goal.returns-in-44-clause-state
returns-in-44-clause-state c more = rw c.in-44.is refl

-- a line end ends the record
line_end : (b : ℕ) → (b ≡ 10) ⊎ (b ≡ 13) → EndRecord ≡ (in_field default_config b).1
line_end b is = ⊎_elim (λ (feed : b ≡ 10). rw feed refl) (λ (return : b ≡ 13). rw return refl) is

pub returns-in-13-clause-action : goal.returns-in-13-clause-action
returns-in-13-clause-action c = line_end c.args.byte c.in-13.is
