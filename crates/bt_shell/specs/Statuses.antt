-- The exit statuses of the program, and the lines of its faults.
use Rattle.std.specs.Prelude.{◌≡◌, ◌⊎◌, ℕ, true, List, Option, codes}
use Rattle.bt_script.specs.Streams.{Took, TookPrefix, error_line, fault_text, has_failed}
use Rattle.bt_script.specs.declared.counted.Counted.{Counted}
use Rattle.bt_shell.specs.declared.program_run.ProgramFault.{ProgramFault}
use Rattle.bt_shell.specs.declared.program_run.ProgramFault.TheVariants.{Arguments, Run}

-- the status of a fault
abbrev pub status_of : ProgramFault → ℕ
status_of Arguments = 2
status_of (Run fault) = 1

-- the text of a fault
abbrev pub text_of : ProgramFault → List ℕ
text_of Arguments = codes "faulty command line"
text_of (Run fault) = fault_text fault

-- the line of a fault
abbrev pub line_of : ProgramFault → List ℕ
line_of fault = error_line (text_of fault)

-- a stream took the line of a fault, or has failed and took a prefix of it
abbrev pub TookLine : {E : Type 0} → (E → Option (List ℕ)) → Counted E → Counted E → ProgramFault → Type 0
TookLine contents old new fault = Took contents old new (line_of fault) ⊎ ((has_failed new ≡ true) × TookPrefix contents old new (line_of fault))
