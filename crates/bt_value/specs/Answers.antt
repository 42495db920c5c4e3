-- The result of a call that can run out of memory.
use Rattle.std.specs.Prelude.{◌≡◌, ◌≢◌, Result, Ok, Err}
use Rattle.bt_value.specs.declared.refusal.Refusal.{Refusal}
use Rattle.bt_value.specs.declared.refusal.Refusal.TheVariants.{OutOfMemory}

-- a result is this answer, or says that the call ran out of memory
abbrev pub Answers : {T : Type 0} → Result T Refusal → Result T Refusal → Type 0
Answers answer (Ok value) = answer ≡ Ok value
Answers answer (Err refusal) = refusal ≢ OutOfMemory → answer ≡ Err refusal
