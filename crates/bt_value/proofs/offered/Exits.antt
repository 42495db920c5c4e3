-- The result of a call at the exit of a `?`. Serves functions that pass an error on.
use Rattle.std.proofs.Common.{◌≡◌, ◌≢◌, Result, Ok, Err}
use Rattle.std.specs.Result.{IsErrAnd}
use Rattle.bt_value.specs.Answers.{Answers}
use Rattle.bt_value.specs.declared.refusal.Refusal.{Refusal}
use Rattle.bt_value.specs.declared.refusal.Refusal.TheVariants.{OutOfMemory}

-- a refusal that is passed on
pub answers_on_err : {T : Type 0} (answer r : Result T Refusal) (e : Refusal) → IsErrAnd r (λ other. other ≡ e) → (e ≢ OutOfMemory → answer ≡ Err e) → Answers answer r
answers_on_err answer (Ok x) e is refused = absurd is
answers_on_err answer (Err other) e is refused = rw is refused
