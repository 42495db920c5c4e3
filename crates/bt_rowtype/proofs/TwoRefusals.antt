-- Two refusals: both results are then the smaller one.
use Rattle.std.proofs.Common.{◌≡◌, ◌≢◌, ◌∙◌, Result, Err, ap, subst, sym}
use Rattle.bt_value.specs.Answers.{Answers}
use Rattle.bt_value.specs.Refusals.{lower}
use Rattle.bt_value.specs.Results.{both_read}
use Rattle.bt_value.specs.declared.refusal.Refusal.{Refusal}
use Rattle.bt_value.specs.declared.refusal.Refusal.TheVariants.{OutOfMemory}

pub both_refused : {S T : Type 0} (one first : Result S Refusal) (other second : Result T Refusal) (a b lowest : Refusal)
    → first ≡ Err a → a ≢ OutOfMemory → second ≡ Err b → b ≢ OutOfMemory → lowest ≡ lower a b → Answers one first → Answers other second → both_read one other ≡ Err lowest
both_refused one first other second a b lowest is some also too is_lowest as_one as_other =
    ap (λ z. both_read z other) (subst (Answers one) is as_one some) ∙ ap (both_read (Err a)) (subst (Answers other) also as_other too) ∙ ap Err (sym is_lowest)
