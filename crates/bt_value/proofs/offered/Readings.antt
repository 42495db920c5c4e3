-- One more result among several. Serves loops over a `Collected`.
use Rattle.std.proofs.Common.{List, [], ◌∷◌, ◌++◌, ◌≡◌, ◌≢◌, refl, sym, ap, append_assoc, Option, Some, None, Result, Ok, Err}
use Rattle.std.proofs.lemmas.List.{append-nil}
use Rattle.std.specs.List.{filter_map}
use Rattle.std.specs.Option.{option_to_list}
use Rattle.std.specs.Result.{result_err, result_ok}
use Rattle.bt_value.specs.Answers.{Answers}
use Rattle.bt_value.specs.Refusals.{lowest_from}
use Rattle.bt_value.specs.declared.refusal.Refusal.{Refusal}
use Rattle.bt_value.specs.declared.refusal.Refusal.TheVariants.{OutOfMemory}

-- what was read is the answer, if memory did not run out
pub is_answer : {T : Type 0} (answer read : Result T Refusal) → Answers answer read → read ≢ Err OutOfMemory → answer ≡ read
is_answer answer (Ok value) is memory = is
is_answer answer (Err e) is memory = is (λ same. memory (ap Err same))

-- the values so far, including one more, come before the others
pub with_value : {T : Type 0} (values after : List T) (read : Result T Refusal) (others : List (Result T Refusal)) → after ≡ values ++ option_to_list (result_ok read)
    → values ++ filter_map result_ok (read ∷ others) ≡ after ++ filter_map result_ok others
with_value values after (Ok value) others is = rw is (sym (append_assoc values (value ∷ []) (filter_map result_ok others)))
with_value values after (Err e) others is = rw (is, append-nil values) refl

-- the lowest refusal so far, including one more
pub with_refusal : {T : Type 0} (found after : Option Refusal) (read : Result T Refusal) (others : List (Result T Refusal)) → after ≡ lowest_from found (option_to_list (result_err read))
    → lowest_from found (filter_map result_err (read ∷ others)) ≡ lowest_from after (filter_map result_err others)
with_refusal found after (Ok value) others is = rw is refl
with_refusal None after (Err e) others is = rw is refl
with_refusal (Some refusal) after (Err e) others is = rw is refl
