-- Results: values, or the refusal of a call.
use Rattle.std.specs.Prelude.{Bool, List, [], ◌∷◌, Option, Some, None, Result, Ok, Err, if◌then◌else◌}
use Rattle.std.specs.List.{filter_map}
use Rattle.std.specs.Result.{result_err, result_ok}
use Rattle.bt_value.specs.Refusals.{lowest, lower}
use Rattle.bt_value.specs.declared.refusal.Refusal.{Refusal}

-- the result of a function on the value, if there is one
abbrev pub map_ok : {A B : Type 0} → (A → B) → Result A Refusal → Result B Refusal
map_ok make (Ok value) = Ok (make value)
map_ok make (Err refusal) = Err refusal

-- the result of a call on the value, if there is one
abbrev pub and_then : {A B : Type 0} → (A → Result B Refusal) → Result A Refusal → Result B Refusal
and_then next (Ok value) = next value
and_then next (Err refusal) = Err refusal

-- the value, or this refusal if there is none
abbrev pub or_refused : {T : Type 0} → Refusal → Option T → Result T Refusal
or_refused refusal None = Err refusal
or_refused refusal (Some value) = Ok value

-- a refusal, if it applies
abbrev pub one_if : Bool → Refusal → List Refusal
one_if applies refusal = if applies then refusal ∷ [] else []

-- a value, unless there is a refusal
abbrev pub unless : {T : Type 0} → Option Refusal → T → Result T Refusal
unless None value = Ok value
unless (Some refusal) value = Err refusal

-- all that were read, or the least of their refusals
abbrev pub all_read : {T : Type 0} → List (Result T Refusal) → Result (List T) Refusal
all_read results = unless (lowest (filter_map result_err results)) (filter_map result_ok results)

-- two that were read, or the smaller of their refusals
abbrev pub both_read : {S T : Type 0} → Result S Refusal → Result T Refusal → Result (S × T) Refusal
both_read (Ok first) (Ok second) = Ok (first, second)
both_read (Ok first) (Err refusal) = Err refusal
both_read (Err refusal) (Ok second) = Err refusal
both_read (Err refusal) (Err other) = Err (lower refusal other)
