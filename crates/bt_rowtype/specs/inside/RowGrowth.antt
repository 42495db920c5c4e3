-- A row that the fields of a record are added to.
use Rattle.std.specs.Prelude.{ℕ, List, [], ◌∷◌, ◌++◌, Option, Result, option_map}
use Rattle.bt_value.specs.Results.{or_refused}
use Rattle.bt_value.specs.Values.{value_of}
use Rattle.bt_value.specs.declared.refusal.Refusal.{Refusal}
use Rattle.bt_value.specs.declared.refusal.Refusal.TheVariants.{BadField}
use Rattle.bt_value.specs.declared.value.Kind.{Kind}
use Rattle.bt_value.specs.declared.value.Value.{Value}

-- a row and, after it, a value that was read, or the refusal of its field as this item
abbrev pub with_read_value : ℕ → Option Value → List Value → Result (List Value) Refusal
with_read_value item read row = or_refused (BadField item) (option_map (λ v. row ++ v ∷ []) read)

-- a row and, after it, the value that a field of a kind encodes, or its refusal as this item
abbrev pub with_field : Kind → ℕ → List ℕ → List Value → Result (List Value) Refusal
with_field kind item field row = with_read_value item (value_of kind field) row
