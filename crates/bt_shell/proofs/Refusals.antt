-- `TableExists` comes before all refusals of the form of another table.
use Rattle.std.proofs.Common.{◌≡◌, ◌++◌, Bool, true, false, not, Err, refl}
use Rattle.bt_value.specs.declared.refusal.Refusal.TheVariants.{BadSchema, BadShape, TableExists}
use Rattle.bt_value.specs.Results.{one_if}
use Rattle.bt_table.specs.Calls.{unless_any}

pub exists_first : {A : Type 0} (schema shape : Bool) (value : A) → unless_any (one_if true TableExists ++ (one_if (not schema) BadSchema ++ one_if (not shape) BadShape)) value ≡ Err TableExists
exists_first true true value = refl
exists_first true false value = refl
exists_first false true value = refl
exists_first false false value = refl
