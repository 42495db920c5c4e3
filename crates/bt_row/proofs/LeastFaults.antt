-- The least fault of operations when one more is compared. Serves the test of operations.
use Rattle.std.proofs.Common.{◌≡◌, List, Option, Some, None, refl}
use Rattle.std.specs.List.{cons_option}
use Rattle.std.specs.Option.{option_to_list}
use Rattle.bt_value.specs.Refusals.{lowest_from}
use Rattle.bt_value.specs.declared.refusal.Refusal.{Refusal}

pub one_fault : (found fault : Option Refusal) (others : List Refusal) → lowest_from found (cons_option fault others) ≡ lowest_from (lowest_from found (option_to_list fault)) others
one_fault found None others = refl
one_fault None (Some fault) others = refl
one_fault (Some found) (Some fault) others = refl
