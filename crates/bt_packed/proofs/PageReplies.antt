-- The reply of a page, from what a visitor saw of it. Serves the calls for pages.
use Rattle.std.proofs.Common.{◌≡◌, Result, Ok, Err, ap}
use Rattle.bt_value.specs.Results.{map_ok}
use Rattle.bt_value.specs.declared.refusal.Refusal.{Refusal}
use Rattle.bt_packed.specs.Calls.{of_call}
use Rattle.bt_packed.specs.Layout.{fault_at, on_ok}

module _ {A B : Type 0} (make : A → B) where
  pub replied : (answer : Result A Refusal) (reply : B) → map_ok make answer ≡ Ok reply → on_ok make (of_call answer) ≡ Ok reply
  replied (Ok value) reply is = cc
  replied (Err refusal) reply is = absurd cc

  pub not_replied : (answer : Result A Refusal) (refusal : Refusal) → map_ok make answer ≡ Err refusal → on_ok make (of_call answer) ≡ Err (fault_at refusal 0 0)
  not_replied (Ok value) refusal is = absurd cc
  not_replied (Err other) refusal is = let same : other ≡ refusal = cc in ap (λ (r : Refusal). Err (fault_at r 0 0)) same
