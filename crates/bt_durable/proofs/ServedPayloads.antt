-- What serving a payload leaves.
use Rattle.std.proofs.Common.{◌≡◌, ◌∙◌, ◌++◌, ℕ, Bool, List, [], ap, sym}
use Rattle.bt_frame.specs.Services.{after_arrivals, any_changes, served}
use Rattle.bt_frame.specs.Frames.{arrivals}
use Rattle.bt_frame.specs.declared.arrival.Arrival.{Arrival}
use Rattle.bt_durable.specs.Payloads.{after_payload, no_limit, payload_changes, replies_to}

module _
    {S : Type 0} (after : S → Arrival → List ℕ → S) (reply : S → Arrival → List ℕ → ℕ × List ℕ) (begin : S) (payload input : List ℕ) (is : payload ≡ input) where
  pub left_after : (now : S) → now ≡ after_arrivals after reply begin (arrivals no_limit input) → now ≡ after_payload after reply begin payload
  left_after now left = left ∙ ap (after_payload after reply begin) (sym is)

  pub tested_after : (changes : S → Arrival → List ℕ → Bool) (test : Bool) → test ≡ any_changes after reply changes begin (arrivals no_limit input)
      → test ≡ payload_changes after reply changes begin payload
  tested_after changes test tested = tested ∙ ap (payload_changes after reply changes begin) (sym is)

  pub text_after : (old new : List ℕ) → old ≡ [] → new ≡ old ++ served after reply no_limit begin input → new ≡ replies_to after reply begin payload
  text_after old new none grown = grown ∙ ap (λ (l : List ℕ). l ++ served after reply no_limit begin input) none ∙ ap (replies_to after reply begin) (sym is)
