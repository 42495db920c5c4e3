-- Answers in their places.
use Rattle.std.proofs.Common.{◌≡◌, ℕ, ◌<◌, Bool, true, false, not, get_or, List, [], ◌∷◌, ◌++◌, length, Option, Some, None, Result, Ok, sym, refl, ap, ◌∙◌}
use Rattle.std.specs.Option.{is_some}
use mathlib.Core.Option.{some, some-injective}
use lib.ListN.{get_elem?}
use Rattle.crossbeam_queue.proofs.Lists.{at_index}
use Rattle.bt_gang.specs.inside.Places.{ok_slots}

module _ {D F : Type 0} where
  pub ok_slots-snoc : (ds : List D) (d : D) (rest : List (Option (Result D F))) → ok_slots ds ++ Some (Ok d) ∷ rest ≡ ok_slots (ds ++ d ∷ []) ++ rest
  ok_slots-snoc [] d rest = refl
  ok_slots-snoc (x ∷ xs) d rest = ap (λ l. Some (Ok x) ∷ l) (ok_slots-snoc xs d rest)

  pub step_ok : (all : List (Option (Result D F))) (done new : List D) (d : D) (slot : Option (Result D F)) (left rest : List (Option (Result D F)))
      → all ≡ ok_slots done ++ left → left ≡ slot ∷ rest → slot ≡ Some (Ok d) → new ≡ done ++ d ∷ [] → all ≡ ok_slots new ++ rest
  step_ok all done new d slot left rest a b e f = a ∙ (ap (λ l. ok_slots done ++ l) (b ∙ ap (λ s. s ∷ rest) e) ∙ (ok_slots-snoc done d rest ∙ ap (λ l. ok_slots l ++ rest) (sym f)))

  at_ok : (ds : List D) (slot : Option (Result D F)) (rest : List (Option (Result D F))) → get_elem? (ok_slots ds ++ slot ∷ rest) (length ds) ≡ some slot
  at_ok [] slot rest = refl
  at_ok (d ∷ ds) slot rest = at_ok ds slot rest

  pub none_at : (all : List (Option (Result D F))) (done : List D) (slot : Option (Result D F)) (left rest : List (Option (Result D F)))
      → all ≡ ok_slots done ++ left → left ≡ slot ∷ rest → slot ≡ None → get_elem? all (length done) ≡ some None
  none_at all done slot left rest a b e = ap (λ l. get_elem? l (length done)) (a ∙ ap (λ l. ok_slots done ++ l) b) ∙ (at_ok done slot rest ∙ ap some e)

module _ {A : Type 0} where
  is_empty : (o : Option A) → is_some o ≡ false → o ≡ None
  is_empty None e = refl
  is_empty (Some x) e = absurd (cc)

  pub empty_there : (xs : List (Option A)) (i : ℕ) (o : Option A) (r : Bool) → i < length xs → o ≡ get_or xs i o → is_some o ≡ not r → r ≡ true → get_elem? xs i ≡ some None
  empty_there xs i o r l read e t = let none : o ≡ None = is_empty o (e ∙ ap not t) in at_index xs i o l read ∙ ap some none

  pub full_there : (xs : List (Option A)) (i : ℕ) (o : Option A) (r : Bool) → i < length xs → o ≡ get_or xs i o → is_some o ≡ not r → r ≡ false → ¬ (get_elem? xs i ≡ some None)
  full_there xs i o r l read e f none =
      let is : o ≡ None = some-injective o None (sym (at_index xs i o l read) ∙ none) in
      let t : is_some o ≡ true = e ∙ ap not f in
      let u : is_some o ≡ false = ap is_some is in
      absurd (cc)
