-- Each key of an index belongs to one key of the rows.
use Rattle.std.proofs.Common.{◌≡◌, ℕ, true, false, List, [], ◌∷◌, refl, sym, ◌∙◌, ◌⊎◌, inl, inr, Option, Some, None, true≢false}
use Rattle.bt_message.specs.Effects.{Rows}
use Rattle.bt_keycode.proofs.offered.Order.{same_key}
use Rattle.bt_fanout.specs.Selections.{AreApart, EachStands}
use Rattle.bt_fanout.proofs.Lookups.{IsOwner, is_at}

module _ {X E : Type 0} (entry : List ℕ → X → Option (List ℕ × E)) (Stands : List ℕ → X → Type 0) (apart : AreApart Stands entry) where
  -- two rows that have entries with the same key are under the same key
  pub one_owner : (q j k : List ℕ) (x y : X) → Stands j x → Stands k y → is_at q (entry j x) ≡ true → is_at q (entry k y) ≡ true → j ≡ k
  one_owner q j k x y s t = go (entry j x) (entry k y) refl refl
    where
      go : (a b : Option (List ℕ × E)) → entry j x ≡ a → entry k y ≡ b → is_at q a ≡ true → is_at q b ≡ true → j ≡ k
      go None b e f g h = absurd (true≢false (sym g))
      go (Some a) None e f g h = absurd (true≢false (sym h))
      go (Some a) (Some b) e f g h = apart j k x y a b s t e f (sym (same_key q a.0 g) ∙ same_key q b.0 h)

  pub owns : (q k : List ℕ) (x : X) → Stands k x → is_at q (entry k x) ≡ true → (rows : Rows X) → EachStands Stands rows → IsOwner entry q k rows
  owns q k x s h [] all = tt
  owns q k x s h (r ∷ rows) all = ((λ t. one_owner q r.0 k r.1 x all.0 s t h), owns q k x s h rows all.1)

  abbrev Found : List ℕ → Type 0
  Found q = (k : List ℕ) × ((x : X) × (Stands k x × (is_at q (entry k x) ≡ true)))

  -- either a row has an entry at q, or no row has one
  searched : (q : List ℕ) (rows : Rows X) → EachStands Stands rows → Found q ⊎ ((k : List ℕ) → IsOwner entry q k rows)
  searched q [] all = inr (λ k. tt)
  searched q (r ∷ rows) all = elim (is_at q (entry r.0 r.1)) as (λ t. is_at q (entry r.0 r.1) ≡ t → Found q ⊎ ((k : List ℕ) → IsOwner entry q k (r ∷ rows))) [
    | true ↦ λ t. inl (r.0, (r.1, (all.0, t)))
    | false ↦ λ t. elim (searched q rows all.1) as (λ _. Found q ⊎ ((k : List ℕ) → IsOwner entry q k (r ∷ rows))) [
      | inl found ↦ inl found
      | inr none ↦ inr (λ k. ((λ u. absurd (true≢false (sym u ∙ t))), none k))
    ]
  ] refl

  -- in two maps
  pub owner : (old new : Rows X) → EachStands Stands old → EachStands Stands new → (q : List ℕ) → (k : List ℕ) × (IsOwner entry q k old × IsOwner entry q k new)
  owner old new s t q = go (searched q old s) (searched q new t)
    where
      go : Found q ⊎ ((k : List ℕ) → IsOwner entry q k old) → Found q ⊎ ((k : List ℕ) → IsOwner entry q k new) → (k : List ℕ) × (IsOwner entry q k old × IsOwner entry q k new)
      go (inl f) b = (f.0, (owns q f.0 f.1.0 f.1.1.0 f.1.1.1 old s, owns q f.0 f.1.0 f.1.1.0 f.1.1.1 new t))
      go (inr f) (inl g) = (g.0, (f g.0, owns q g.0 g.1.0 g.1.1.0 g.1.1.1 new t))
      go (inr f) (inr g) = ([], (f [], g []))
