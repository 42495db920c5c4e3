-- Pieces at the holes, one at each and in their order, fit.
use Rattle.std.proofs.Common.{◌≡◌, ◌⊎◌, Bool, true, false, cond, List, [], ◌∷◌, map, inl, inr, refl, ap, subst, sym, ◌∙◌}
use Rattle.std.specs.List.{AllByRecursion as Each}
use Rattle.std.specs.Ordering.{is_eq}
use Rattle.std.specs.declared.option.Option.TheVariants.{None, Some}
use Rattle.bt_plan.proofs.offered.Each.{each-weaken}
use Rattle.bt_plan.specs.Pieces.{Pieces, Place, node_place_cmp}
use Rattle.bt_gather.specs.Misfits.{AreRisingPlaces, double, first_misfit, first_missing, is_place_among, missing, stranger}
use Rattle.bt_gather.proofs.offered.PlaceOrder.{IsBelow, below_parts, not_earlier, rising_parts, ties_itself}

or_true : (b x : Bool) → x ≡ true → cond b true x ≡ true
or_true true x e = refl
or_true false x e = e

-- each place is among these
among-themselves : (hs : List Place) → Each (λ h. is_place_among h hs ≡ true) hs
among-themselves [] = tt
among-themselves (h ∷ hs) = (
  ap (λ t. cond t true (is_place_among h hs)) (ties_itself h),
  each-weaken (λ q. is_place_among q hs ≡ true) (λ q. is_place_among q (h ∷ hs) ≡ true) (λ q m. or_true (is_eq (node_place_cmp q h)) (is_place_among q hs) m) hs (among-themselves hs),
)

-- a hole whose piece was seen, or is still to come
abbrev IsCovered : List Place → List Place → Place → Type 0
IsCovered seen coming h = (is_place_among h seen ≡ true) ⊎ (is_place_among h coming ≡ true)

covered-next : (p : Place) (seen coming : List Place) (h : Place) → IsCovered seen (p ∷ coming) h → IsCovered (p ∷ seen) coming h
covered-next p seen coming h covered = go (is_eq (node_place_cmp h p)) refl covered
  where
    go : (b : Bool) → is_eq (node_place_cmp h p) ≡ b → IsCovered seen (p ∷ coming) h → IsCovered (p ∷ seen) coming h
    go true e c = inl (ap (λ t. cond t true (is_place_among h seen)) e)
    go false e (inl m) = inl (ap (λ t. cond t true (is_place_among h seen)) e ∙ m)
    go false e (inr m) = inr (sym (ap (λ t. cond t true (is_place_among h coming)) e) ∙ m)

all-seen : (seen : List Place) (h : Place) → IsCovered seen [] h → is_place_among h seen ≡ true
all-seen seen h (inl m) = m
all-seen seen h (inr m) = cc m

none-missing : (hs seen : List Place) → Each (IsCovered seen []) hs → first_missing hs seen ≡ None
none-missing [] seen c = refl
none-missing (h ∷ hs) seen c = ap (λ t. cond t (first_missing hs seen) (Some (missing h))) (all-seen seen h c.0) ∙ none-missing hs seen c.1

module _ {V M : Type 0} where
  abbrev pub places_at : Pieces V M → List Place
  places_at = map (λ p. p.0)

  apart : (p : Place) (seen : List Place) (ps : Pieces V M) → Each (λ q. is_place_among q.0 seen ≡ false) ps → IsBelow p (places_at ps) → Each (λ q. is_place_among q.0 (p ∷ seen) ≡ false) ps
  apart p seen [] n b = tt
  apart p seen (q ∷ qs) n b =
      let parts = below_parts p q.0 (places_at qs) b in
      (ap (λ t. cond t true (is_place_among q.0 seen)) (not_earlier p q.0 parts.0) ∙ n.0, apart p seen qs n.1 parts.1)

  none-wrong : (hs seen : List Place) (ps : Pieces V M) → Each (λ p. is_place_among p.0 hs ≡ true) ps → Each (λ p. is_place_among p.0 seen ≡ false) ps → AreRisingPlaces (places_at ps) →
      Each (IsCovered seen (places_at ps)) hs → first_misfit hs seen ps ≡ None
  none-wrong hs seen [] a n r c = none-missing hs seen c
  none-wrong hs seen (p ∷ ps) a n r c =
      let parts = rising_parts p.0 (places_at ps) r in
      ap (λ t. cond t (cond (is_place_among p.0 seen) (Some (double p.0)) (first_misfit hs (p.0 ∷ seen) ps)) (Some (stranger p.0))) a.0
      ∙ ap (λ t. cond t (Some (double p.0)) (first_misfit hs (p.0 ∷ seen) ps)) n.0
      ∙ none-wrong hs (p.0 ∷ seen) ps a.1 (apart p.0 seen ps n.1 parts.0) parts.1
      (each-weaken (IsCovered seen (p.0 ∷ places_at ps)) (IsCovered (p.0 ∷ seen) (places_at ps)) (covered-next p.0 seen (places_at ps)) hs c)

  by-places : (P : Place → Type 0) (ps : Pieces V M) → Each P (places_at ps) → Each (λ p. P p.0) ps
  by-places P [] e = tt
  by-places P (p ∷ ps) e = (e.0, by-places P ps e.1)

  none-seen : (ps : Pieces V M) → Each (λ p. is_place_among p.0 [] ≡ false) ps
  none-seen [] = tt
  none-seen (p ∷ ps) = (refl, none-seen ps)

  -- nothing is wrong
  pub no_misfit : (hs : List Place) (ps : Pieces V M) → places_at ps ≡ hs → AreRisingPlaces hs → first_misfit hs [] ps ≡ None
  no_misfit hs ps at rise =
      subst (λ hs. first_misfit hs [] ps ≡ None) at
      (none-wrong (places_at ps) [] ps (by-places (λ h. is_place_among h (places_at ps) ≡ true) ps (among-themselves (places_at ps))) (none-seen ps) (subst AreRisingPlaces (sym at) rise)
      (each-weaken (λ h. is_place_among h (places_at ps) ≡ true) (IsCovered [] (places_at ps)) (λ h m. inr m) (places_at ps) (among-themselves (places_at ps))))
