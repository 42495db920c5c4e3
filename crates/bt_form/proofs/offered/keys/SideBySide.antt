-- Items side by side: divided, joined, and replaced by others.
use Rattle.std.proofs.Common.{◌≡◌, ◌≤◌, List, [], ◌∷◌, ◌++◌, length, map, subst, sym, append-nil, arith, length-append}
use Rattle.std.specs.List.{flat_map}
use Rattle.std.specs.declared.option.Option.{Option}
use Rattle.std.specs.declared.option.Option.TheVariants.{Some}
use Rattle.bt_keycode.specs.Keys.{Key, IsPast, IsBelow, SideBySide}
use Rattle.bt_form.specs.Flushes.{pivot_first, first_key}
use Rattle.bt_form.proofs.offered.deals.Parts.{NonEmpty, AllNonEmpty, joined}
use Rattle.bt_keycode.proofs.offered.Order.{below-below, past-past}

module _ {X : Type 0} (key : X → Key) (P : Option Key → Option Key → X → Type 0) where
  pub split : (low high : Option Key) (x : X) (xs : List X) (y : X) (ys : List X) → SideBySide key P low high ((x ∷ xs) ++ y ∷ ys) →
      IsPast low (key y) × IsBelow high (key y) × SideBySide key P low (Some (key y)) (x ∷ xs) × SideBySide key P (Some (key y)) high (y ∷ ys)
  split low high x [] y ys b = b
  split low high x (z ∷ zs) y ys b =
      let s = split (Some (key z)) high z zs y ys b.3 in
      (past-past low (key z) (key y) s.0 b.0, s.1, (b.0, s.0, b.2, s.2), s.3)

  pub join : (low high : Option Key) (x : X) (xs : List X) (y : X) (ys : List X) → IsPast low (key y) → IsBelow high (key y) →
      SideBySide key P low (Some (key y)) (x ∷ xs) → SideBySide key P (Some (key y)) high (y ∷ ys) → SideBySide key P low high ((x ∷ xs) ++ y ∷ ys)
  join low high x [] y ys l h a b = (l, h, a, b)
  join low high x (z ∷ zs) y ys l h a b = (a.0, below-below high (key z) (key y) a.1 h, a.2, join (Some (key z)) high z zs y ys a.1 h a.3 b)

  -- a property of groups, if it holds for a bounded list
  pub side-groups : (Q : Option Key → Option Key → List X → Type 0) → ((low high : Option Key) (g : List X) → NonEmpty g → SideBySide key P low high g → Q low high g) →
      (low high : Option Key) (gs : List (List X)) → AllNonEmpty gs → SideBySide key P low high (joined gs) → SideBySide (first_key key) Q low high gs
  side-groups Q each low high [] n b = tt
  side-groups Q each low high (g ∷ []) n b = each low high g n.0 (subst (SideBySide key P low high) (append-nil g) b)
  side-groups Q each low high ([] ∷ h ∷ gs) n b = absurd n.0
  side-groups Q each low high ((x ∷ xs) ∷ [] ∷ gs) n b = absurd n.1.0
  side-groups Q each low high ((x ∷ xs) ∷ (y ∷ ys) ∷ gs) n b =
      let s = split low high x xs y (ys ++ joined gs) b in
      (s.0, s.1, each low (Some (key y)) (x ∷ xs) tt s.2, side-groups Q each (Some (key y)) high ((y ∷ ys) ∷ gs) n.1 s.3)

pub side-weaken : {X : Type 0} (key : X → Key) (P Q : Option Key → Option Key → X → Type 0) → ((low high : Option Key) (x : X) → P low high x → Q low high x) →
    (low high : Option Key) (xs : List X) → SideBySide key P low high xs → SideBySide key Q low high xs
side-weaken key P Q h low high [] b = tt
side-weaken key P Q h low high (x ∷ []) b = h low high x b
side-weaken key P Q h low high (x ∷ y ∷ ys) b = (b.0, b.1, h low (Some (key y)) x b.2, side-weaken key P Q h (Some (key y)) high (y ∷ ys) b.3)

-- through a map
pub side-map : {X Y : Type 0} (f : X → Y) (key : Y → Key) (P : Option Key → Option Key → Y → Type 0) (low high : Option Key) (xs : List X) →
    SideBySide (λ x. key (f x)) (λ l h x. P l h (f x)) low high xs → SideBySide key P low high (map f xs)
side-map f key P low high [] b = tt
side-map f key P low high (x ∷ []) b = b
side-map f key P low high (x ∷ y ∷ ys) b = (b.0, b.1, b.2, side-map f key P (Some (key (f y))) high (y ∷ ys) b.3)

-- and back
pub side-mapped : {X Y : Type 0} (f : X → Y) (key : Y → Key) (P : Option Key → Option Key → Y → Type 0) (low high : Option Key) (xs : List X) →
    SideBySide key P low high (map f xs) → SideBySide (λ x. key (f x)) (λ l h x. P l h (f x)) low high xs
side-mapped f key P low high [] b = tt
side-mapped f key P low high (x ∷ []) b = b
side-mapped f key P low high (x ∷ y ∷ ys) b = (b.0, b.1, b.2, side-mapped f key P (Some (key (f y))) high (y ∷ ys) b.3)

-- the pivot of the first item says nothing
pub led-side : {X : Type 0} (P : Option Key → Option Key → X → Type 0) (k : Key) (low high : Option Key) (xs : List (Key × X)) →
    SideBySide (λ x. x.0) (λ l h x. P l h x.1) low high xs → SideBySide (λ x. x.0) (λ l h x. P l h x.1) low high (pivot_first k xs)
led-side P k low high [] b = b
led-side P k low high (x ∷ []) b = b
led-side P k low high (x ∷ y ∷ ys) b = b

-- ---- items that are replaced by others

-- a list that begins with an item of this key
abbrev pub Begins : {X : Type 0} → (X → Key) → Key → List X → Type 0
Begins key k [] = ⊥
Begins key k (x ∷ xs) = key x ≡ k

-- each item is replaced by a block of others, which begins with the item's key
module _ {X Y : Type 0} (key : X → Key) (P : Option Key → Option Key → X → Type 0) (name : Y → Key) (Q : Option Key → Option Key → Y → Type 0) (block : X → List Y)
    (each : (low high : Option Key) (x : X) → P low high x → Begins name (key x) (block x) × SideBySide name Q low high (block x)) where
  begins-append : (k : Key) (ys zs : List Y) → Begins name k ys → Begins name k (ys ++ zs)
  begins-append k [] zs b = absurd b
  begins-append k (y ∷ ys) zs b = b

  begins-long : (k : Key) (ys : List Y) → Begins name k ys → 1 ≤ length ys
  begins-long k [] b = absurd b
  begins-long k (y ∷ ys) b = omega arith

  meet : (low : Option Key) (j k : Key) (high : Option Key) (ys zs : List Y) → Begins name j ys → Begins name k zs → IsPast low k → IsBelow high k →
      SideBySide name Q low (Some k) ys → SideBySide name Q (Some k) high zs → SideBySide name Q low high (ys ++ zs)
  meet low j k high [] zs b c = absurd b
  meet low j k high (y ∷ ys) [] b c = absurd c
  meet low j k high (y ∷ ys) (z ∷ zs) b c =
      subst (λ i. IsPast low i → IsBelow high i → SideBySide name Q low (Some i) (y ∷ ys) → SideBySide name Q (Some i) high (z ∷ zs) → SideBySide name Q low high ((y ∷ ys) ++ z ∷ zs)) c
      (join name Q low high y ys z zs)

  pub blocks-begin : (low high : Option Key) (x : X) (xs : List X) → SideBySide key P low high (x ∷ xs) → Begins name (key x) (flat_map block (x ∷ xs))
  blocks-begin low high x [] s = begins-append (key x) (block x) [] (each low high x s).0
  blocks-begin low high x (y ∷ ys) s = begins-append (key x) (block x) (flat_map block (y ∷ ys)) (each low (Some (key y)) x s.2).0

  -- the blocks lie side by side if the items do
  pub blocks-lie : (low high : Option Key) (xs : List X) → SideBySide key P low high xs → SideBySide name Q low high (flat_map block xs)
  blocks-lie low high [] s = tt
  blocks-lie low high (x ∷ []) s = subst (SideBySide name Q low high) (sym (append-nil (block x))) (each low high x s).1
  blocks-lie low high (x ∷ y ∷ ys) s =
      let here = each low (Some (key y)) x s.2 in
      meet low (key x) (key y) high (block x) (flat_map block (y ∷ ys)) here.0 (blocks-begin (Some (key y)) high y ys s.3) s.0 s.1 here.1 (blocks-lie (Some (key y)) high (y ∷ ys) s.3)

  -- and there are no fewer of them
  pub blocks-long : (low high : Option Key) (xs : List X) → SideBySide key P low high xs → length xs ≤ length (flat_map block xs)
  blocks-long low high [] s = omega arith
  blocks-long low high (x ∷ []) s = omega (arith, begins-long (key x) (block x) (each low high x s).0, length-append (block x) [])
  blocks-long low high (x ∷ y ∷ ys) s = omega (
    arith,
    begins-long (key x) (block x) (each low (Some (key y)) x s.2).0,
    blocks-long (Some (key y)) high (y ∷ ys) s.3,
    length-append (block x) (flat_map block (y ∷ ys)),
  )
