-- Facts about each item of a list.
use Rattle.std.proofs.Common.{List, [], ◌∷◌, ◌++◌}
use Rattle.std.specs.List.{AllByRecursion as Each}

pub each-append : {X : Type 0} (P : X → Type 0) (xs ys : List X) → Each P xs → Each P ys → Each P (xs ++ ys)
each-append P [] ys u v = v
each-append P (x ∷ xs) ys u v = (u.0, each-append P xs ys u.1 v)

pub each-first : {X : Type 0} (P : X → Type 0) (xs ys : List X) → Each P (xs ++ ys) → Each P xs
each-first P [] ys h = tt
each-first P (x ∷ xs) ys h = (h.0, each-first P xs ys h.1)

pub each-rest : {X : Type 0} (P : X → Type 0) (xs ys : List X) → Each P (xs ++ ys) → Each P ys
each-rest P [] ys h = h
each-rest P (x ∷ xs) ys h = each-rest P xs ys h.1

pub each-weaken : {X : Type 0} (P Q : X → Type 0) → ((x : X) → P x → Q x) → (xs : List X) → Each P xs → Each Q xs
each-weaken P Q h [] u = tt
each-weaken P Q h (x ∷ xs) u = (h x u.0, each-weaken P Q h xs u.1)
