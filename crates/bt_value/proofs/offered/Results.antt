-- Values that were read, or refusals: what each result says of its parts.
use Rattle.std.proofs.Common.{◌≡◌, refl, ap, Option, Some, None, Result, Ok, Err}
use Rattle.std.specs.Prelude.{option_map}
use Rattle.bt_value.specs.Results.{both_read, or_refused, unless}
use Rattle.bt_value.specs.declared.refusal.Refusal.{Refusal}

pub some_read : {T : Type 0} (refusal : Refusal) (o : Option T) (value : T) → or_refused refusal o ≡ Ok value → o ≡ Some value
some_read refusal None value is = absurd cc
some_read refusal (Some v) value is = let e : v ≡ value = cc in ap Some e

pub none_read : {T : Type 0} (refusal e : Refusal) (o : Option T) → or_refused refusal o ≡ Err e → (o ≡ None) × (refusal ≡ e)
none_read refusal e None is = (refl, (let same : refusal ≡ e = cc in same))
none_read refusal e (Some v) is = absurd cc

pub option_some : {A B : Type 0} (f : A → B) (o : Option A) (b : B) → option_map f o ≡ Some b → (a : A) × (o ≡ Some a) × (f a ≡ b)
option_some f None b is = absurd cc
option_some f (Some a) b is = let e : f a ≡ b = cc in (a, refl, e)

pub option_none : {A B : Type 0} (f : A → B) (o : Option A) → option_map f o ≡ None → o ≡ None
option_none f None is = refl
option_none f (Some a) is = absurd cc

pub unless_ok : {T : Type 0} (refusal : Option Refusal) (value answer : T) → unless refusal value ≡ Ok answer → value ≡ answer
unless_ok None value answer is = cc
unless_ok (Some refusal) value answer is = absurd cc

pub both_ok : {S T : Type 0} (first : Result S Refusal) (second : Result T Refusal) (a : S) (b : T) → both_read first second ≡ Ok (a, b) → (first ≡ Ok a) × (second ≡ Ok b)
both_ok {S = S} {T = T} (Ok x) (Ok y) a b is = let e : (x, y) ≡ (a, b) = cc in (ap (λ (p : S × T). Ok p.0) e, ap (λ (p : S × T). Ok p.1) e)
both_ok (Ok x) (Err y) a b is = absurd cc
both_ok (Err x) (Ok y) a b is = absurd cc
both_ok (Err x) (Err y) a b is = absurd cc
