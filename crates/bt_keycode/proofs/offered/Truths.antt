-- Tests that are true, together and one by one.
use Rattle.std.proofs.Common.{◌≡◌, Bool, true, false, ◌&&◌, T, refl, sym, subst}

pub t_both : (a b : Bool) → T a → T b → T (a && b)
t_both true b p q = q
t_both false b p q = p

pub t_first : (a b : Bool) → T (a && b) → T a
t_first true b p = tt
t_first false b p = p

pub t_second : (a b : Bool) → T (a && b) → T b
t_second true b p = p
t_second false b p = absurd p

pub t_true : (b : Bool) → b ≡ true → T b
t_true b e = subst T (sym e) tt

pub true_t : (b : Bool) → T b → b ≡ true
true_t true h = refl
true_t false h = absurd h

pub not_true : (b : Bool) → (b ≡ true → ⊥) → b ≡ false
not_true true h = absurd (h refl)
not_true false h = refl
