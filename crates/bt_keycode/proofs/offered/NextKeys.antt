-- The keys after a key are those that are not before its next key. Serves steps of building and pages.
use Rattle.std.proofs.Common.{◌≡◌, zero, suc, ◌<◌, not, List, [], ◌∷◌, ◌++◌, ℕ, refl, sym, ap, ◌∙◌, arith}
use Rattle.std.specs.Cmp.{nat_cmp_is, nat_cmp_total}
use Rattle.std.specs.Ordering.{is_lt, nat_cmp, ordering_reverse, ordering_then}
use Rattle.std.specs.declared.cmp.Ordering.{Ordering}
use Rattle.std.specs.declared.cmp.Ordering.TheVariants.{Less, Equal, Greater}
use Rattle.bt_keycode.specs.Keys.{is_before, key_cmp}

-- if the first bytes are equal, the others decide; the two keys in the other order give the opposite result
by_first : (o : Ordering) (back others : Ordering) → (is_lt back ≡ not (is_lt others)) → is_lt (ordering_then (ordering_reverse o) back) ≡ not (is_lt (ordering_then o others))
by_first Less back others h = refl
by_first Equal back others h = h
by_first Greater back others h = refl

-- a key is after another one exactly if it is not before that one followed by a byte 0
pub past : (c k : List ℕ) → is_before k (c ++ 0 ∷ []) ≡ not (is_before c k)
past [] [] = refl
past [] (zero ∷ []) = refl
past [] (zero ∷ b ∷ k) = refl
past [] (suc b ∷ k) = let greater : 0 < suc b = omega arith in ap (λ o. is_lt (ordering_then o (key_cmp k []))) (sym (nat_cmp_is (suc b) 0 Greater greater))
past (a ∷ c) [] = refl
past (a ∷ c) (b ∷ k) =
    ap (λ o. is_lt (ordering_then o (key_cmp k (c ++ 0 ∷ [])))) (nat_cmp_total.antisymm b a) ∙ by_first (nat_cmp a b) (key_cmp k (c ++ 0 ∷ [])) (key_cmp c k) (past c k)
