-- One more item of a list that a loop maps. Serves loops over indexes.
use Rattle.std.proofs.Common.{ℕ, ◌+◌, ◌<◌, ◌≡◌, ◌∙◌, List, [], ◌∷◌, ◌++◌, ap, append_assoc, drop, get_or, length, map, sym}
use Rattle.std.proofs.lemmas.List.{drop_more}

pub mapped_next : {A B : Type 0} (f : A → B) (all : List A) (done more : List B) (i : ℕ) (x : A) (y : B) →
    i < length all → map f all ≡ done ++ map f (drop i all) → x ≡ get_or all i x → y ≡ f x → more ≡ done ++ y ∷ [] → map f all ≡ more ++ map f (drop (i + 1) all)
mapped_next f all done more i x y lt so_far is made pushed =
    let rest = map f (drop (i + 1) all) in
    so_far ∙ ap (λ l. done ++ map f l) (drop_more all i x lt ∙ ap (λ z. z ∷ drop (i + 1) all) (sym is)) ∙ ap (λ z. done ++ z ∷ rest) (sym made)
    ∙ sym (append_assoc done (y ∷ []) rest) ∙ ap (λ l. l ++ rest) (sym pushed)
