-- The siblings of pieces, put side by side one piece after the other.
use Rattle.std.proofs.Common.{◌≡◌, ◌∙◌, ◌+◌, ◌≤◌, List, [], ◌∷◌, ◌++◌, ap, append_assoc, arith, drop, length, map, refl, sym}
use Rattle.std.proofs.lemmas.List.{length-map, map-append}
use Rattle.std.specs.List.{zip}
use Rattle.bt_keycode.specs.Keys.{Key}
use Rattle.bt_message.specs.declared.message.Message.{Message}
use Rattle.bt_form.specs.Children.{after_pivot}
use Rattle.bt_form.specs.Flushes.{Child, none_pending, pivot_first}
use Rattle.bt_form.specs.Messages.{Messages}
use Rattle.bt_form.specs.Trees.{Siblings, Tree, with_pivots}
use Rattle.bt_plan.specs.declared.job.Place as code_place
use Rattle.bt_gather.specs.Views.{pieces_of}
use Rattle.bt_gather.specs.inside.NewLeaves.{led_pieces}

module _ {V M : Type 0} where
  -- siblings that replace a child without pending messages
  none-after : (k : Key) (p : Messages M) (xs : Siblings V M) → p ≡ [] → after_pivot k p xs ≡ none_pending (pivot_first k xs)
  none-after k p [] none = refl
  none-after k p (x ∷ xs) none = ap (λ q. record { pivot = k; tree = x.1; pending = q } ∷ none_pending xs) none

  pairs : (xs : Siblings V M) → zip (map (λ x. x.0) xs) (map (λ x. x.1) xs) ≡ xs
  pairs [] = refl
  pairs (x ∷ xs) = ap (λ ys. x ∷ ys) (pairs xs)

  trees-none : (xs : Siblings V M) → map (λ c. c.tree) (none_pending xs) ≡ map (λ x. x.1) xs
  trees-none [] = refl
  trees-none (x ∷ xs) = ap (λ ts. x.1 ∷ ts) (trees-none xs)

  pivots-none : (xs : Siblings V M) → map (λ c. c.pivot) (none_pending xs) ≡ map (λ x. x.0) xs
  pivots-none [] = refl
  pivots-none (x ∷ xs) = ap (λ ks. x.0 ∷ ks) (pivots-none xs)

  -- children without pending messages, taken apart, are siblings again
  module _ (xs : Siblings V M) (some : 1 ≤ length xs) (cs : List (Child V M)) (are : cs ≡ none_pending xs)
      (ts : List (Tree V M)) (trees : ts ≡ map (λ c. c.tree) cs) (ks : List Key) (pivots : ks ≡ map (λ c. c.pivot) (drop 1 cs)) where
    ts-are : ts ≡ map (λ x. x.1) xs
    ts-are = trees ∙ ap (map (λ c. c.tree)) are ∙ trees-none xs

    rest-of : (ys : Siblings V M) → map (λ c. c.pivot) (drop 1 (none_pending ys)) ≡ map (λ x. x.0) (drop 1 ys)
    rest-of [] = refl
    rest-of (y ∷ ys) = pivots-none ys

    ks-are : ks ≡ map (λ x. x.0) (drop 1 xs)
    ks-are = pivots ∙ ap (λ ds. map (λ c. c.pivot) (drop 1 ds)) are ∙ rest-of xs

    pub one-pivot-fewer : length ts ≡ length ks + 1
    one-pivot-fewer = ap length ts-are ∙ of xs some ∙ sym (ap (λ js. length js + 1) ks-are)
      where
        of : (ys : Siblings V M) → 1 ≤ length ys → length (map (λ x. x.1) ys) ≡ length (map (λ x. x.0) (drop 1 ys)) + 1
        of [] none = absurd (omega arith)
        of (y ∷ ys) one = omega (arith, length-map ys (λ x. x.1), length-map ys (λ x. x.0))

    pub siblings-again : with_pivots ks ts ≡ pivot_first [] xs
    siblings-again = ap (λ js. with_pivots js ts) ks-are ∙ ap (with_pivots (map (λ x. x.0) (drop 1 xs))) ts-are ∙ of xs some
      where
        of : (ys : Siblings V M) → 1 ≤ length ys → with_pivots (map (λ x. x.0) (drop 1 ys)) (map (λ x. x.1) ys) ≡ pivot_first [] ys
        of [] none = absurd (omega arith)
        of (y ∷ ys) one = ap (λ zs. ([], y.1) ∷ zs) (pairs ys)

module _ {V D : Type 0} where
  -- one more piece
  pub next-piece : (made now all : List (Child V (Message V D))) (start : Key) (starts starts' : List Key) (piece : code_place.Place × Siblings V (Message V D))
      (items items' : List (code_place.Place × Siblings V (Message V D)))
      (pending : Messages (Message V D)) → starts ≡ start ∷ starts' → items ≡ piece ∷ items' → pending ≡ [] → now ≡ made ++ after_pivot start pending piece.1 →
      made ++ none_pending (led_pieces starts (pieces_of items)) ≡ all → now ++ none_pending (led_pieces starts' (pieces_of items')) ≡ all
  next-piece made now all start starts starts' piece items items' pending first next none added so_far =
      let rest = led_pieces starts' (pieces_of items') in
      let led = pivot_first start piece.1 in
      ap (λ cs. cs ++ none_pending rest) (added ∙ ap (λ cs. made ++ cs) (none-after start pending piece.1 none))
      ∙ append_assoc made (none_pending led) (none_pending rest)
      ∙ sym (ap (λ cs. made ++ cs) (map-append (λ (x : Key × Tree V (Message V D)). record { pivot = x.0; tree = x.1; pending = [] }) led rest))
      ∙ sym (ap (λ ps. made ++ none_pending (led_pieces (start ∷ starts') ps)) (ap pieces_of next))
      ∙ sym (ap (λ ks. made ++ none_pending (led_pieces ks (pieces_of items))) first)
      ∙ so_far

  -- no piece is left
  pub no-piece : (made all : List (Child V (Message V D))) (starts : List Key) (items : List (code_place.Place × Siblings V (Message V D))) → items ≡ [] →
      made ++ none_pending (led_pieces starts (pieces_of items)) ≡ all → made ≡ all
  no-piece made all starts items none so_far = sym (end made) ∙ sym (ap (λ cs. made ++ none_pending cs) (ap (λ ps. led_pieces starts (pieces_of ps)) none ∙ nothing starts)) ∙ so_far
    where
      end : (cs : List (Child V (Message V D))) → cs ++ [] ≡ cs
      end [] = refl
      end (c ∷ cs) = ap (λ ds. c ∷ ds) (end cs)

      nothing : (ks : List Key) → led_pieces {V = V} {M = Message V D} ks [] ≡ []
      nothing [] = refl
      nothing (k ∷ ks) = refl
