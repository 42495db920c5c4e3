-- One more piece after others.
use Rattle.std.proofs.Common.{◌≡◌, ℕ, ◌+◌, ◌-◌, ◌≤◌, List, [], ◌∷◌, ◌++◌, length, length-append, append_assoc, append-nil, take, drop, take-append-drop, sym, ap, ◌∙◌, subst, arith}
use Rattle.std.specs.List.{flat_map}
use Rattle.std.proofs.lemmas.Grind.{flat_map-append}
use Rattle.std.proofs.lemmas.List.{drop-drop, drop_all, length-drop}
use Rattle.bt_gang.specs.Pieces.{AreInRow}
use Rattle.bt_gang.specs.declared.piece.Piece.{Piece}

module _ {X : Type 0} where
  abbrev pub items_of : List (Piece X) → List X
  items_of pieces = flat_map (λ piece. piece.items.now) pieces

  items_more : (pieces more : List (Piece X)) (piece : Piece X) → more ≡ pieces ++ piece ∷ [] → items_of more ≡ items_of pieces ++ piece.items.now
  items_more pieces more piece e =
      ap items_of e ∙ flat_map-append (λ (p : Piece X). p.items.now) pieces (piece ∷ []) ∙ ap (λ xs. items_of pieces ++ xs) (append-nil piece.items.now)

  row_snoc : (before : ℕ) (pieces : List (Piece X)) (piece : Piece X) → AreInRow before pieces → piece.before ≡ before + length (items_of pieces) → AreInRow before (pieces ++ piece ∷ [])
  row_snoc before [] piece row e = (omega (arith, e), tt)
  row_snoc before (p ∷ ps) piece row e = (row.0, row_snoc (before + length p.items.now) ps piece row.1 (omega (arith, e, length-append p.items.now (items_of ps))))

  module _ (all : List X) (start end : ℕ) (pieces more : List (Piece X)) (piece : Piece X) (more_is : more ≡ pieces ++ piece ∷ []) where
    pub row_more : AreInRow 0 pieces → start ≡ length (items_of pieces) → piece.before ≡ start → AreInRow 0 more
    row_more row e f = subst (AreInRow 0) (sym more_is) (row_snoc 0 pieces piece row (omega (arith, f, e)))

    module _ (ordered : start ≤ end) (items_are : piece.items.now ≡ take (end - start) (drop start all)) (so_far : items_of pieces ++ drop start all ≡ all) where
      -- the rest after the items of the piece is what follows the pieces and the piece
      pub items_left : items_of more ++ drop end all ≡ all
      items_left =
          let ends : start + (end - start) ≡ end = omega (arith, ordered) in
          let left : drop end all ≡ drop (end - start) (drop start all) = sym (drop-drop (end - start) start all ∙ ap (λ i. drop i all) ends) in
          ap (λ xs. xs ++ drop end all) (items_more pieces more piece more_is)
          ∙ append_assoc (items_of pieces) piece.items.now (drop end all)
          ∙ ap (λ xs. items_of pieces ++ (xs ++ drop end all)) items_are
          ∙ ap (λ xs. items_of pieces ++ (take (end - start) (drop start all) ++ xs)) left
          ∙ ap (λ xs. items_of pieces ++ xs) (take-append-drop (end - start) (drop start all))
          ∙ so_far

      pub all_items : end ≡ length all → items_of more ≡ all
      all_items e = sym (append-nil (items_of more)) ∙ ap (λ xs. items_of more ++ xs) (sym (drop_all end all (omega (arith, e)))) ∙ items_left

      -- the number of items before the next piece
      pub next_start : end ≤ length all → end ≡ length (items_of more)
      next_start within = let l = ap length items_left in let m = length-append (items_of more) (drop end all) in let n = length-drop end all in omega (arith, l, m, n, within)
