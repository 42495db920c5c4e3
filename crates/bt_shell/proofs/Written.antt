-- Pieces of a text that are written one after the other. Serves the loop over them.
use Rattle.std.proofs.Common.{ℕ, ◌+◌, ◌<◌, List, [], ◌∷◌, ◌++◌, ◌≡◌, ◌∙◌, refl, sym, ap, append_assoc, drop, get_or, length, Global, Option, Vec}
use Rattle.std.proofs.lemmas.List.{at_drop_more}
use Rattle.std.proofs.lemmas.List.Concat.{flat_map-cons}
use Rattle.bt_script.specs.Streams.{Took, TookPrefix}
use Rattle.bt_script.specs.declared.counted.Counted.{Counted}
use Rattle.bt_script.proofs.offered.Streams.{prefix-more, Took-trans}
use Rattle.bt_shell.specs.inside.Pieces.{text_of_pieces}

-- A writer took some of a text, and the rest is still to be written.
pub record HasWritten {W : Type 0} (contents : W → Option (List ℕ)) (old new : Counted W) (all rest : List ℕ) : Type 0 where
  pub done : List ℕ
  pub split : all ≡ done ++ rest
  pub took : Took contents old new done

module _ {W : Type 0} (contents : W → Option (List ℕ)) (old : Counted W) where
  -- before the first piece
  pub writing_begins : (all : List ℕ) → Took contents old old [] → HasWritten contents old old all all
  writing_begins all nothing = record { done = []; split = refl; took = nothing }

  -- the next piece
  pub writing_goes_on : (mid new : Counted W) (all rest piece more : List ℕ) → HasWritten contents old mid all rest → rest ≡ piece ++ more
      → Took contents mid new piece → HasWritten contents old new all more
  writing_goes_on mid new all rest piece more so_far next took = record {
    done = so_far.done ++ piece;
    split = so_far.split ∙ ap (λ (l : List ℕ). so_far.done ++ l) next ∙ sym (append_assoc so_far.done piece more);
    took = Took-trans contents old mid new so_far.done piece so_far.took took;
  }

  -- a prefix of the next piece
  pub writing_breaks : (mid new : Counted W) (all rest piece more : List ℕ) → HasWritten contents old mid all rest → rest ≡ piece ++ more
      → TookPrefix contents mid new piece → TookPrefix contents old new all
  writing_breaks mid new all rest piece more so_far next prefix =
      prefix-more contents old mid new all so_far.done piece more so_far.took (so_far.split ∙ ap (λ (l : List ℕ). so_far.done ++ l) next) prefix

-- what is left of pieces begins with the next one
pub piece_next : (pieces : List (Vec ℕ Global)) (i : ℕ) (piece : Vec ℕ Global) → i < length pieces → piece ≡ get_or pieces i piece
    → text_of_pieces (drop i pieces) ≡ piece.items ++ text_of_pieces (drop (i + 1) pieces)
piece_next pieces i piece within is =
    let more = drop (i + 1) pieces in
    at_drop_more text_of_pieces pieces i piece within ∙ ap (λ (p : Vec ℕ Global). text_of_pieces (p ∷ more)) (sym is) ∙ flat_map-cons (λ (p : Vec ℕ Global). p.items) piece more
