-- A line is blank if nothing follows its spaces. Serves the reading of a line of a block.
use Rattle.std.proofs.Common.{ℕ, List, [], ◌∷◌, ◌≡◌, ◌==◌, refl, sym, Option, true, false, inl, inr, length}
use Rattle.std.proofs.Math.Dec.{eqb-suc-zero}
use Rattle.std.proofs.lemmas.Bool.{cases_Bool}
use Rattle.std.specs.List.{prefix_len}
use Rattle.bt_script.specs.inside.Blocks.{and_line, with_last}
use Rattle.bt_script.specs.Commands.{item_from}
use Rattle.bt_script.specs.Lines.{is_blank, without_spaces}
use Rattle.bt_rowtype.specs.declared.item.Item.{Item}
use Rattle.bt_script.proofs.Cuts.{one_plus}

blank_is_none : (line : List ℕ) → is_blank line ≡ (length (without_spaces line) == 0)
blank_is_none [] = refl
blank_is_none (b ∷ bs) = elim (cases_Bool (b == 32)) [
  | inl space ↦ rw (space, one_plus (prefix_len (λ x. x == 32) bs)) (blank_is_none bs)
  | inr other ↦ rw other (sym (eqb-suc-zero (length bs)))
]

-- the messages of some lines and of a blank one
pub and-blank : (items : Option (List Item)) (line text : List ℕ) → text ≡ without_spaces line → (length text == 0) ≡ true → and_line items line ≡ items
and-blank items line text is none = rw (blank_is_none line, sym is, none) refl

-- and of one that is not blank
pub and-item : (items : Option (List Item)) (line text : List ℕ) → text ≡ without_spaces line → (length text == 0) ≡ false → and_line items line ≡ with_last items (item_from text)
and-item items line text is some = rw (blank_is_none line, sym is, some) refl
