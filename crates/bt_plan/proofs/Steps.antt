-- One more child of an opened node, for the loop that cuts them one by one.
use Rattle.std.proofs.Common.{◌≡◌, ◌<◌, ◌+◌, ℕ, Bool, false, cond, List, [], ◌∷◌, ◌++◌, ◌∙◌, None, append_assoc, ap, drop, get_or, length, map, sym, take}
use Rattle.std.proofs.lemmas.List.{drop-drop, drop_more}
use Rattle.std.specs.List.{flat_map}
use Rattle.bt_messages.specs.Bins.{each_with}
use Rattle.bt_messages.specs.Parts.{parted, total}
use Rattle.bt_messages.specs.Shares.{counts}
use Rattle.bt_messages.specs.declared.share.Share.{Share}
use Rattle.bt_keycode.specs.Keys.{Key}
use Rattle.bt_form.specs.Messages.{Messages, with_messages}
use Rattle.bt_form.specs.Trees.{Shape, Tree}
use Rattle.bt_form.specs.declared.mode.Mode.{Mode}
use Rattle.bt_plan.specs.Cuts.{Job, child_place, cut_out}
use Rattle.bt_plan.specs.Pieces.{Holed, Place, whole}
use Rattle.bt_plan.specs.inside.Cutting.{cut_each, kept_bins}

-- ---- lists that are read

module _ {X : Type 0} where
  -- one is added to those that are made, and is taken from those that are left
  pub one_made : (made after all rest total : List X) (x y : X) → after ≡ made ++ y ∷ [] → y ≡ x → all ≡ x ∷ rest → made ++ all ≡ total → after ++ rest ≡ total
  one_made made after all rest total x y pushed same next so_far =
      ap (λ zs. zs ++ rest) pushed ∙ append_assoc made (y ∷ []) rest ∙ ap (λ z. made ++ z ∷ rest) same ∙ ap (λ zs. made ++ zs) (sym next) ∙ so_far

module _ {X Y : Type 0} where
  pub one_made_of : (f : X → Y) (made after total : List Y) (all rest : List X) (x : X) (y : Y) → after ≡ made ++ y ∷ [] → y ≡ f x → all ≡ x ∷ rest → made ++ map f all ≡ total →
      after ++ map f rest ≡ total
  one_made_of f made after total all rest x y pushed same next so_far = one_made made after (map f all) (map f rest) total (f x) y pushed same (ap (map f) next) so_far

  pub some_made_of : (f : X → List Y) (made after total : List Y) (all rest : List X) (x : X) → after ≡ made ++ f x → all ≡ x ∷ rest → made ++ flat_map f all ≡ total →
      after ++ flat_map f rest ≡ total
  some_made_of f made after total all rest x pushed next so_far =
      ap (λ zs. zs ++ flat_map f rest) pushed ∙ append_assoc made (f x) (flat_map f rest) ∙ ap (λ zs. made ++ flat_map f zs) (sym next) ∙ so_far

-- ---- shares of a stream

-- the share past the end of the shares
abbrev pub no_share : Share
no_share = record { count = 0; weight = None }

module _ {M : Type 0} (shares : List Share) (i : ℕ) (ms : Messages M) (within : i < length shares) where
  module _ {rest : Messages M} (after : rest ≡ drop (get_or shares i no_share).count ms) where
    pub left_after : {left : Messages M} → drop (total (counts (drop i shares))) ms ≡ left → drop (total (counts (drop (i + 1) shares))) rest ≡ left
    left_after so_far =
        let later = total (counts (drop (i + 1) shares)) in
        ap (drop later) after ∙ drop-drop later (get_or shares i no_share).count ms ∙ sym (ap (λ zs. drop (total (counts zs)) ms) (drop_more shares i no_share within)) ∙ so_far

    pub next_bin : {b : Messages M} {bs cs : List (Messages M)} (marks : List Bool) → cs ≡ b ∷ bs → i < length marks →
        kept_bins (each_with (parted (counts (drop i shares)) ms) cs) (drop i marks)
        ≡ cond (get_or marks i false) [] (with_messages (take (get_or shares i no_share).count ms) b)
        ∷ kept_bins (each_with (parted (counts (drop (i + 1) shares)) rest) bs) (drop (i + 1) marks)
    next_bin {b} {bs} marks here marked =
        let bin = cond (get_or marks i false) [] (with_messages (take (get_or shares i no_share).count ms) b) in
        (λ j. kept_bins (each_with (parted (counts (drop_more shares i no_share within j)) ms) (here j)) (drop_more marks i false marked j))
        ∙ ap (λ zs. bin ∷ kept_bins (each_with (parted (counts (drop (i + 1) shares)) zs) bs) (drop (i + 1) marks)) (sym after)

    module _ {V : Type 0} (weigh : Key × M → ℕ) (depth : ℕ) (mode : Mode) (s : Shape) (place : Place) where
      pub next_child : {t : Tree V M} {ts us : List (Tree V M)} {b : Messages M} {bs cs : List (Messages M)} {p : Place} (marks : List Bool) →
          us ≡ t ∷ ts → cs ≡ b ∷ bs → i < length marks → p ≡ child_place place i →
          cut_each weigh depth mode s place i us (each_with (parted (counts (drop i shares)) ms) cs) (drop i marks)
          ≡ cond (get_or marks i false) (cut_out weigh depth mode s p t (with_messages (take (get_or shares i no_share).count ms) b)) (whole t)
          ∷ cut_each weigh depth mode s place (i + 1) ts (each_with (parted (counts (drop (i + 1) shares)) rest) bs) (drop (i + 1) marks)
      next_child {t} {ts} {us} {b} {bs} marks node here marked there =
          let later : List (Messages M) → List (Holed V M (Job V M)) = λ ds. cut_each weigh depth mode s place (i + 1) ts ds (drop (i + 1) marks) in
          let all = with_messages (take (get_or shares i no_share).count ms) b in
          (λ j. cut_each weigh depth mode s place i (node j) (each_with (parted (counts (drop_more shares i no_share within j)) ms) (here j)) (drop_more marks i false marked j))
          ∙ (λ j. cond (get_or marks i false) (cut_out weigh depth mode s (sym there j) t all) (whole t) ∷ later (each_with (parted (counts (drop (i + 1) shares)) (sym after j)) bs))
