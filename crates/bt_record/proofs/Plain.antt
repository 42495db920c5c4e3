-- Cutting a text at its commas, byte by byte. Serves `cut_plain`.
use Rattle.std.proofs.Common.{ℕ, List, [], ◌∷◌, ◌++◌, ◌≡◌, ◌<◌, ◌≤◌, ◌+◌, ◌-◌, ◌∙◌, refl, ap, sym, arith, false, ◌==◌, append_assoc, drop, get_or, length, length-drop, take}
use Rattle.std.proofs.lemmas.List.{append-nil, drop_all, drop_more, get_or-drop, take_more}
use Rattle.std.specs.List.{list_any, onto_first}
use Rattle.bt_record.specs.inside.Pieces.{part, pieces}
use Rattle.bt_value.specs.PlainFields.{is_special, parts_of}
use Rattle.bt_record.specs.declared.fields.FieldSpan.{FieldSpan}
use Rattle.bt_record.proofs.Pieces.{more_pieces}
use Rattle.bt_record.proofs.offered.PlainTexts.{before_first_part, more-first, nil-first, parts-some}

-- the parts from a place on, by the byte at the place
parts_here : (text : List ℕ) (place : ℕ) → place < length text → parts_of (drop place text) ≡ parts_of (get_or text place 0 ∷ drop (place + 1) text)
parts_here text place within = ap parts_of (drop_more text place 0 within)

-- the part that ends before the next byte
part_more : (text : List ℕ) (start place : ℕ) → start ≤ place → place < length text
    → part text (record { start = start; end = place + 1 }) ≡ part text (record { start = start; end = place }) ++ get_or text place 0 ∷ []
part_more text start place le within =
    let size : place + 1 - start ≡ (place - start) + 1 = omega arith in
    let there : start + (place - start) ≡ place = omega arith in
    ap (λ n. take n (drop start text)) size ∙ take_more (drop start text) (place - start) 0 (omega (arith, length-drop start text))
    ∙ ap (λ (b : ℕ). take (place - start) (drop start text) ++ b ∷ []) (get_or-drop start text (place - start) 0 ∙ ap (λ n. get_or text n 0) there)

part_none : (text : List ℕ) (place : ℕ) → part text (record { start = place; end = place }) ≡ []
part_none text place = let none : place - place ≡ 0 = omega arith in ap (λ n. take n (drop place text)) none

-- the parts so far, the current part, and the parts of the rest
abbrev pub Cut : List ℕ → List FieldSpan → ℕ → ℕ → Type 0
Cut text spans start place = parts_of text ≡ pieces text spans ++ before_first_part (part text (record { start = start; end = place })) (parts_of (drop place text))

pub cut_comma : (text : List ℕ) (spans : List FieldSpan) (start place : ℕ) → place < length text → get_or text place 0 ≡ 44 → Cut text spans start place
    → Cut text (spans ++ record { start = start; end = place } ∷ []) (place + 1) (place + 1)
cut_comma text spans start place within comma so_far =
    let p : FieldSpan = record { start = start; end = place } in
    let rest = parts_of (drop (place + 1) text) in
    let split : parts_of (get_or text place 0 ∷ drop (place + 1) text) ≡ [] ∷ rest = rw comma refl in
    let here : parts_of (drop place text) ≡ [] ∷ rest = parts_here text place within ∙ split in
    so_far ∙ ap (λ (l : List (List ℕ)). pieces text spans ++ before_first_part (part text p) l) here
    ∙ ap (λ (f : List ℕ). pieces text spans ++ f ∷ rest) (append-nil (part text p))
    ∙ sym (append_assoc (pieces text spans) (part text p ∷ []) rest)
    ∙ ap (λ (l : List (List ℕ)). l ++ rest) (sym (more_pieces text spans p))
    ∙ ap (λ (l : List (List ℕ)). pieces text (spans ++ p ∷ []) ++ l) (sym (nil-first rest))
    ∙ ap (λ (f : List ℕ). pieces text (spans ++ p ∷ []) ++ before_first_part f rest) (sym (part_none text (place + 1)))

pub cut_other : (text : List ℕ) (spans : List FieldSpan) (start place : ℕ) → start ≤ place → place < length text → (get_or text place 0 == 44) ≡ false → Cut text spans start place
    → Cut text spans start (place + 1)
cut_other text spans start place le within other so_far =
    let b = get_or text place 0 in
    let rest = parts_of (drop (place + 1) text) in
    let split : parts_of (b ∷ drop (place + 1) text) ≡ onto_first b rest = rw other refl in
    let here : parts_of (drop place text) ≡ onto_first b rest = parts_here text place within ∙ split in
    let some = parts-some (drop (place + 1) text) in
    let field = part text (record { start = start; end = place }) in
    so_far ∙ ap (λ (l : List (List ℕ)). pieces text spans ++ before_first_part field l) here
    ∙ ap (λ (l : List (List ℕ)). pieces text spans ++ l) (sym (more-first field b rest some.0 some.1 some.2))
    ∙ ap (λ (f : List ℕ). pieces text spans ++ before_first_part f rest) (sym (part_more text start place le within))

pub cut_end : (text : List ℕ) (spans : List FieldSpan) (start place : ℕ) → place ≡ length text → Cut text spans start place
    → parts_of text ≡ pieces text (spans ++ record { start = start; end = length text } ∷ [])
cut_end text spans start place end so_far =
    let p : FieldSpan = record { start = start; end = place } in
    let none : drop place text ≡ [] = drop_all place text (omega (arith, end)) in
    so_far ∙ ap (λ (l : List ℕ). pieces text spans ++ before_first_part (part text p) (parts_of l)) none
    ∙ ap (λ (f : List ℕ). pieces text spans ++ f ∷ []) (append-nil (part text p))
    ∙ sym (more_pieces text spans p) ∙ ap (λ n. pieces text (spans ++ record { start = start; end = n } ∷ [])) end

-- a byte that is not special
pub plain_more : (text : List ℕ) (place : ℕ) → place < length text → is_special (get_or text place 0) ≡ false → list_any is_special (drop place text) ≡ list_any is_special (drop (place + 1) text)
plain_more text place within plain = ap (list_any is_special) (drop_more text place 0 within) ∙ rw plain refl

pub plain_end : (text : List ℕ) (place : ℕ) → place ≡ length text → list_any is_special (drop place text) ≡ false
plain_end text place end = ap (list_any is_special) (drop_all place text (omega (arith, end)))
