-- Texts that are cut at line ends, and the messages of their lines. Serves the reading of a batch in pieces.
use Rattle.std.proofs.Common.{ℕ, suc, List, [], ◌∷◌, ◌++◌, ◌≡◌, ◌==◌, ◌+◌, ◌-◌, ◌<◌, ◌≤◌, ◌∙◌, refl, sym, ap, true, not, Option, Some, None, inl, inr, arith}
use Rattle.std.proofs.Common.{append_assoc, drop, get_or, length, length-drop, map, take}
use Rattle.std.proofs.Math.Seq.{split_at}
use Rattle.std.proofs.lemmas.Bool.{cases_Bool, eqb-true}
use Rattle.std.proofs.lemmas.Grind.{take_at_read}
use Rattle.std.proofs.lemmas.List.{append-nil, append_cancel_right, get_or-drop, map-append, take_rest}
use Rattle.std.proofs.lemmas.List.Elements.{filter-append}
use Rattle.std.specs.List.{flat_map, onto_first}
use Rattle.std.specs.Prelude.{option_map}
use Rattle.bt_value.specs.Lists.{concatenation}
use Rattle.bt_rowtype.specs.declared.item.Item.{Item}
use Rattle.bt_script.specs.Commands.{all_some, filled_lines, if_some, is_blank_line, item_of_line, items_of}
use Rattle.bt_script.specs.Lines.{lines, text_of_lines}

-- ---- the lines of a text

-- a text with a line feed has a first line
has_line : (text : List ℕ) → (first : List ℕ) × (others : List (List ℕ)) × (lines (text ++ 10 ∷ []) ≡ first ∷ others)
has_line [] = ([], [], refl)
has_line (b ∷ bs) = elim (cases_Bool (b == 10)) [
  | inl feed ↦ ([], lines (bs ++ 10 ∷ []), rw feed refl)
  | inr other ↦ let more = has_line bs in (b ∷ more.0, more.1, rw other (ap (onto_first b) more.2))
]

-- the lines up to a line feed, and those after it
lines-feed : (text rest : List ℕ) → lines (text ++ 10 ∷ rest) ≡ lines (text ++ 10 ∷ []) ++ lines rest
lines-feed [] rest = refl
lines-feed (b ∷ bs) rest = elim (cases_Bool (b == 10)) [
  | inl feed ↦ rw feed (ap (λ (ls : List (List ℕ)). [] ∷ ls) (lines-feed bs rest))
  | inr other ↦
      let more = has_line bs in
      rw other
      (ap (onto_first b) (lines-feed bs rest) ∙ ap (λ (ls : List (List ℕ)). onto_first b (ls ++ lines rest)) more.2
      ∙ sym (ap (λ (ls : List (List ℕ)). onto_first b ls ++ lines rest) more.2))
]

-- a text that is cut after a line feed
pub lines-cut : (text : List ℕ) (place : ℕ) → place < length text → (get_or text place 0 == 10) ≡ true → lines text ≡ lines (take (place + 1) text) ++ lines (drop (place + 1) text)
lines-cut text place within feed =
    let ten : get_or text place 0 ≡ 10 = eqb-true (get_or text place 0) 10 feed in
    let next : suc place ≡ place + 1 = omega arith in
    let rest = drop (place + 1) text in
    let taken : take (place + 1) text ≡ take place text ++ 10 ∷ [] = (take_at_read text place 0 within).1 ∙ ap (λ (b : ℕ). take place text ++ b ∷ []) ten in
    let cut : text ≡ take place text ++ 10 ∷ rest =
    split_at text place 0 within ∙ ap (λ (k : ℕ). take place text ++ get_or text place 0 ∷ drop k text) next ∙ ap (λ (b : ℕ). take place text ++ b ∷ rest) ten in
    ap lines cut ∙ lines-feed (take place text) rest ∙ ap (λ (t : List ℕ). lines t ++ lines rest) (sym taken)

-- a text that is cut after the first line feed from a place on
pub lines-split : (text : List ℕ) (least place end : ℕ) → least ≤ length text → place < length (take (length text - least) (drop least text))
    → (get_or (take (length text - least) (drop least text)) place 0 == 10) ≡ true → end ≡ least + place + 1
    → lines text ≡ lines (take end text) ++ lines (take (length text - end) (drop end text))
lines-split text least place end few within feed is =
    let whole : take (length text - least) (drop least text) ≡ drop least text = take_rest text least in
    let inside : least + place < length text = omega (arith, within, ap (length {A = ℕ}) whole, length-drop least text) in
    let there : get_or (take (length text - least) (drop least text)) place 0 ≡ get_or text (least + place) 0 =
    ap (λ (t : List ℕ). get_or t place 0) whole ∙ get_or-drop least text place 0 in
    rw is
    (lines-cut text (least + place) inside (ap (λ (b : ℕ). b == 10) (sym there) ∙ feed)
    ∙ ap (λ (t : List ℕ). lines (take (least + place + 1) text) ++ lines t) (sym (take_rest text (least + place + 1))))

-- the lines of a text of lines
lines-text : (block : List (List ℕ)) (rest : List ℕ) → lines (text_of_lines block ++ rest) ≡ lines (text_of_lines block) ++ lines rest
unfolding text_of_lines
lines-text [] rest = refl
lines-text (line ∷ block) rest =
    let text = text_of_lines block in
    ap lines (append_assoc line (10 ∷ text) rest) ∙ lines-feed line (text ++ rest) ∙ ap (λ (ls : List (List ℕ)). lines (line ++ 10 ∷ []) ++ ls) (lines-text block rest)
    ∙ sym (append_assoc (lines (line ++ 10 ∷ [])) (lines text) (lines rest)) ∙ sym (ap (λ (ls : List (List ℕ)). ls ++ lines rest) (lines-feed line text))

-- the lines of a block are those of its text
pub lines-block : (script rest : List ℕ) (block : List (List ℕ)) → lines script ≡ block ++ lines rest → script ≡ text_of_lines block ++ rest → lines (text_of_lines block) ≡ block
lines-block script rest block same is = append_cancel_right (lines (text_of_lines block)) block (lines rest) (sym (lines-text block rest) ∙ ap lines (sym is) ∙ same)

-- one more line
pub lines-more : (all rest next line : _) (block : List (List ℕ)) → all ≡ block ++ lines rest → lines rest ≡ line ∷ lines next → all ≡ (block ++ line ∷ []) ++ lines next
lines-more all rest next line block so_far first = so_far ∙ ap (λ (ls : List (List ℕ)). block ++ ls) first ∙ sym (append_assoc block (line ∷ []) (lines next))

-- no more lines
pub lines-all : (all : List (List ℕ)) (rest : List ℕ) (block : List (List ℕ)) → all ≡ block ++ lines rest → rest ≡ [] → all ≡ block
lines-all all rest block so_far none = so_far ∙ ap (λ (r : List ℕ). block ++ lines r) none ∙ append-nil block

-- ---- the messages of lines

-- the items of two lists, if both exist
abbrev pub both_lists : {A : Type 0} → Option (List A) → Option (List A) → Option (List A)
both_lists first second = if_some first (λ xs. option_map (λ ys. xs ++ ys) second)

module _ {A : Type 0} where
  pub none_before : (second : Option (List A)) → both_lists (Some []) second ≡ second
  none_before None = refl
  none_before (Some ys) = refl

  all_some-append : (os ps : List (Option A)) → all_some (os ++ ps) ≡ both_lists (all_some os) (all_some ps)
  all_some-append [] ps = sym (none_before (all_some ps))
  all_some-append (None ∷ os) ps = refl
  all_some-append (Some x ∷ os) ps = ap (option_map (λ xs. x ∷ xs)) (all_some-append os ps) ∙ onto (all_some os) (all_some ps)
    where
      onto : (first second : Option (List A)) → option_map (λ xs. x ∷ xs) (both_lists first second) ≡ both_lists (option_map (λ xs. x ∷ xs) first) second
      onto None second = refl
      onto (Some xs) None = refl
      onto (Some xs) (Some ys) = refl

  -- lists that are joined, and the first of them before the others
  abbrev pub joined : List (Option (List A)) → Option (List A)
  joined lists = option_map concatenation (all_some lists)

  pub joined-first : (list : Option (List A)) (lists : List (Option (List A))) → joined (list ∷ lists) ≡ both_lists list (joined lists)
  joined-first None lists = refl
  joined-first (Some xs) lists = after (all_some lists)
    where
      after : (rest : Option (List (List A))) → option_map concatenation (option_map (λ yss. xs ∷ yss) rest) ≡ option_map (λ ys. xs ++ ys) (option_map concatenation rest)
      after None = refl
      after (Some yss) = refl

-- the messages of lines and of others
items-append : (block others : List (List ℕ)) → items_of (block ++ others) ≡ both_lists (items_of block) (items_of others)
unfolding items_of
items-append block others =
    let filled = filled_lines block in
    let more = filled_lines others in
    ap (λ (ls : List (List ℕ)). all_some (map item_of_line ls)) (filter-append (λ l. not (is_blank_line l)) block others)
    ∙ ap (all_some {A = Item}) (map-append item_of_line filled more)
    ∙ all_some-append (map item_of_line filled) (map item_of_line more)

-- the messages of pieces, joined
pub items-pieces : {T : Type 0} (lines_in : T → List (List ℕ)) (pieces : List T) → joined (map (λ piece. items_of (lines_in piece)) pieces) ≡ items_of (flat_map lines_in pieces)
unfolding items_of
items-pieces lines_in [] = refl
items-pieces lines_in (p ∷ ps) =
    joined-first (items_of (lines_in p)) (map (λ piece. items_of (lines_in piece)) ps)
    ∙ ap (both_lists (items_of (lines_in p))) (items-pieces lines_in ps) ∙ sym (items-append (lines_in p) (flat_map lines_in ps))

-- one more piece, and what follows it
pub pieces-more : {T X : Type 0} (parts : T → List X) (pieces : List T) (piece : T) (rest : List X) → flat_map parts (pieces ++ piece ∷ []) ++ rest ≡ flat_map parts pieces ++ (parts piece ++ rest)
pieces-more parts [] piece rest = ap (λ l. l ++ rest) (append-nil (parts piece))
pieces-more parts (p ∷ ps) piece rest =
    append_assoc (parts p) (flat_map parts (ps ++ piece ∷ [])) rest ∙ ap (λ l. parts p ++ l) (pieces-more parts ps piece rest)
    ∙ sym (append_assoc (parts p) (flat_map parts ps) (parts piece ++ rest))
