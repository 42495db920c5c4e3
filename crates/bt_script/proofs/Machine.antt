-- Steps of cutting lines into commands. Serves the parser, which goes from place to place in a script.
use Rattle.std.proofs.Common.{ℕ, Bool, List, [], ◌∷◌, ◌++◌, ◌≡◌, ◌==◌, ◌∙◌, refl, sym, ap, subst, true, false, not, Option}
use Rattle.std.proofs.Common.{Some, None, drop, length, map, filter, ◌<◌, ◌≤◌, arith, inl, inr, codes, true≢false}
use Rattle.std.proofs.lemmas.Bool.{cases_Bool, eqb-true}
use Rattle.std.proofs.lemmas.List.{append-nil, drop_all, map-append}
use Rattle.std.proofs.lemmas.List.Elements.{filter-append}
use Rattle.std.specs.Prelude.{◌&&◌, if◌then◌else◌, is_none, is_some, option_map}
use Rattle.bt_record.specs.Records.{record_of}
use Rattle.bt_script.specs.inside.Blocks.{FindsHeaded, IsBlock, and_bound, and_line, block_answer, headed, is_closed, place_after, with_bound, with_last}
use Rattle.bt_script.specs.Commands.{Answer, Finds, Inside, Outside, all_some, after_prefix, bounds_between, bounds_from, bounds_of, closing_of}
use Rattle.bt_script.specs.Commands.{command_of, commands, commands_from, filled_lines, if_some, is_blank_line, is_word, item_of_line, items_of}
use Rattle.bt_script.specs.Commands.{line_step, load_command, lower_bound, or_syntax, text_of_line, unfinished, upper_bound}
use Rattle.bt_script.specs.Lines.{lines, words, without_return}
use Rattle.bt_script.specs.declared.blocks.BlockEnd.{BlockEnd}
use Rattle.bt_script.specs.declared.blocks.BlockEnd.TheVariants.{Closed, CutOff}
use Rattle.bt_script.specs.declared.command.Bounds.{Bounds}
use Rattle.bt_script.specs.declared.command.Command.{Command}
use Rattle.bt_script.specs.declared.command.Parsed.{Parsed}

-- one more, at the end
pub all_some-snoc : {A : Type 0} (os : List (Option A)) (o : Option A) → all_some (os ++ o ∷ []) ≡ with_last (all_some os) o
all_some-snoc [] None = refl
all_some-snoc [] (Some x) = refl
all_some-snoc (None ∷ os) o = refl
all_some-snoc (Some y ∷ os) o = ap (option_map (λ xs. y ∷ xs)) (all_some-snoc os o) ∙ following_first y (all_some os) o
  where
    following_first : {A : Type 0} (y : A) (xs : Option (List A)) (o : Option A) → option_map (λ ys. y ∷ ys) (with_last xs o) ≡ with_last (option_map (λ ys. y ∷ ys) xs) o
    following_first y None o = refl
    following_first y (Some xs) None = refl
    following_first y (Some xs) (Some x) = refl

-- one more line of a batch
pub items-more : (block : List (List ℕ)) (line : List ℕ) → items_of (block ++ line ∷ []) ≡ and_line (items_of block) (without_return line)
unfolding items_of item_of_line
items-more block line = elim (cases_Bool (is_blank_line line)) [
  | inl blank ↦ rw (filter-append (λ l. not (is_blank_line l)) block (line ∷ []), blank, append-nil (filter (λ l. not (is_blank_line l)) block)) refl
  | inr some ↦ rw (filter-append (λ l. not (is_blank_line l)) block (line ∷ []), some, map-append item_of_line (filter (λ l. not (is_blank_line l)) block) (line ∷ []))
      (all_some-snoc (map item_of_line (filter (λ l. not (is_blank_line l)) block)) (item_of_line line))
]

-- a line that begins with `from` does not begin with `to`
not_upper : (line : List ℕ) → is_some (after_prefix (codes "from ") line) ≡ true → after_prefix (codes "to ") line ≡ None
not_upper [] lower = absurd (true≢false (sym lower))
not_upper (b ∷ bs) lower = elim (cases_Bool (b == 116)) [
  | inl first ↦ absurd (true≢false (sym (subst (λ x. is_some (after_prefix (codes "from ") (x ∷ bs)) ≡ true) (eqb-true b 116 first) lower)))
  | inr other ↦ rw other refl
]

-- after the upper bound there is no other one
upper_last : (from : Option (List (List ℕ))) (to : List (List ℕ)) (line : List ℕ) → with_bound (bounds_between from (Some to)) line ≡ None
upper_last from to line = by_test (is_some (after_prefix (codes "from ") line)) from
  where
    by_test : (lower : Bool) (from : Option (List (List ℕ)))
        → (if lower then (if is_none from && is_none (Some to) then option_map (λ own. bounds_between (Some own) None) (lower_bound line) else None) else None) ≡ None
    by_test true None = refl
    by_test true (Some own) = refl
    by_test false from = refl

-- after the lower bound comes the upper one
upper_after : (from : List (List ℕ)) (line : List ℕ) → option_map (λ to. bounds_between (Some from) (Some to)) (upper_bound line) ≡ with_bound (bounds_between (Some from) None) line
upper_after from line = elim (cases_Bool (is_some (after_prefix (codes "from ") line))) [
  | inl lower ↦ rw (lower, not_upper line lower) refl
  | inr other ↦ rw other refl
]

-- one more line of those that write bounds
bounds_from-more : (texts : List (List ℕ)) (line : List ℕ) → bounds_from (texts ++ line ∷ []) ≡ if_some (bounds_from texts) (λ own. with_bound own line)
bounds_from-more [] line = refl
bounds_from-more (first ∷ []) line = by_first (after_prefix (codes "from ") first)
  where
    by_upper : (to : Option (List (List ℕ))) → ◌≡◌ {A = Option Bounds} None (if_some (option_map (λ own. bounds_between None (Some own)) to) (λ own. with_bound own line))
    by_upper None = refl
    by_upper (Some to) = sym (upper_last None to line)

    by_lower : (from : Option (List (List ℕ))) → if_some from (λ own. option_map (λ to. bounds_between (Some own) (Some to)) (upper_bound line))
        ≡ if_some (option_map (λ own. bounds_between (Some own) None) from) (λ own. with_bound own line)
    by_lower None = refl
    by_lower (Some from) = upper_after from line

    by_first : (text : Option (List ℕ)) → if_some (if_some text record_of) (λ own. option_map (λ to. bounds_between (Some own) (Some to)) (upper_bound line))
        ≡ if_some (if is_some text then option_map (λ own. bounds_between (Some own) None) (if_some text record_of) else option_map (λ to. bounds_between None (Some to)) (upper_bound first))
        (λ own. with_bound own line)
    by_first None = by_upper (upper_bound first)
    by_first (Some text) = by_lower (record_of text)
bounds_from-more (first ∷ second ∷ []) line = by_lower (lower_bound first)
  where
    by_upper : (from : List (List ℕ)) (to : Option (List (List ℕ))) → ◌≡◌ {A = Option Bounds} None (if_some (option_map (λ own. bounds_between (Some from) (Some own)) to) (λ own. with_bound own line))
    by_upper from None = refl
    by_upper from (Some to) = sym (upper_last (Some from) to line)

    by_lower : (from : Option (List (List ℕ)))
        → ◌≡◌ {A = Option Bounds} None (if_some (if_some from (λ own. option_map (λ to. bounds_between (Some own) (Some to)) (upper_bound second))) (λ own. with_bound own line))
    by_lower None = refl
    by_lower (Some from) = by_upper from (upper_bound second)
bounds_from-more (first ∷ second ∷ third ∷ others) line = refl

-- one more line of bounds
pub bounds-more : (block : List (List ℕ)) (line : List ℕ) → bounds_of (block ++ line ∷ []) ≡ and_bound (bounds_of block) (without_return line)
unfolding bounds_of
bounds-more block line = elim (cases_Bool (is_blank_line line)) [
  | inl blank ↦ rw (filter-append (λ l. not (is_blank_line l)) block (line ∷ []), blank, append-nil (filled_lines block)) refl
  | inr some ↦ rw (filter-append (λ l. not (is_blank_line l)) block (line ∷ []), some, map-append text_of_line (filled_lines block) (line ∷ []))
      (bounds_from-more (map text_of_line (filled_lines block)) (text_of_line line))
]

-- a line that does not close the block
pub inside-more : (head closing : List ℕ) (block : List (List ℕ)) (line : List ℕ) (more : List (List ℕ)) → is_word (without_return line) closing ≡ false
    → commands_from (Inside head closing block) (line ∷ more) ≡ commands_from (Inside head closing (block ++ line ∷ [])) more
unfolding commands_from line_step
inside-more head closing block line more other = rw other refl

-- the line that closes it
pub inside-closed : (head closing : List ℕ) (block : List (List ℕ)) (line : List ℕ) (more : List (List ℕ)) → is_word (without_return line) closing ≡ true
    → commands_from (Inside head closing block) (line ∷ more) ≡ or_syntax (command_of head block) ∷ commands_from Outside more
unfolding commands_from line_step
inside-closed head closing block line more closes = rw closes refl

-- the end of the script
pub inside-cut : (head closing : List ℕ) (block : List (List ℕ)) → commands_from (Inside head closing block) [] ≡ unfinished (command_of head block) ∷ commands_from Outside []
unfolding commands_from
inside-cut head closing block = refl

-- inside a block, parsing at one place gives the same as parsing at another place after these lines
abbrev pub Leads : List ℕ → ℕ → ℕ → List ℕ → List (List ℕ) → Type 0
Leads script start at closing block = (head : List ℕ) → commands_from (Inside head closing []) (lines (drop start script)) ≡ commands_from (Inside head closing block) (lines (drop at script))

leads-more : (script : List ℕ) (start at next : ℕ) (closing line : List ℕ) (block : List (List ℕ)) → Leads script start at closing block
    → lines (drop at script) ≡ line ∷ lines (drop next script) → is_word (without_return line) closing ≡ false → Leads script start next closing (block ++ line ∷ [])
leads-more script start at next closing line block so_far first other head =
    so_far head ∙ ap (commands_from (Inside head closing block)) first ∙ inside-more head closing block line (lines (drop next script)) other

leads-closed : (script : List ℕ) (start at next : ℕ) (closing line : List ℕ) (block : List (List ℕ)) → Leads script start at closing block
    → lines (drop at script) ≡ line ∷ lines (drop next script) → is_word (without_return line) closing ≡ true → IsBlock script start closing block (Closed next)
leads-closed script start at next closing line block so_far first closes head =
    so_far head ∙ ap (commands_from (Inside head closing block)) first ∙ inside-closed head closing block line (lines (drop next script)) closes

leads-cut : (script : List ℕ) (start at : ℕ) (closing : List ℕ) (block : List (List ℕ)) → Leads script start at closing block
    → length script ≤ at → IsBlock script start closing block (CutOff (length script))
leads-cut script start at closing block so_far past head =
    let none : drop at script ≡ [] = drop_all at script past in
    let left : drop (length script) script ≡ [] = drop_all (length script) script (omega arith) in
    so_far head ∙ ap (λ (rest : List ℕ). commands_from (Inside head closing block) (lines rest)) (none ∙ sym left) ∙ rw left (inside-cut head closing block)

-- the lines of a block are read from its start up to a place, and a fact is true of them
abbrev pub HasRead : List ℕ → ℕ → ℕ → List ℕ → (List (List ℕ) → Type 0) → Type 0
HasRead script start at closing IsMade = record {
  within : at ≤ length script;
  past : start ≤ at;
  so_far : (block : List (List ℕ)) × IsMade block × Leads script start at closing block;
}

-- the test of the code, of a line without its return, is that of the definition
tested : (line inner closing : List ℕ) (found answer : Bool) → inner ≡ without_return line → found ≡ is_word inner closing → found ≡ answer → is_word (without_return line) closing ≡ answer
tested line inner closing found answer cut test is = ap (λ (l : List ℕ). is_word l closing) (sym cut) ∙ sym test ∙ is

module _ (script : List ℕ) (start at : ℕ) (closing : List ℕ) (IsMade : List (List ℕ) → Type 0) (so_far : HasRead script start at closing IsMade) where
  -- one more line, and the fact that is true with it
  pub read-more : (next : ℕ) (line inner : List ℕ) (found : Bool) (IsMadeNow : List (List ℕ) → Type 0) → lines (drop at script) ≡ line ∷ lines (drop next script) → (at < next) × (next ≤ length script)
      → inner ≡ without_return line → found ≡ is_word inner closing → found ≡ false → ((block : List (List ℕ)) → IsMade block → IsMadeNow (block ++ line ∷ []))
      → HasRead script start next closing IsMadeNow
  read-more next line inner found IsMadeNow first moves cut test other makes =
      let block = so_far.so_far in
      record {
        within = moves.1;
        past = omega (arith, moves.0, so_far.past);
        so_far = (block.0 ++ line ∷ [], makes block.0 block.1, leads-more script start at next closing line block.0 block.2 first (tested line inner closing found false cut test other));
      }

  -- up to the closing line
  pub read-closed : (next : ℕ) (line inner : List ℕ) (found : Bool) → lines (drop at script) ≡ line ∷ lines (drop next script) → inner ≡ without_return line
      → found ≡ is_word inner closing → found ≡ true
      → (block : List (List ℕ)) × IsMade block × IsBlock script start closing block (Closed next)
  read-closed next line inner found first cut test closes =
      let block = so_far.so_far in
      (block.0, block.1, leads-closed script start at next closing line block.0 block.2 first (tested line inner closing found true cut test closes))

  -- up to the end of the script
  pub read-cut : length script ≤ at → (block : List (List ℕ)) × IsMade block × IsBlock script start closing block (CutOff (length script))
  read-cut past = let block = so_far.so_far in (block.0, block.1, leads-cut script start at closing block.0 block.2 past)

-- the head line of a command with a block: what was found is the command that the block makes
pub headed-block : (parsed : Parsed) (script head closing : List ℕ) (at : ℕ) (block : List (List ℕ)) (end : BlockEnd) (command : Option Command)
    → closing_of (words head) ≡ Some closing → IsBlock script at closing block end → block_answer end (command_of head block) ≡ block_answer end command
    → Finds parsed script (block_answer end command ∷ commands (drop (place_after end) script)) → FindsHeaded parsed script head at
headed-block parsed script head closing at block end command closes stands makes found =
    let all : headed head (lines (drop at script)) ≡ block_answer end (command_of head block) ∷ commands (drop (place_after end) script) = rw closes (stands head) in
    subst (Finds parsed script) (sym (all ∙ ap (λ (answer : Answer). answer ∷ commands (drop (place_after end) script)) makes)) found

-- the head line of any other command
pub headed-line : (parsed : Parsed) (script head : List ℕ) (at : ℕ) (command : Option Command) → closing_of (words head) ≡ None → command ≡ command_of head []
    → Finds parsed script (or_syntax command ∷ commands (drop at script)) → FindsHeaded parsed script head at
headed-line parsed script head at command closes makes found = rw (closes, sym makes) found

-- the text of a block that is not closed does not matter
pub load-answer : (end : BlockEnd) (ws : List (List ℕ)) (found text : List ℕ) → (is_closed end ≡ true → found ≡ text)
    → block_answer end (load_command ws text) ≡ block_answer end (load_command ws found)
load-answer (Closed next) ws found text same = ap (λ (t : List ℕ). or_syntax (load_command ws t)) (sym (same refl))
load-answer (CutOff next) ws found text same = elim (cases_Bool (length ws == 1)) [
  | inl alone ↦ rw alone refl
  | inr more ↦ rw more refl
]

-- a line outside of blocks: one that heads a command, and a blank one
pub outside-head : (line : List ℕ) (more : List (List ℕ)) → is_blank_line line ≡ false → commands_from Outside (line ∷ more) ≡ headed (without_return line) more
unfolding commands_from line_step
outside-head line more some = rw some refl

pub outside-blank : (line : List ℕ) (more : List (List ℕ)) → is_blank_line line ≡ true → commands_from Outside (line ∷ more) ≡ commands_from Outside more
unfolding commands_from line_step
outside-blank line more none = rw none refl

pub outside-end : commands_from Outside [] ≡ []
unfolding commands_from
outside-end = refl
