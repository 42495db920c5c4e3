-- The first line of a text, and what is left after it. Serves the cutting of a script into lines.
use Rattle.std.proofs.Common.{ℕ, true, false, List, [], ◌∷◌, ◌++◌, ◌+◌, ◌<◌, ◌≡◌, ◌∙◌, refl, sym, ap, not, ◌==◌, take, drop, length, inl, inr, arith, suc, ◌-◌, ◌≤◌, length-drop}
use Rattle.std.proofs.lemmas.List.{drop-drop, drop_all, take_rest}
use Rattle.std.proofs.lemmas.List.Folds.{length-prefix_len}
use Rattle.std.proofs.lemmas.Bool.{cases_Bool, eqb-true}
use Rattle.std.specs.List.{onto_first, position_or_len, take_while}
use Rattle.bt_script.specs.Lines.{lines}

-- a byte before the first line of some lines
onto_cut : (b : ℕ) (ls : List (List ℕ)) (first : List ℕ) (rest : List (List ℕ)) → ls ≡ first ∷ rest → onto_first b ls ≡ (b ∷ first) ∷ rest
onto_cut b ls first rest e = ap (onto_first b) e

pub one_plus : (n : ℕ) → 1 + n ≡ suc n
one_plus n = omega arith

one_plus_one : (n : ℕ) → 1 + n + 1 ≡ suc (n + 1)
one_plus_one n = omega arith

more_line : (b : ℕ) (bs : List ℕ) (n : ℕ) → lines bs ≡ take n bs ∷ lines (drop (n + 1) bs)
    → onto_first b (lines bs) ≡ take (1 + n) (b ∷ bs) ∷ lines (drop (1 + n + 1) (b ∷ bs))
more_line b bs n e = rw (one_plus_one n, one_plus n) (onto_cut b (lines bs) (take n bs) (lines (drop (n + 1) bs)) e)

-- the first line of a text that is not empty is the bytes before its first LF, and the other lines are those of what follows that
pub lines_at : (text : List ℕ) → 0 < length text
    → lines text ≡ take (position_or_len (λ b. b == 10) text) text ∷ lines (drop (position_or_len (λ b. b == 10) text + 1) text)
lines_at [] some = absurd (omega arith)
lines_at (b ∷ []) some = elim (cases_Bool (b == 10)) [
  | inl feed ↦ rw feed refl
  | inr other ↦ rw other refl
]
lines_at (b ∷ c ∷ bs) some = elim (cases_Bool (b == 10)) [
  | inl feed ↦ rw feed refl
  | inr other ↦
      let more = more_line b (c ∷ bs) (position_or_len (λ x. x == 10) (c ∷ bs)) (lines_at (c ∷ bs) (omega arith)) in
      rw other more
]

-- the line at a place, by the place after it
pub next_line_at : (script : List ℕ) (at n next : ℕ) → at < length script
    → n ≡ length (take_while (λ b. not (b == 10)) (take (length script - at) (drop at script)))
    → drop next script ≡ drop (n + 1) (drop at script)
    → lines (drop at script) ≡ take n (take (length script - at) (drop at script)) ∷ lines (drop next script)
next_line_at script at n next within count after =
    let rest = drop at script in
    let whole : take (length script - at) rest ≡ rest = take_rest script at in
    let n_is : n ≡ position_or_len (λ b. b == 10) rest =
    count ∙ ap (λ (l : List ℕ). length (take_while (λ b. not (b == 10)) l)) whole ∙ length-prefix_len (λ b. not (b == 10)) rest in
    let cut = lines_at rest (omega (arith, length-drop at script)) in
    cut ∙ ap (λ (k : ℕ). take k rest ∷ lines (drop (k + 1) rest)) (sym n_is)
    ∙ ap (λ (l : List ℕ). take n l ∷ lines (drop (n + 1) rest)) (sym whole)
    ∙ ap (λ (l : List ℕ). take n (take (length script - at) rest) ∷ lines l) (sym after)

pub after_feed : (script : List ℕ) (at n : ℕ) → drop (at + n + 1) script ≡ drop (n + 1) (drop at script)
after_feed script at n =
    let place : at + n + 1 ≡ at + (n + 1) = omega arith in
    ap (λ (k : ℕ). drop k script) place ∙ sym (drop-drop (n + 1) at script)

pub after_all : (script : List ℕ) (at n : ℕ) → length script ≤ at + n → drop (length script) script ≡ drop (n + 1) (drop at script)
after_all script at n past = drop_all (length script) script (omega arith) ∙ sym (drop_all (n + 1) (drop at script) (omega (arith, length-drop at script)))

-- a text with a line feed is what precedes the first one, that line feed, and what follows it
pub feed_at : (text : List ℕ) → position_or_len (λ b. b == 10) text < length text
    → text ≡ take (position_or_len (λ b. b == 10) text) text ++ 10 ∷ drop (position_or_len (λ b. b == 10) text + 1) text
feed_at [] within = absurd (omega (arith, within))
feed_at (b ∷ bs) within = elim (cases_Bool (b == 10)) [
  | inl feed ↦ feed_first b bs feed
  | inr other ↦ feed_later b bs other (feed_at bs (later_within b bs other within))
]
  where
    later_within : (b : ℕ) (bs : List ℕ) → (b == 10) ≡ false → position_or_len (λ x. x == 10) (b ∷ bs) < length (b ∷ bs) → position_or_len (λ x. x == 10) bs < length bs
    later_within b bs other within = let inner = rw other at within in omega (arith, inner)

    feed_first : (b : ℕ) (bs : List ℕ) → (b == 10) ≡ true → b ∷ bs ≡ take (position_or_len (λ x. x == 10) (b ∷ bs)) (b ∷ bs) ++ 10 ∷ drop (position_or_len (λ x. x == 10) (b ∷ bs) + 1) (b ∷ bs)
    feed_first b bs feed = let ten : b ≡ 10 = eqb-true b 10 feed in rw feed (ap (λ (x : ℕ). x ∷ bs) ten)

    feed_later : (b : ℕ) (bs : List ℕ) → (b == 10) ≡ false → bs ≡ take (position_or_len (λ x. x == 10) bs) bs ++ 10 ∷ drop (position_or_len (λ x. x == 10) bs + 1) bs
        → b ∷ bs ≡ take (position_or_len (λ x. x == 10) (b ∷ bs)) (b ∷ bs) ++ 10 ∷ drop (position_or_len (λ x. x == 10) (b ∷ bs) + 1) (b ∷ bs)
    feed_later b bs other more = rw (other, one_plus_one (position_or_len (λ x. x == 10) bs), one_plus (position_or_len (λ x. x == 10) bs)) (ap (λ (l : List ℕ). b ∷ l) more)

-- the bytes of the line at a place, if a line feed ends it
pub feed_after : (script : List ℕ) (at n : ℕ) → n ≡ length (take_while (λ b. not (b == 10)) (take (length script - at) (drop at script)))
    → at + n < length script → drop at script ≡ take n (take (length script - at) (drop at script)) ++ 10 ∷ drop (at + n + 1) script
feed_after script at n count within =
    let rest = drop at script in
    let whole : take (length script - at) rest ≡ rest = take_rest script at in
    let n_is : n ≡ position_or_len (λ b. b == 10) rest =
    count ∙ ap (λ (l : List ℕ). length (take_while (λ b. not (b == 10)) l)) whole ∙ length-prefix_len (λ b. not (b == 10)) rest in
    let cut = feed_at rest (omega (arith, length-drop at script, n_is)) in
    cut ∙ ap (λ (k : ℕ). take k rest ++ 10 ∷ drop (k + 1) rest) (sym n_is)
    ∙ ap (λ (l : List ℕ). take n l ++ 10 ∷ drop (n + 1) rest) (sym whole)
    ∙ ap (λ (l : List ℕ). take n (take (length script - at) rest) ++ 10 ∷ l) (sym (after_feed script at n))
