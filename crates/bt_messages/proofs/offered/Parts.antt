-- Messages divided at pivots, and bins that lie between them.
use Rattle.std.proofs.Common.{◌≡◌, ℕ, Bool, true, false, not, cond, List, [], ◌∷◌, ◌++◌, ◌+◌, suc, length, map, arith, refl, sym, ap, subst, ◌∙◌, if◌then◌else◌}
use Rattle.std.proofs.lemmas.List.{length-append}
use Rattle.std.specs.List.{filter}
use Rattle.bt_keycode.specs.Keys.{AllFrom, IsSorted, is_before}
use Rattle.bt_message.specs.Messages.{Messages, messages_before, messages_from, with_message, with_messages}
use Rattle.bt_keycode.proofs.offered.Order.{before_later, from_earlier, not_after, not_before_itself}
use Rattle.bt_messages.proofs.offered.Placed.{sorted-with_messages}
use Rattle.bt_messages.proofs.Cuts.{following, filter_sorted}
use Rattle.bt_value.specs.Lists.{concatenation}
use Rattle.bt_messages.specs.Bins.{AllBefore, LieBetween, added, each_with, parts}
use Rattle.bt_messages.specs.Parts.{total}

module _ {M : Type 0} where
  -- ---- a test of keys and newer messages

  -- a message before sorted ones stays before those that pass a test
  front_of : (test : List ℕ → Bool) (m : List ℕ × M) (k : List ℕ) (es : Messages M) → is_before m.0 k ≡ true → AllFrom k es →
      with_message m (filter (λ (e : List ℕ × M). test e.0) es) ≡ m ∷ filter (λ (e : List ℕ × M). test e.0) es
  front_of test m k [] p h = refl
  front_of test m k (e ∷ es) p h =
      let kept = filter (λ (e : List ℕ × M). test e.0) es in
      elim (test e.0) as (λ b. with_message m (cond b (e ∷ kept) kept) ≡ m ∷ cond b (e ∷ kept) kept) [
        | true ↦ ap (λ t. if t then m ∷ e ∷ kept else e ∷ with_message m kept) (before_later m.0 k e.0 p h.0)
        | false ↦ front_of test m k es p h.1
      ]

  kept-with_message : (test : List ℕ → Bool) (m : List ℕ × M) (es : Messages M) → IsSorted es →
      filter (λ (e : List ℕ × M). test e.0) (with_message m es)
      ≡ cond (test m.0) (with_message m (filter (λ (e : List ℕ × M). test e.0) es)) (filter (λ (e : List ℕ × M). test e.0) es)
  kept-with_message test m [] h = refl
  kept-with_message test m (e ∷ es) h =
      let kept = filter (λ (e : List ℕ × M). test e.0) in
      elim (is_before m.0 e.0) as (λ t. is_before m.0 e.0 ≡ t →
      kept (if t then m ∷ e ∷ es else e ∷ with_message m es) ≡ cond (test m.0) (with_message m (kept (e ∷ es))) (kept (e ∷ es))) [
        | true ↦ λ t. ap (λ zs. cond (test m.0) zs (kept (e ∷ es))) (sym (front_of test m e.0 (e ∷ es) t (not_before_itself e.0, h.0)))
        | false ↦ λ t.
            let others = kept-with_message test m es h.1 in
            elim (test e.0) as (λ b. cond b (e ∷ kept (with_message m es)) (kept (with_message m es))
            ≡ cond (test m.0) (with_message m (cond b (e ∷ kept es) (kept es))) (cond b (e ∷ kept es) (kept es))) [
              | true ↦
                  ap (λ zs. e ∷ zs) others
                  ∙ elim (test m.0) as (λ c. e ∷ cond c (with_message m (kept es)) (kept es) ≡ cond c (with_message m (e ∷ kept es)) (e ∷ kept es)) [
                    | true ↦ sym (ap (λ t. if t then m ∷ e ∷ kept es else e ∷ with_message m (kept es)) t)
                    | false ↦ refl
                  ]
              | false ↦ others
            ]
      ] refl

  -- the messages that pass a test, newer ones among sorted ones: the newer that pass, placed among the older that pass
  pub kept-with_messages : (test : List ℕ → Bool) (ms es : Messages M) → IsSorted es →
      filter (λ (e : List ℕ × M). test e.0) (with_messages ms es)
      ≡ with_messages (filter (λ (e : List ℕ × M). test e.0) ms) (filter (λ (e : List ℕ × M). test e.0) es)
  kept-with_messages test [] es h = refl
  kept-with_messages test (m ∷ ms) es h =
      let kept = filter (λ (e : List ℕ × M). test e.0) in
      kept-with_messages test ms (with_message m es) (sorted-with_messages (m ∷ []) es h)
      ∙ ap (with_messages (kept ms)) (kept-with_message test m es h)
      ∙ elim (test m.0) as (λ b. with_messages (kept ms) (cond b (with_message m (kept es)) (kept es)) ≡ with_messages (cond b (m ∷ kept ms) (kept ms)) (kept es)) [
        | true ↦ refl
        | false ↦ refl
      ]

  -- ---- parts

  -- a packet may be divided before it is added
  pub parts-with : (ks : List (List ℕ)) (p b : Messages M) → IsSorted b → parts ks (with_messages p b) ≡ each_with (parts ks p) (parts ks b)
  parts-with [] p b h = refl
  parts-with (k ∷ ks) p b h =
      ap (λ zs. zs ∷ parts ks (messages_from k (with_messages p b))) (kept-with_messages (λ x. is_before x k) p b h)
      ∙ ap (λ zs. with_messages (messages_before k p) (messages_before k b) ∷ parts ks zs) (kept-with_messages (λ x. not (is_before x k)) p b h)
      ∙ ap (λ zs. with_messages (messages_before k p) (messages_before k b) ∷ zs)
      (parts-with ks (messages_from k p) (messages_from k b) (filter_sorted (λ (m : List ℕ × M). not (is_before m.0 k)) b h))

  -- the parts of sorted messages, concatenated, are the messages
  pub concatenation-parts : (ks : List (List ℕ)) (b : Messages M) → IsSorted b → concatenation (parts ks b) ≡ b
  concatenation-parts [] b h = append-none b
    where
      append-none : (xs : Messages M) → xs ++ [] ≡ xs
      append-none [] = refl
      append-none (x ∷ xs) = ap (λ ys. x ∷ ys) (append-none xs)
  concatenation-parts (k ∷ ks) b h =
      ap (λ zs. messages_before k b ++ zs) (concatenation-parts ks (messages_from k b) (filter_sorted (λ (m : List ℕ × M). not (is_before m.0 k)) b h))
      ∙ following k [] b tt h

  -- ---- bins between pivots

  none_before : (k : List ℕ) (c : Messages M) → AllFrom k c → (messages_before k c ≡ []) × (messages_from k c ≡ c)
  none_before k [] f = (refl, refl)
  none_before k (m ∷ ms) f =
      let others = none_before k ms f.1 in (
        ap (λ b. cond b (m ∷ messages_before k ms) (messages_before k ms)) f.0 ∙ others.0,
        ap (λ b. cond (not b) (m ∷ messages_from k ms) (messages_from k ms)) f.0 ∙ ap (λ zs. m ∷ zs) others.1,
      )

  pub cut_at : (k : List ℕ) (b c : Messages M) → AllBefore k b → AllFrom k c → (messages_before k (b ++ c) ≡ b) × (messages_from k (b ++ c) ≡ c)
  cut_at k [] c h f = none_before k c f
  cut_at k (m ∷ ms) c h f =
      let others = cut_at k ms c h.1 f in (
        ap (λ b. cond b (m ∷ messages_before k (ms ++ c)) (messages_before k (ms ++ c))) h.0 ∙ ap (λ zs. m ∷ zs) others.0,
        ap (λ b. cond (not b) (m ∷ messages_from k (ms ++ c)) (messages_from k (ms ++ c))) h.0 ∙ others.1,
      )

  -- what is at or past a key is after what is before it
  all_from-concatenation : (k q : List ℕ) (b c : Messages M) → is_before q k ≡ true → AllFrom q b → AllFrom k c → AllFrom q (b ++ c)
  all_from-concatenation k q [] c p h f = from_earlier q k c (not_after q k p) f
  all_from-concatenation k q (m ∷ ms) c p h f = (h.0, all_from-concatenation k q ms c p h.1 f)

  sorted-concatenation : (k : List ℕ) (b c : Messages M) → IsSorted b → AllBefore k b → AllFrom k c → IsSorted c → IsSorted (b ++ c)
  sorted-concatenation k [] c s h f t = t
  sorted-concatenation k (m ∷ ms) c s h f t = (all_from-concatenation k m.0 ms c h.0 s.0 f, sorted-concatenation k ms c s.1 h.1 f t)

  append-nothing : (xs : Messages M) → xs ++ [] ≡ xs
  append-nothing [] = refl
  append-nothing (x ∷ xs) = ap (λ ys. x ∷ ys) (append-nothing xs)

  -- bins that lie between pivots are the parts of their concatenation
  pub parts-concatenation : (ks : List (List ℕ)) (bs : List (Messages M)) → LieBetween ks bs → parts ks (concatenation bs) ≡ bs
  parts-concatenation ks [] h = absurd h
  parts-concatenation [] (b ∷ []) h = ap (λ zs. zs ∷ []) (append-nothing b)
  parts-concatenation [] (b ∷ c ∷ bs) h = absurd h
  parts-concatenation (k ∷ ks) (b ∷ bs) h =
      let cut = cut_at k b (concatenation bs) h.1 h.2 in
      ap (λ zs. zs ∷ parts ks (messages_from k (b ++ concatenation bs))) cut.0 ∙ ap (λ zs. b ∷ parts ks zs) cut.1
      ∙ ap (λ zs. b ∷ zs) (parts-concatenation ks bs h.3)

  pub concatenation_sorted : (ks : List (List ℕ)) (bs : List (Messages M)) → LieBetween ks bs → IsSorted (concatenation bs)
  concatenation_sorted ks [] h = absurd h
  concatenation_sorted [] (b ∷ []) h = subst IsSorted (sym (append-nothing b)) h
  concatenation_sorted [] (b ∷ c ∷ bs) h = absurd h
  concatenation_sorted (k ∷ ks) (b ∷ bs) h = sorted-concatenation k b (concatenation bs) h.0 h.1 h.2 (concatenation_sorted ks bs h.3)

  pub kept_before : (k : List ℕ) (ms : Messages M) → AllBefore k (messages_before k ms)
  kept_before k [] = tt
  kept_before k (m ∷ ms) = elim (is_before m.0 k) as (λ b. is_before m.0 k ≡ b → AllBefore k (cond b (m ∷ messages_before k ms) (messages_before k ms))) [
    | true ↦ λ e. (e, kept_before k ms)
    | false ↦ λ e. kept_before k ms
  ] refl

  pub kept_from : (k : List ℕ) (ms : Messages M) → AllFrom k (messages_from k ms)
  kept_from k [] = tt
  kept_from k (m ∷ ms) = elim (is_before m.0 k) as (λ b. is_before m.0 k ≡ b → AllFrom k (cond (not b) (m ∷ messages_from k ms) (messages_from k ms))) [
    | true ↦ λ e. kept_from k ms
    | false ↦ λ e. (e, kept_from k ms)
  ] refl

  -- the parts of sorted messages lie between the pivots
  pub parts_lie : (ks : List (List ℕ)) (b : Messages M) → IsSorted b → LieBetween ks (parts ks b)
  parts_lie [] b h = h
  parts_lie (k ∷ ks) b h =
      let later = filter_sorted (λ (m : List ℕ × M). not (is_before m.0 k)) b h in (
        filter_sorted (λ (m : List ℕ × M). is_before m.0 k) b h,
        kept_before k b,
        subst (AllFrom k) (sym (concatenation-parts ks (messages_from k b) later)) (kept_from k b),
        parts_lie ks (messages_from k b) later,
      )

  -- ---- a packet added to bins

  pub added_is : (ks : List (List ℕ)) (p : Messages M) (bs : List (Messages M)) → LieBetween ks bs → added ks p bs ≡ parts ks (with_messages p (concatenation bs))
  added_is ks p bs h = sym (parts-with ks p (concatenation bs) (concatenation_sorted ks bs h) ∙ ap (each_with (parts ks p)) (parts-concatenation ks bs h))

  pub added_lie : (ks : List (List ℕ)) (p : Messages M) (bs : List (Messages M)) → LieBetween ks bs → LieBetween ks (added ks p bs)
  added_lie ks p bs h =
      subst (LieBetween ks) (sym (added_is ks p bs h)) (parts_lie ks (with_messages p (concatenation bs)) (sorted-with_messages p (concatenation bs) (concatenation_sorted ks bs h)))

  -- the bins together hold what they held, with the packet
  pub concatenation-added : (ks : List (List ℕ)) (p : Messages M) (bs : List (Messages M)) → LieBetween ks bs → concatenation (added ks p bs) ≡ with_messages p (concatenation bs)
  concatenation-added ks p bs h =
      ap concatenation (added_is ks p bs h) ∙ concatenation-parts ks (with_messages p (concatenation bs)) (sorted-with_messages p (concatenation bs) (concatenation_sorted ks bs h))

  -- ---- bins and pivots

  pub lie_length : (ks : List (List ℕ)) (bs : List (Messages M)) → LieBetween ks bs → length bs ≡ length ks + 1
  lie_length ks [] h = absurd h
  lie_length [] (b ∷ []) h = refl
  lie_length [] (b ∷ c ∷ bs) h = absurd h
  lie_length (k ∷ ks) (b ∷ bs) h = omega (arith, lie_length ks bs h.3)

  from_right : (k : List ℕ) (b c : Messages M) → AllFrom k (b ++ c) → AllFrom k c
  from_right k [] c h = h
  from_right k (m ∷ ms) c h = from_right k ms c h.1

  from_both : (k : List ℕ) (b c d : Messages M) → AllFrom k (b ++ c) → AllFrom k d → AllFrom k (b ++ d)
  from_both k [] c d h f = f
  from_both k (m ∷ ms) c d h f = (h.0, from_both k ms c d h.1 f)

  -- ---- the number of messages

  length-with_message : (m : List ℕ × M) (es : Messages M) → length (with_message m es) ≡ suc (length es)
  length-with_message m [] = refl
  length-with_message m (e ∷ es) = elim (is_before m.0 e.0) as (λ t. length (if t then m ∷ e ∷ es else e ∷ with_message m es) ≡ suc (suc (length es))) [
    | true ↦ refl
    | false ↦ ap suc (length-with_message m es)
  ]

  pub length-with_messages : (ms older : Messages M) → length (with_messages ms older) ≡ length ms + length older
  length-with_messages [] older = omega arith
  length-with_messages (m ∷ ms) older = omega (arith, length-with_messages ms (with_message m older), length-with_message m older)

  pub length-concatenation : (bs : List (Messages M)) → length (concatenation bs) ≡ total (map length bs)
  length-concatenation [] = refl
  length-concatenation (b ∷ bs) = omega (arith, length-append b (concatenation bs), length-concatenation bs)
