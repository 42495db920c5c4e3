-- The effects of a packet are those of its jobs, one after the other.
use Rattle.std.proofs.Common.{◌≡◌, ◌∙◌, ◌+◌, ◌<◌, ◌≤◌, ℕ, suc, zero, true, false, cond, List, [], ◌∷◌}
use Rattle.std.proofs.Common.{◌++◌, append_assoc, append-nil, ap, arith, drop, get_or, if◌then◌else◌, length, map, refl, subst, sym, take, Option}
use Rattle.std.proofs.lemmas.List.{drop-drop, drop_more}
use Rattle.std.specs.FinMap.{find}
use Rattle.std.specs.List.{filter, flat_map}
use Rattle.std.specs.Ordering.{eq_by_cmp}
use Rattle.bt_value.specs.Lists.{concatenation}
use Rattle.bt_value.specs.declared.value.Value.{Value}
use Rattle.bt_keycode.specs.Keys.{IsSorted, Key, key_cmp}
use Rattle.bt_message.specs.Effects.{Rows}
use Rattle.bt_message.specs.Messages.{Messages}
use Rattle.bt_form.specs.Parts.{AreRising}
use Rattle.bt_fanout.specs.Covers.{is_covered}
use Rattle.bt_fanout.specs.Effects.{RowMessage, effects_within, row_effect}
use Rattle.bt_fanout.specs.declared.cover.Cover.{Cover}
use Rattle.bt_fanout.specs.declared.effect.Effect.{Effect}
use Rattle.bt_fanout.specs.inside.EffectJobs.{message_total}
use Rattle.bt_fanout.specs.inside.Groups.{effects_in, groups, groups_within, value_after_first, with_key}
use Rattle.bt_fanout.proofs.GroupEffects.{as_many, effects_are, keys_rise}

-- ---- numbers of messages

pub counted : (others : List ℕ) (i : ℕ) → i < length others → message_total (drop i others) ≡ suc (get_or others i 0) + message_total (drop (i + 1) others)
counted others i within = ap message_total (drop_more others i 0 within)

pub total-split : (n : ℕ) (others : List ℕ) → message_total (take n others) + message_total (drop n others) ≡ message_total others
total-split zero others = omega arith
total-split (suc n) [] = omega arith
total-split (suc n) (k ∷ others) = omega (arith, total-split n others)

pub length-front : {X : Type 0} (n : ℕ) (xs : List X) → n ≤ length xs → length (take n xs) ≡ n
length-front zero xs within = refl
length-front (suc n) [] within = absurd (omega (arith, within))
length-front (suc n) (x ∷ xs) within = ap suc (length-front n xs (omega (arith, within)))

total-with : (k : Key) (gs : List (Key × ℕ)) → message_total (map (λ g. g.1) (with_key k gs)) ≡ suc (message_total (map (λ g. g.1) gs))
total-with k [] = refl
total-with k (g ∷ gs) =
    elim (eq_by_cmp key_cmp k g.0) as (λ b. message_total (map (λ g. g.1) (if b then (k, suc g.1) ∷ gs else (k, 0) ∷ g ∷ gs)) ≡ suc (suc g.1 + message_total (map (λ g. g.1) gs))) [
      | true ↦ omega arith
      | false ↦ omega arith
    ]

total-groups : {M : Type 0} (ms : Messages M) → message_total (map (λ g. g.1) (groups ms)) ≡ length ms
total-groups [] = refl
total-groups (m ∷ ms) = total-with m.0 (groups ms) ∙ ap suc (total-groups ms)

total-filter : (cover : Cover) (gs : List (Key × ℕ)) → message_total (map (λ g. g.1) (filter (λ g. is_covered cover g.0) gs)) ≤ message_total (map (λ g. g.1) gs)
total-filter cover [] = omega arith
total-filter cover (g ∷ gs) =
    let others = filter (λ g. is_covered cover g.0) gs in
    let fewer = total-filter cover gs in
    elim (is_covered cover g.0) as (λ b. message_total (map (λ g. g.1) (cond b (g ∷ others) others)) ≤ suc g.1 + message_total (map (λ g. g.1) gs)) [
      | true ↦ omega (arith, fewer)
      | false ↦ omega (arith, fewer)
    ]

-- the keys that a packet names have no more messages than it has
pub total_within : {M : Type 0} (cover : Cover) (ms : Messages M) (others : List ℕ) → others ≡ map (λ g. g.1) (groups_within cover ms) → message_total others ≤ length ms
total_within cover ms others is = omega (arith, ap message_total is, total-filter cover (groups ms), total-groups ms)

-- ---- effects in jobs

pub flat_map-push : {A B : Type 0} (f : A → List B) (xs : List A) (x : A) → flat_map f (xs ++ x ∷ []) ≡ flat_map f xs ++ f x
flat_map-push f [] x = append-nil (f x)
flat_map-push f (y ∷ xs) x = ap (λ l. f y ++ l) (flat_map-push f xs x) ∙ sym (append_assoc (f y) (flat_map f xs) (f x))

pub joined_map : {A B : Type 0} (f : A → List B) (xs : List A) → concatenation (map f xs) ≡ flat_map f xs
joined_map f [] = refl
joined_map f (x ∷ xs) = ap (λ l. f x ++ l) (joined_map f xs)

module _ {K : Type 0} (seen : K → Key) (value : Key → Option (List Value)) where
  abbrev pub effects_by : List K → List ℕ → Messages RowMessage → List Effect
  effects_by keys others ms = effects_in (map seen keys) others (map (λ k. value (seen k)) keys) ms

  effects-append : (own later : List K) (others : List ℕ) (ms : Messages RowMessage) → length own ≤ length others
      → effects_by (own ++ later) others ms
      ≡ effects_by own (take (length own) others) ms ++ effects_by later (drop (length own) others) (drop (message_total (take (length own) others)) ms)
  effects-append [] later others ms few = refl
  effects-append (k ∷ own) later [] ms few = absurd (omega (arith, few))
  effects-append (k ∷ own) later (n ∷ others) ms few =
      let first : Effect = record { key = seen k; before = value (seen k); after = value_after_first row_effect (suc n) ms (value (seen k)) } in
      let left = drop (suc n) ms in
      ap (λ es. first ∷ es) (effects-append own later others left (omega (arith, few))
      ∙ ap (λ zs. effects_by own (take (length own) others) left ++ effects_by later (drop (length own) others) zs)
      (drop-drop (message_total (take (length own) others)) (suc n) ms))

  -- the next of the jobs: its keys are the first of those that are left, and its messages those after the ones that are skipped
  pub record IsNextJob (left later : List K) (others later_others : List ℕ) (skipped next : ℕ) : Type 0 where
    pub own : List K
    pub own_others : List ℕ
    pub left_is : left ≡ own ++ later
    pub few : length own ≤ length others
    pub own_is : own_others ≡ take (length own) others
    pub later_is : later_others ≡ drop (length own) others
    pub next_is : next ≡ skipped + message_total own_others

  -- the effects of one more job come before those of the keys that are left
  pub one_job : (ms : Messages RowMessage) {left later : List K} {others later_others : List ℕ} {skipped next : ℕ} (rows : List (Option (List Value))) (before : List Effect)
      {after whole : List Effect} (job : IsNextJob left later others later_others skipped next) → rows ≡ map (λ k. value (seen k)) job.own
      → after ≡ before ++ effects_in (map seen job.own) job.own_others rows (drop skipped ms)
      → before ++ effects_by left others (drop skipped ms) ≡ whole → after ++ effects_by later later_others (drop next ms) ≡ whole
  one_job ms {left} {later} {others} {later_others} {skipped} {next} rows before {after} {whole} job rows_are after_is so_far =
      let own = job.own in
      let n = length own in
      let from = drop skipped ms in
      let now = effects_by own (take n others) from in
      let next_from : drop next ms ≡ drop (message_total (take n others)) from =
      ap (λ i. drop i ms) (job.next_is ∙ ap (λ ns. skipped + message_total ns) job.own_is) ∙ sym (drop-drop (message_total (take n others)) skipped ms) in
      let after_now : after ≡ before ++ now =
      after_is ∙ ap (λ rs. before ++ effects_in (map seen own) job.own_others rs from) rows_are ∙ ap (λ ns. before ++ effects_by own ns from) job.own_is in
      ap (λ es. es ++ effects_by later later_others (drop next ms)) after_now
      ∙ append_assoc before now (effects_by later later_others (drop next ms))
      ∙ ap (λ ns. before ++ (now ++ effects_by later ns (drop next ms))) job.later_is
      ∙ ap (λ zs. before ++ (now ++ effects_by later (drop n others) zs)) next_from
      ∙ ap (λ es. before ++ es) (sym (effects-append own later others from job.few))
      ∙ ap (λ ks. before ++ effects_by ks others from) (sym job.left_is)
      ∙ so_far

-- the keys that a packet names and that a cover covers, as slices, with the numbers of their messages
module _ {K : Type 0} (seen : K → Key) (cover : Cover) (ms : Messages RowMessage) (keys : List K) (others : List ℕ) (is_keys
    : map seen keys ≡ map (λ g. g.0) (groups_within cover ms)) (is_others : others ≡ map (λ g. g.1) (groups_within cover ms)) (sorted : IsSorted ms)
    (key_slice : List K) (other_slice : List ℕ) (same_keys : key_slice ≡ keys) (same_others : other_slice ≡ others) where
  pub named_rise : AreRising (map seen key_slice)
  named_rise = subst (λ ks. AreRising (map seen ks)) (sym same_keys) (keys_rise seen cover ms keys others is_keys is_others sorted)

  pub named_as_many : length other_slice ≡ length key_slice
  named_as_many = ap length same_others ∙ as_many seen cover ms keys others is_keys is_others sorted ∙ sym (ap length same_keys)

  pub named_few : (n bound : ℕ) → n ≡ length ms → n < bound → message_total other_slice < bound
  named_few n bound count few = omega (arith, ap message_total same_others, total_within cover ms others is_others, count, few)

  pub named_effects : (rows : Rows (List Value)) → effects_by seen (λ q. find key_cmp q rows) key_slice other_slice ms ≡ effects_within cover ms rows
  named_effects rows =
      ap (λ ks. effects_by seen (λ q. find key_cmp q rows) ks other_slice ms) same_keys ∙ ap (λ ns. effects_by seen (λ q. find key_cmp q rows) keys ns ms) same_others
      ∙ effects_are seen cover ms keys others is_keys is_others sorted rows (map (λ k. find key_cmp (seen k) rows) keys) refl
