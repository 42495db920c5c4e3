-- Sorted messages, one key at a time.
use Rattle.std.specs.Prelude.{ℕ, suc, [], ◌∷◌, List, drop, fold, take, Option, Some, None, if◌then◌else◌}
use Rattle.std.specs.List.{filter}
use Rattle.std.specs.Ordering.{eq_by_cmp}
use Rattle.bt_value.specs.declared.value.Value.{Value}
use Rattle.bt_keycode.specs.Keys.{Key, key_cmp}
use Rattle.bt_message.specs.Messages.{Messages}
use Rattle.bt_fanout.specs.Covers.{is_covered}
use Rattle.bt_fanout.specs.Effects.{RowMessage, row_effect}
use Rattle.bt_fanout.specs.declared.cover.Cover.{Cover}
use Rattle.bt_fanout.specs.declared.effect.Effect.{Effect}

-- the messages after the first ones, as far as these are to one key
abbrev pub after_group : {M : Type 0} → Key → Messages M → Messages M
after_group k [] = []
after_group k (m ∷ ms) = if eq_by_cmp key_cmp k m.0 then after_group k ms else m ∷ ms

-- how many those first messages are
abbrev pub group_count : {M : Type 0} → Key → Messages M → ℕ
group_count k [] = 0
group_count k (m ∷ ms) = if eq_by_cmp key_cmp k m.0 then suc (group_count k ms) else 0

-- a message that was removed from before those that are left; if none could be removed, none are left
abbrev pub with_next : {M : Type 0} → Option (Key × M) → Messages M → Messages M
with_next None ms = []
with_next (Some m) ms = m ∷ ms

-- ---- keys, each once, and for each how many messages it has after its first one

-- with a message to a key before the others
abbrev pub with_key : Key → List (Key × ℕ) → List (Key × ℕ)
with_key k [] = (k, 0) ∷ []
with_key k (g ∷ gs) = if eq_by_cmp key_cmp k g.0 then (k, suc g.1) ∷ gs else (k, 0) ∷ g ∷ gs

-- those of sorted messages
abbrev pub groups : {M : Type 0} → Messages M → List (Key × ℕ)
groups [] = []
groups (m ∷ ms) = with_key m.0 (groups ms)

-- and those that a cover covers
abbrev pub groups_within : {M : Type 0} → Cover → Messages M → List (Key × ℕ)
groups_within cover ms = filter (λ g. is_covered cover g.0) (groups ms)

-- ---- their effects

-- a value after the first n messages
abbrev pub value_after_first : {V M : Type 0} → (Option V → M → Option V) → ℕ → Messages M → Option V → Option V
value_after_first effect n ms old = fold (λ value m. effect value m.1) old (take n ms)

-- for each of these keys the row before its messages and the row after them; each has that many messages after its first one
abbrev pub effects_in : List Key → List ℕ → List (Option (List Value)) → Messages RowMessage → List Effect
effects_in [] others rows ms = []
effects_in (k ∷ keys) [] rows ms = []
effects_in (k ∷ keys) (n ∷ others) [] ms = []
effects_in (k ∷ keys) (n ∷ others) (row ∷ rows) ms =
    record { key = k; before = row; after = value_after_first row_effect (suc n) ms row } ∷ effects_in keys others rows (drop (suc n) ms)
