-- Effects on fewer keys: what an index is sent is the same, if the keys that it covers are among them.
use Rattle.std.proofs.Common.{◌≡◌, true, false, not, cond, List, [], ◌∷◌, ◌++◌, refl, sym, ap, ◌∙◌, if◌then◌else◌, true≢false}
use Rattle.std.specs.List.{filter}
use Rattle.bt_value.specs.declared.value.Value.{Value}
use Rattle.bt_keycode.specs.Keys.{Key, is_before}
use Rattle.bt_keycode.proofs.offered.Order.{before_chain, later_chain}
use Rattle.bt_message.specs.Effects.{Rows}
use Rattle.bt_message.specs.Messages.{Messages}
use Rattle.bt_fanout.specs.Covers.{is_covered, wider}
use Rattle.bt_fanout.specs.Effects.{RowMessage, effects_of, effects_within, sent_for, sent_for_all}
use Rattle.bt_fanout.specs.Entries.{Definition, entry_of, same_values}
use Rattle.bt_fanout.specs.Selections.{between, entry_in}
use Rattle.bt_fanout.specs.declared.cover.Cover.{Cover}
use Rattle.bt_fanout.specs.declared.cover.Cover.TheVariants.{Nothing, UpTo, Whole}
use Rattle.bt_fanout.specs.declared.effect.Effect.{Effect}

-- ---- covers

-- the keys of one cover are among those of another
abbrev pub IsAmong : Cover → Cover → Type 0
IsAmong cover wide = (k : Key) → is_covered cover k ≡ true → is_covered wide k ≡ true

not_past : (a b k : Key) → is_before a b ≡ true → not (is_before a k) ≡ true → not (is_before b k) ≡ true
not_past a b k before is = elim (is_before b k) as (λ t. is_before b k ≡ t → not t ≡ true) [
  | true ↦ λ t. absurd (true≢false (sym is ∙ ap not (before_chain a b k before t)))
  | false ↦ λ t. refl
] refl

past_none : (a b k : Key) → is_before a b ≡ false → not (is_before b k) ≡ true → not (is_before a k) ≡ true
past_none a b k later is = elim (is_before b k) as (λ t. is_before b k ≡ t → not t ≡ true → not (is_before a k) ≡ true) [
  | true ↦ λ t e. absurd (true≢false (sym e))
  | false ↦ λ t e. ap not (later_chain k b a t later)
] refl is

pub first_among_wider : (cover other : Cover) → IsAmong cover (wider cover other)
first_among_wider Nothing other k is = absurd (true≢false (sym is))
first_among_wider (UpTo last) Nothing k is = is
first_among_wider (UpTo last) (UpTo later) k is = elim (is_before last later) as (λ b. is_before last later ≡ b → is_covered (if b then UpTo later else UpTo last) k ≡ true) [
  | true ↦ λ b. not_past last later k b is
  | false ↦ λ b. is
] refl
first_among_wider (UpTo last) Whole k is = refl
first_among_wider Whole other k is = refl

pub second_among_wider : (cover other : Cover) → IsAmong other (wider cover other)
second_among_wider Nothing other k is = is
second_among_wider (UpTo last) Nothing k is = absurd (true≢false (sym is))
second_among_wider (UpTo last) (UpTo later) k is = elim (is_before last later) as (λ b. is_before last later ≡ b → is_covered (if b then UpTo later else UpTo last) k ≡ true) [
  | true ↦ λ b. is
  | false ↦ λ b. past_none last later k b is
] refl
second_among_wider (UpTo last) Whole k is = refl
second_among_wider Whole other k is = refl

-- ---- effects

-- all keys are covered by the whole cover
pub effects-whole : (batch : Messages RowMessage) (rows : Rows (List Value)) → effects_within Whole batch rows ≡ effects_of batch rows
effects-whole batch rows = all (effects_of batch rows)
  where
    all : (effects : List Effect) → filter (λ effect. is_covered Whole effect.key) effects ≡ effects
    all [] = refl
    all (effect ∷ effects) = ap (λ es. effect ∷ es) (all effects)

-- and none by the empty one
pub effects-nothing : (batch : Messages RowMessage) (rows : Rows (List Value)) → effects_within Nothing batch rows ≡ []
effects-nothing batch rows = none (effects_of batch rows)
  where
    none : (effects : List Effect) → filter (λ effect. is_covered Nothing effect.key) effects ≡ []
    none [] = refl
    none (effect ∷ effects) = none effects

not_sent : (def : Definition) (cover wide : Cover) → IsAmong cover wide → (effect : Effect) → is_covered wide effect.key ≡ false → sent_for def cover effect ≡ []
not_sent def cover wide among effect none =
    elim (is_covered cover effect.key) as (λ b. is_covered cover effect.key ≡ b
    → (if b then between {D = List Value} same_values (entry_in (entry_of def) effect.key effect.before) (entry_in (entry_of def) effect.key effect.after) else []) ≡ []) [
      | true ↦ λ b. absurd (true≢false (sym (among effect.key b) ∙ none))
      | false ↦ λ b. refl
    ] refl

pub entry_changes-within : (def : Definition) (cover wide : Cover) → IsAmong cover wide → (effects : List Effect) →
    sent_for_all def cover (filter (λ effect. is_covered wide effect.key) effects) ≡ sent_for_all def cover effects
entry_changes-within def cover wide among [] = refl
entry_changes-within def cover wide among (effect ∷ effects) =
    let others = filter (λ effect. is_covered wide effect.key) effects in
    elim (is_covered wide effect.key) as (λ b. is_covered wide effect.key ≡ b
    → sent_for_all def cover (cond b (effect ∷ others) others) ≡ sent_for def cover effect ++ sent_for_all def cover effects) [
      | true ↦ λ b. ap (λ ms. sent_for def cover effect ++ ms) (entry_changes-within def cover wide among effects)
      | false ↦ λ b. entry_changes-within def cover wide among effects ∙ sym (ap (λ ms. ms ++ sent_for_all def cover effects) (not_sent def cover wide among effect b))
    ] refl
