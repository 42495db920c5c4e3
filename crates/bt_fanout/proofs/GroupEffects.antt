-- The effects of a packet on the keys that a cover covers, made group by group.
use Rattle.std.proofs.Common.{◌≡◌, ℕ, zero, suc, ◌+◌, ◌<◌, ◌≤◌, true, false, cond, T, List, [], ◌∷◌, ◌++◌, append_assoc, drop, get_or, length, map, refl, sym, ap, subst, ◌∙◌, Option, arith}
use Rattle.std.proofs.Math.Seq.{drop-cons}
use Rattle.std.proofs.lemmas.List.{length-append, length-map}
use Rattle.std.specs.FinMap.{find}
use Rattle.std.specs.FinMap.Entries.{below_all, is_sorted}
use Rattle.std.specs.List.{filter}
use Rattle.bt_value.specs.declared.value.Value.{Value}
use Rattle.bt_keycode.specs.Keys.{IsSorted, key_cmp}
use Rattle.bt_keycode.proofs.offered.Order.{not_after, not_before_itself}
use Rattle.bt_message.specs.Effects.{Rows}
use Rattle.bt_message.specs.Messages.{Messages}
use Rattle.bt_form.specs.Parts.{AreRising}
use Rattle.bt_keycode.proofs.offered.Truths.{t_first, t_second, true_t}
use Rattle.bt_fanout.specs.Covers.{is_covered}
use Rattle.bt_fanout.specs.Effects.{RowMessage, effects_at, effects_within, row_effect}
use Rattle.bt_fanout.specs.Selections.{named}
use Rattle.bt_fanout.specs.declared.cover.Cover.{Cover}
use Rattle.bt_fanout.specs.declared.effect.Effect.{Effect}
use Rattle.bt_fanout.specs.inside.Groups.{after_group, effects_in, group_count, groups_within, value_after_first}
use Rattle.bt_fanout.proofs.Groups.{after-count, drop-count, effects-group, length-following, none_within, past-named, same_found, sorted-following, uncovered_from, value_of_group, within-group}
use Rattle.bt_fanout.proofs.offered.Packets.{sorted-named}

module _ (cover : Cover) where
  abbrev within : List Effect → List Effect
  within effects = filter (λ effect. is_covered cover effect.key) effects

  -- ---- keys in order

  module _ (before after : List ℕ → Option (List Value)) where
    abbrev effect_at : List ℕ → Effect
    effect_at k = record { key = k; before = before k; after = after k }

    -- after a key that isn't covered there is no effect
    none_at : (k : List ℕ) (ks : Rows (Unit {0})) → T (below_all key_cmp k ks) → is_covered cover k ≡ false → within (effects_at before after ks) ≡ []
    none_at k [] below none = refl
    none_at k (j ∷ ks) below none =
        let others = within (effects_at before after ks) in
        ap (λ b. cond b (effect_at j.0 ∷ others) others) (uncovered_from cover k j.0 (not_after k j.0 (true_t _ (t_first _ _ below))) none) ∙ none_at k ks (t_second _ _ below) none

    rise_from : (j : List ℕ) (ks : Rows (Unit {0})) → T (below_all key_cmp j ks) → T (is_sorted key_cmp ks) → AreRising (j ∷ map (λ e. e.key) (within (effects_at before after ks)))
    rise_from j [] below sorted = tt
    rise_from j (k ∷ ks) below sorted =
        let others = within (effects_at before after ks) in
        elim (is_covered cover k.0) as (λ b. AreRising (j ∷ map (λ e. e.key) (cond b (effect_at k.0 ∷ others) others))) [
          | true ↦ (true_t _ (t_first _ _ below), rise_from k.0 ks (t_first _ _ sorted) (t_second _ _ sorted))
          | false ↦ rise_from j ks (t_second _ _ below) (t_second _ _ sorted)
        ]

    rise : (ks : Rows (Unit {0})) → T (is_sorted key_cmp ks) → AreRising (map (λ e. e.key) (within (effects_at before after ks)))
    rise [] sorted = tt
    rise (k ∷ ks) sorted =
        let others = within (effects_at before after ks) in
        elim (is_covered cover k.0) as (λ b. AreRising (map (λ e. e.key) (cond b (effect_at k.0 ∷ others) others))) [
          | true ↦ rise_from k.0 ks (t_first _ _ sorted) (t_second _ _ sorted)
          | false ↦ rise ks (t_second _ _ sorted)
        ]

  -- ---- effects of groups

  module _ (rows : Rows (List Value)) where
    abbrev effects_by : List (List ℕ × ℕ) → Messages RowMessage → List Effect
    effects_by gs ms = effects_in (map (λ g. g.0) gs) (map (λ g. g.1) gs) (map (λ g. find key_cmp g.0 rows) gs) ms

    keys-by : (gs : List (List ℕ × ℕ)) (ms : Messages RowMessage) → map (λ e. e.key) (effects_by gs ms) ≡ map (λ g. g.0) gs
    keys-by [] ms = refl
    keys-by (g ∷ gs) ms = ap (λ ks. g.0 ∷ ks) (keys-by gs (drop (suc g.1) ms))

    -- the effects of the first group, and of the others
    within-effects : (m : List ℕ × RowMessage) (ms : Messages RowMessage) → IsSorted (m ∷ ms) → effects_within cover (m ∷ ms) rows
        ≡ cond (is_covered cover m.0) (record {
          key = m.0;
          before = find key_cmp m.0 rows;
          after =
              value_of_group row_effect m.0 ms (row_effect (find key_cmp m.0 rows) m.1);
        } ∷ effects_within cover (after_group m.0 ms) rows)
        (effects_within cover (after_group m.0 ms) rows)
    within-effects m ms sorted = ap within (effects-group m ms rows sorted)

    effects-groups : (n : ℕ) (ms : Messages RowMessage) → length ms ≤ n → IsSorted ms → effects_by (groups_within cover ms) ms ≡ effects_within cover ms rows
    effects-groups n [] few sorted = refl
    effects-groups zero (m ∷ ms) few sorted = absurd (omega (arith, few))
    effects-groups (suc n) (m ∷ ms) few sorted =
        elim (is_covered cover m.0) as (λ b. is_covered cover m.0 ≡ b
        → effects_by (groups_within cover (m ∷ ms)) (m ∷ ms) ≡ effects_within cover (m ∷ ms) rows) [
          | true ↦ λ is.
              let past = after_group m.0 ms in
              let row = find key_cmp m.0 rows in
              let after = value_of_group row_effect m.0 ms (row_effect row m.1) in
              let first : Option (List Value) → Effect = λ a. record { key = m.0; before = row; after = a } in
              let shorter = length-following m.0 ms in
              ap (λ gs. effects_by gs (m ∷ ms)) (within-group cover m ms is)
              ∙ ap (λ a. first a ∷ effects_by (groups_within cover past) (drop (group_count m.0 ms) ms)) (after-count row_effect m.0 ms (row_effect row m.1))
              ∙ ap (λ zs. first after ∷ effects_by (groups_within cover past) zs) (drop-count m.0 ms)
              ∙ ap (λ es. first after ∷ es) (effects-groups n past (omega (arith, few, shorter)) (sorted-following m.0 ms sorted.1))
              ∙ sym (within-effects m ms sorted ∙ ap (λ b. cond b (first after ∷ effects_within cover past rows) (effects_within cover past rows)) is)
          | false ↦ λ none.
              let row = find key_cmp m.0 rows in
              let past = effects_within cover (after_group m.0 ms) rows in
              let first : Effect = record { key = m.0; before = row; after = value_of_group row_effect m.0 ms (row_effect row m.1) } in
              ap (λ gs. effects_by gs (m ∷ ms)) (none_within cover m.0 (m ∷ ms) (not_before_itself m.0, sorted.0) none)
              ∙ sym (within-effects m ms sorted ∙ ap (λ b. cond b (first ∷ past) past) none ∙ none_at _ _ m.0 (named (after_group m.0 ms)) (past-named m ms sorted) none)
        ] refl

    -- so these keys rise
    groups_rise : (ms : Messages RowMessage) → IsSorted ms → AreRising (map (λ g. g.0) (groups_within cover ms))
    groups_rise ms sorted =
        subst AreRising (ap (map (λ e. e.key)) (sym (effects-groups (length ms) ms (omega arith) sorted)) ∙ keys-by (groups_within cover ms) ms) (rise _ _ (named ms) (sorted-named ms))

-- ---- the effects, one after the other

-- the effect on the next key: its number of further messages is at the same place, and its row comes next
pub record IsNextEffect {K : Type 0} (seen : K → List ℕ) (keys : List K) (others : List ℕ) (rows later : List (Option (List Value))) (ms left : Messages RowMessage)
    (effect : Effect) (old new : List Effect) : Type 0 where
  pub row : Option (List Value)
  pub place : ℕ
  pub key : K
  pub count : ℕ
  pub row_is : rows ≡ row ∷ later
  pub of_key : effect.key ≡ seen key
  pub of_row : effect.before ≡ row
  pub after_is : effect.after ≡ value_after_first row_effect (count + 1) ms row
  pub left_is : left ≡ drop (count + 1) ms
  pub place_is : place ≡ length old
  pub key_within : length old < length keys
  pub key_is : key ≡ get_or keys place key
  pub count_within : length old < length others
  pub count_is : count ≡ get_or others place count
  pub added : new ≡ old ++ effect ∷ []

-- one more effect
pub one_effect : {K : Type 0} (seen : K → List ℕ) (keys : List K) (others : List ℕ) {rows later : List (Option (List Value))} {ms left : Messages RowMessage} {effect : Effect}
    (old new whole : List Effect) → IsNextEffect seen keys others rows later ms left effect old new
    → whole ≡ old ++ effects_in (map seen (drop (length old) keys)) (drop (length old) others) rows ms
    → whole ≡ new ++ effects_in (map seen (drop (length new) keys)) (drop (length new) others) later left
one_effect seen keys others {rows} {later} {ms} {left} {effect} old new whole next is =
    let row = next.row in
    let key = next.key in
    let count = next.count in
    let n = length old in
    let longer : suc n ≡ length new = omega (arith, ap length next.added, length-append old (effect ∷ [])) in
    let one : count + 1 ≡ suc count = omega arith in
    let first : Effect = record { key = seen key; before = row; after = value_after_first row_effect (suc count) ms row } in
    let same : first ≡ effect = λ i. record { key = sym next.of_key i; before = sym next.of_row i; after = sym (next.after_is ∙ ap (λ m. value_after_first row_effect m ms row) one) i } in
    let next_keys : drop n keys ≡ key ∷ drop (length new) keys =
    drop-cons keys n key next.key_within ∙ ap (λ k. k ∷ drop (suc n) keys) (sym (next.key_is ∙ ap (λ p. get_or keys p key) next.place_is)) ∙ ap (λ m. key ∷ drop m keys) longer in
    let next_others : drop n others ≡ count ∷ drop (length new) others =
    drop-cons others n count next.count_within ∙ ap (λ k. k ∷ drop (suc n) others) (sym (next.count_is ∙ ap (λ p. get_or others p count) next.place_is)) ∙ ap (λ m. count ∷ drop m others) longer in
    is ∙ ap (λ ks. old ++ effects_in (map seen ks) (drop n others) rows ms) next_keys ∙ ap (λ ns. old ++ effects_in (map seen (key ∷ drop (length new) keys)) ns rows ms) next_others
    ∙ ap (λ rs. old ++ effects_in (map seen (key ∷ drop (length new) keys)) (count ∷ drop (length new) others) rs ms) next.row_is
    ∙ ap (λ e. old ++ e ∷ effects_in (map seen (drop (length new) keys)) (drop (length new) others) later (drop (suc count) ms)) same
    ∙ ap (λ zs. old ++ effect ∷ effects_in (map seen (drop (length new) keys)) (drop (length new) others) later zs) (sym (next.left_is ∙ ap (λ m. drop m ms) one))
    ∙ sym (append_assoc old (effect ∷ []) (effects_in (map seen (drop (length new) keys)) (drop (length new) others) later left))
    ∙ ap (λ es. es ++ effects_in (map seen (drop (length new) keys)) (drop (length new) others) later left) (sym next.added)

-- The keys of a packet that a cover covers, and for each how many messages it has after its first one.
module _ {K : Type 0} (seen : K → List ℕ) (cover : Cover) (ms : Messages RowMessage) (keys : List K) (others : List ℕ) (is_keys
    : map seen keys ≡ map (λ g. g.0) (groups_within cover ms)) (is_others : others ≡ map (λ g. g.1) (groups_within cover ms)) (sorted : IsSorted ms) where
  pub keys_rise : AreRising (map seen keys)
  keys_rise = subst AreRising (sym is_keys) (groups_rise cover [] ms sorted)

  pub as_many : length others ≡ length keys
  as_many =
      let gs = groups_within cover ms in
      ap length is_others ∙ length-map gs (λ g. g.1) ∙ sym (length-map gs (λ g. g.0)) ∙ ap length (sym is_keys) ∙ length-map keys seen

  -- with the rows of these keys they have the effects of the packet
  module _ (rows : Rows (List Value)) (found : List (Option (List Value))) (is_found : found ≡ map (λ k. find key_cmp (seen k) rows) keys) where
    pub effects_are : effects_in (map seen keys) others found ms ≡ effects_within cover ms rows
    effects_are =
        let gs = groups_within cover ms in
        let rows_are : found ≡ map (λ g. find key_cmp g.0 rows) gs = is_found ∙ same_found (λ k. find key_cmp k rows) seen (λ g. g.0) keys gs is_keys in
        ap (λ ks. effects_in ks others found ms) is_keys ∙ ap (λ ns. effects_in (map (λ g. g.0) gs) ns found ms) is_others
        ∙ ap (λ rs. effects_in (map (λ g. g.0) gs) (map (λ g. g.1) gs) rs ms) rows_are
        ∙ effects-groups cover rows (length ms) ms (omega arith) sorted
