-- The messages for the effects of a batch are the index messages of the batch.
use Rattle.std.proofs.Common.{◌≡◌, ℕ, ◌+◌, ◌<◌, ◌≤◌, true, false, cond, List, [], ◌∷◌, ◌++◌, append-nil, append_assoc, drop, get_or, length, refl, sym, ap, ◌∙◌, Option, if◌then◌else◌}
use Rattle.std.proofs.lemmas.List.{drop_more}
use Rattle.std.proofs.Math.ListN.{drop_of_length-le}
use Rattle.std.specs.FinMap.{find}
use Rattle.bt_value.specs.declared.value.Value.{Value}
use Rattle.bt_value.proofs.offered.SameValues.{same_values-sound}
use Rattle.bt_message.specs.Effects.{Rows, merged_entry, rows_after}
use Rattle.bt_keycode.specs.Keys.{key_cmp}
use Rattle.bt_message.specs.Messages.{Messages, sorted_batch}
use Rattle.bt_fanout.specs.Covers.{is_covered}
use Rattle.bt_fanout.specs.Effects.{EntryMessage, effects_at, entry_effect, row_effect, sent_for, sent_for_all}
use Rattle.bt_fanout.specs.Entries.{Definition, StandsUnder, entry_of, same_values}
use Rattle.bt_fanout.specs.Promises.{TurnsIndex, index_of}
use Rattle.bt_fanout.specs.Selections.{between, covered, entry_changes, entry_in, index_messages, named}
use Rattle.bt_fanout.specs.declared.cover.Cover.{Cover}
use Rattle.bt_fanout.specs.declared.effect.Effect.{Effect}
use Rattle.bt_fanout.proofs.Batches.{index_turns}
use Rattle.bt_fanout.proofs.Entries.{apart}

sent_for_all-is : (def : Definition) (cover : Cover) (before after : List ℕ → Option (List Value)) (ks : Rows (Unit {0})) →
    sent_for_all def cover (effects_at before after ks) ≡ entry_changes (entry_of def) {D = List Value} same_values before after (covered (is_covered cover) ks)
sent_for_all-is def cover before after [] = refl
sent_for_all-is def cover before after (k ∷ ks) =
    let changes : Messages EntryMessage = between same_values (entry_in (entry_of def) k.0 (before k.0)) (entry_in (entry_of def) k.0 (after k.0)) in
    elim (is_covered cover k.0) as (λ b. (if b then changes else []) ++ sent_for_all def cover (effects_at before after ks)
    ≡ entry_changes (entry_of def) {D = List Value} same_values before after (cond b (k ∷ covered (is_covered cover) ks) (covered (is_covered cover) ks))) [
      | true ↦ ap (λ ms. changes ++ ms) (sent_for_all-is def cover before after ks)
      | false ↦ sent_for_all-is def cover before after ks
    ]

pub turns_index : (def : Definition) (cover : Cover) (effects : List Effect) → TurnsIndex def cover effects (sorted_batch (sent_for_all def cover effects))
turns_index def cover effects kinds batch rows e sorted s t =
    let same : sorted_batch (sent_for_all def cover effects) ≡ sorted_batch (index_messages (entry_of def) same_values row_effect (is_covered cover) batch rows) =
    ap (λ es. sorted_batch (sent_for_all def cover es)) e
    ∙ ap sorted_batch (sent_for_all-is def cover (λ k. find key_cmp k rows) (λ k. find key_cmp k (rows_after row_effect batch rows)) (named batch)) in
    record {
      messages = same;
      index = ap (λ ms. rows_after entry_effect ms (index_of def cover rows)) same
          ∙ index_turns (entry_of def) same_values same_values-sound merged_entry (StandsUnder def kinds) (apart def kinds) row_effect (is_covered cover) batch rows sorted s t;
    }

-- the messages for one more effect
pub one_more : (def : Definition) (cover : Cover) (effects : List Effect) (i : ℕ) (effect : Effect) (whole old new : Messages EntryMessage) → i < length effects → effect ≡ get_or effects i effect →
    whole ≡ old ++ sent_for_all def cover (drop i effects) → new ≡ old ++ sent_for def cover effect → whole ≡ new ++ sent_for_all def cover (drop (i + 1) effects)
one_more def cover effects i effect whole old new within is so more =
    so ∙ ap (λ es. old ++ sent_for_all def cover es) (drop_more effects i effect within ∙ ap (λ e. e ∷ drop (i + 1) effects) (sym is))
    ∙ sym (append_assoc old (sent_for def cover effect) (sent_for_all def cover (drop (i + 1) effects)))
    ∙ ap (λ ms. ms ++ sent_for_all def cover (drop (i + 1) effects)) (sym more)

-- none are left
pub all_sent : (def : Definition) (cover : Cover) (effects : List Effect) (i : ℕ) (whole sent : Messages EntryMessage) → length effects ≤ i
    → whole ≡ sent ++ sent_for_all def cover (drop i effects) → sent ≡ whole
all_sent def cover effects i whole sent past e = sym (e ∙ ap (λ es. sent ++ sent_for_all def cover es) (drop_of_length-le effects past) ∙ append-nil sent)
