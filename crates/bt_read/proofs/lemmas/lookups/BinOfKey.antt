-- The messages to a key are in the bin of the child to which the key belongs.
use Rattle.std.proofs.Common.{◌≡◌, ◌<◌, ◌≤◌, ℕ, suc, true, false, cond, List, [], ◌∷◌, ◌++◌, append-nil, get_or, length, refl, sym, ap, ◌∙◌, arith, Option}
use Rattle.bt_keycode.specs.Keys.{Key, is_before, is_between}
use Rattle.bt_keycode.proofs.offered.Order.{apart_back}
use Rattle.bt_value.specs.Lists.{concatenation}
use Rattle.bt_messages.specs.Bins.{AllBefore, LieBetween}
use Rattle.bt_messages.proofs.offered.Parts.{lie_length}
use Rattle.bt_messages.proofs.offered.Rows.{value_before}
use Rattle.bt_read.specs.inside.Lookups.{pivots_up_to}
use Rattle.bt_message.specs.declared.message.Message.{Message}
use Rattle.bt_form.specs.Messages.{Messages, between, value_after}
use Rattle.bt_read.specs.declared.value_so_far.ValueSoFar.{ValueSoFar}
use Rattle.bt_read.specs.inside.ValuesSoFar.{BeginsWith}
use Rattle.bt_form.proofs.offered.rows.Between.{value-inside}
use Rattle.bt_form.proofs.offered.rows.Values.{value-append}

module _ {V M : Type 0} (effect : Option V → M → Option V) where
  -- messages to keys before a pivot do nothing at or past it
  earlier : (k p : Key) (ms : Messages M) (o : Option V) → is_before k p ≡ false → AllBefore p ms → value_after effect k ms o ≡ o
  earlier k p [] o past h = refl
  earlier k p (m ∷ ms) o past h =
      ap (λ b. value_after effect k ms (cond b (effect o m.1) o)) (apart_back m.0 p k h.0 past) ∙ earlier k p ms o past h.1

  pub value-bin : (k : Key) (ps : List Key) (bs : List (Messages M)) (o : Option V) → LieBetween ps bs
      → value_after effect k (get_or bs (pivots_up_to k ps) []) o ≡ value_after effect k (concatenation bs) o
  value-bin k ps [] o h = absurd h
  value-bin k [] (b ∷ []) o h = sym (ap (λ ms. value_after effect k ms o) (append-nil b))
  value-bin k [] (b ∷ c ∷ bs) o h = absurd h
  value-bin k (p ∷ ps) (b ∷ bs) o h = elim (is_before k p) as (λ t. is_before k p ≡ t
      → value_after effect k (get_or (b ∷ bs) (cond t 0 (suc (pivots_up_to k ps))) []) o ≡ value_after effect k (b ++ concatenation bs) o) [
        | true ↦ λ t. sym (value-append effect k b (concatenation bs) o ∙ value_before effect k p (concatenation bs) (value_after effect k b o) t h.2)
        | false ↦ λ t. value-bin k ps bs o h.3 ∙ sym (value-append effect k b (concatenation bs) o ∙ ap (value_after effect k (concatenation bs)) (earlier k p b o t h.1))
      ] refl

-- a start value in the bin of a key is the start value in all bins
pub begins-bin : {V D : Type 0} (effect : Option V → Message V D → Option V) (k : Key) (ps : List Key) (bs : List (Messages (Message V D))) (place : ℕ) (left
    : Messages (Message V D)) (start : Option (ValueSoFar V D)) →
    LieBetween ps bs → place ≡ pivots_up_to k ps → BeginsWith effect k (get_or bs place []) start left → BeginsWith effect k (concatenation bs) start left
begins-bin effect k ps bs place left start lie is begins old =
    sym (value-bin effect k ps bs old lie) ∙ ap (λ i. value_after effect k (get_or bs i []) old) (sym is) ∙ begins old

-- between bounds whose keys belong to one child, its bin has the same messages as all bins
pub bin-between : {V M : Type 0} (effect : Option V → M → Option V) (low high : Option Key) (ps : List Key) (bs : List (Messages M)) (place : ℕ) (own : Messages M) →
    LieBetween ps bs → own ≡ between low high (get_or bs place []) → (q : Key) → is_between low high q ≡ true → place ≡ pivots_up_to q ps → (old : Option V) →
    value_after effect q own old ≡ value_after effect q (concatenation bs) old
bin-between effect low high ps bs place own lie own_is q inside is old =
    ap (λ ms. value_after effect q ms old) own_is ∙ value-inside effect low high q (get_or bs place []) old inside
    ∙ ap (λ i. value_after effect q (get_or bs i []) old) is ∙ value-bin effect q ps bs old lie

pub bin-there : {M : Type 0} (ps : List Key) (bs : List (Messages M)) (place : ℕ) → LieBetween ps bs → place ≤ length ps → place < length bs
bin-there ps bs place h few = omega (arith, lie_length ps bs h, few)
