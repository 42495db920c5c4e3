-- Values of a row at places.
use Rattle.std.proofs.Common.{◌≡◌, ◌<◌, ◌+◌, ◌++◌, ℕ, false, List, [], ◌∷◌, ap, append_assoc, sym, ◌∙◌, drop, get_or, length, slice_get, Some}
use Rattle.std.proofs.lemmas.List.{drop_more}
use Rattle.std.proofs.lemmas.Option.{get_or_from_slice_get}
use Rattle.bt_value.specs.declared.value.Value.{Value}
use Rattle.bt_value.specs.declared.value.Value.TheVariants as value
pub use Rattle.bt_value.proofs.offered.Kinds.{bytes_fit}
use Rattle.bt_keycode.specs.Codes.{code_of, code_of_value}
use Rattle.bt_fanout.specs.Entries.{picked, value_in}

-- the value that is found at a place
pub value_seen : (row : List Value) (place : ℕ) (v : Value) → slice_get row place ≡ Some v → value_in row place ≡ v
value_seen row place v is = get_or_from_slice_get row place v (value.Flag false) is

-- one more value
pub one_more : (places : List ℕ) (i d : ℕ) (row : List Value) (v : Value) (whole old new : List Value) → i < length places → slice_get row (get_or places i d) ≡ Some v →
    whole ≡ old ++ picked (drop i places) row → new ≡ old ++ v ∷ [] → whole ≡ new ++ picked (drop (i + 1) places) row
one_more places i d row v whole old new within is so more =
    so ∙ ap (λ ps. old ++ picked ps row) (drop_more places i d within) ∙ ap (λ x. old ++ x ∷ picked (drop (i + 1) places) row) (value_seen row (get_or places i d) v is)
    ∙ sym (append_assoc old (v ∷ []) (picked (drop (i + 1) places) row)) ∙ ap (λ vs. vs ++ picked (drop (i + 1) places) row) (sym more)

-- and one more code
pub one_code_more : (places : List ℕ) (i d : ℕ) (row : List Value) (v : Value) (whole old new : List ℕ) → i < length places → slice_get row (get_or places i d) ≡ Some v →
    whole ≡ old ++ code_of (picked (drop i places) row) → new ≡ old ++ code_of_value v → whole ≡ new ++ code_of (picked (drop (i + 1) places) row)
one_code_more places i d row v whole old new within is so more =
    so ∙ ap (λ ps. old ++ code_of (picked ps row)) (drop_more places i d within)
    ∙ ap (λ x. old ++ (code_of_value x ++ code_of (picked (drop (i + 1) places) row))) (value_seen row (get_or places i d) v is)
    ∙ sym (append_assoc old (code_of_value v) (code_of (picked (drop (i + 1) places) row))) ∙ ap (λ code. code ++ code_of (picked (drop (i + 1) places) row)) (sym more)
