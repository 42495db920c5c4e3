-- The bytes of the first values of a row, and copies of bytes.
use Rattle.std.proofs.Common.{◌≡◌, ◌∙◌, ℕ, ◌==◌, ◌++◌, Bool, true, false, List, [], append-nil, take, refl, sym, ap, true≢false}
use Rattle.std.specs.Cmp.Lexicographic.{bytes_decides, pointwise, same_text}
use Rattle.bt_value.specs.Values.{same_values}
use Rattle.bt_row.specs.inside.Packing.{IsAt, IsPacked, packed_values, unpacked}
use Rattle.bt_row.proofs.Walks.{are_first}
use Rattle.bt_value.proofs.offered.SameValues.{same_values-complete, same_values-sound}

-- the bytes of the first values are those of a row exactly if the values are
pub same_front : (bytes first : List ℕ) (count at : ℕ) → IsPacked bytes → IsPacked first → IsAt bytes count at
    → pointwise ◌==◌ (take at bytes) first ≡ same_values (unpacked first) (take count (unpacked bytes))
same_front bytes first count at h f here = by_bytes (pointwise ◌==◌ (take at bytes) first) refl
  where
    by_bytes : (same : Bool) → pointwise ◌==◌ (take at bytes) first ≡ same → same ≡ same_values (unpacked first) (take count (unpacked bytes))
    by_bytes true e = sym (same_values-complete _ _ (sym (ap unpacked (same_text (take at bytes) first (sym e))) ∙ are_first bytes count at h here))
    by_bytes false e = by_values (same_values (unpacked first) (take count (unpacked bytes))) refl
      where
        by_values : (same : Bool) → same_values (unpacked first) (take count (unpacked bytes)) ≡ same → false ≡ same
        by_values false g = refl
        by_values true g =
            let bytes_same : take at bytes ≡ first = sym here.front ∙ ap packed_values (sym (same_values-sound _ _ g)) ∙ f.same in
            absurd (true≢false (sym ((bytes_decides (take at bytes) first).1 bytes_same) ∙ e))

-- bytes that were added to no bytes
pub copied : (none bytes old new : List ℕ) → new ≡ none ++ (bytes ++ []) → none ≡ [] → bytes ≡ old → new ≡ old
copied none bytes old new is no_byte same = is ∙ ap (λ (z : List ℕ). z ++ (bytes ++ [])) no_byte ∙ append-nil bytes ∙ same
