-- Borrowed values, of which one is replaced.
use Rattle.std.proofs.Common.{ℕ, ◌<◌, List, sym, subst, get_or, length, map, set}
use Rattle.std.proofs.lemmas.List.{get_or-map, length-map, map-set}
use Rattle.std.proofs.lemmas.List.Elements.{All-set}
use Rattle.std.specs.List.{All}
use Rattle.bt_value.specs.Values.{BytesFit}
use Rattle.bt_value.specs.Views.{value_of_ref}
use Rattle.bt_value.specs.declared.value.ValueRef.{ValueRef}

-- the bytes of each still fit its kind
pub have_text : (lent : List ValueRef) (place : ℕ) (v : ValueRef) → BytesFit (value_of_ref v) → All BytesFit (map value_of_ref lent) → All BytesFit (map value_of_ref (set lent place v))
have_text lent place v text each = subst (All BytesFit) (sym (map-set value_of_ref lent place v)) (All-set BytesFit (map value_of_ref lent) place (value_of_ref v) text each)

-- the bytes of a borrowed value fit its kind
pub has_text : (lent : List ValueRef) (place : ℕ) (d : ValueRef) → place < length lent → All BytesFit (map value_of_ref lent) → BytesFit (value_of_ref (get_or lent place d))
has_text lent place d within each = subst BytesFit (get_or-map value_of_ref lent place d (value_of_ref d) within) (each place (value_of_ref d) (rw length-map within))
