-- Codes of values of the same kinds: their order, and that none is a proper prefix of another. Used for the order of a table's rows.
use Rattle.std.proofs.Common.{◌≡◌, List, [], ◌∷◌, ◌++◌, refl, ap, ◌∙◌}
use Rattle.std.specs.Ordering.{ordering_then}
use Rattle.bt_value.specs.Values.{AreInRange, value_cmp, values_cmp}
use Rattle.bt_value.specs.declared.value.Value.{Value}
use Rattle.bt_keycode.specs.Codes.{HaveSameKinds, IsNoProperPrefix, code_of, kind_of}
use Rattle.bt_keycode.specs.Keys.{key_cmp}
use Rattle.bt_keycode.proofs.Codes.{codes_compare, no_prefix, value_ordered}
use Rattle.bt_keycode.proofs.Decoding.{same_values}

-- the order of codes is the order of values
pub codes_ordered : (vs ws : List Value) → HaveSameKinds vs ws → AreInRange vs → AreInRange ws → key_cmp (code_of vs) (code_of ws) ≡ values_cmp vs ws
codes_ordered [] [] kinds f g = refl
codes_ordered [] (w ∷ ws) kinds f g = cc
codes_ordered (v ∷ vs) [] kinds f g = cc
codes_ordered (v ∷ vs) (w ∷ ws) kinds f g =
    let first : kind_of v ≡ kind_of w = cc in
    let others : HaveSameKinds vs ws = cc in
    codes_compare v w first (code_of vs) (code_of ws)
    ∙ ap (λ o. ordering_then o (key_cmp (code_of vs) (code_of ws))) (value_ordered v w first f.0 g.0)
    ∙ ap (ordering_then (value_cmp v w)) (codes_ordered vs ws others f.1 g.1)

-- no code is a proper prefix of another
pub no_proper_prefix : (vs ws : List Value) → HaveSameKinds vs ws → IsNoProperPrefix (code_of vs) (code_of ws)
no_proper_prefix vs ws kinds = no_prefix vs ws kinds

-- a code is that of only one list of values
pub same_code : (vs ws : List Value) → HaveSameKinds vs ws → AreInRange vs → AreInRange ws → code_of vs ≡ code_of ws → vs ≡ ws
same_code vs ws kinds f g e = (same_values vs ws [] [] f g kinds (ap (λ code. code ++ []) e)).0
