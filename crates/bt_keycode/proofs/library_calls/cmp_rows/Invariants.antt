use Rattle.std.proofs.Common.{◌≡◌, length}
use Rattle.bt_value.specs.Values.{values_cmp}
use Rattle.bt_keycode.specs.Codes.{HaveSameKinds, code_of}
use Rattle.bt_keycode.specs.Keys.{key_cmp}
use Rattle.bt_keycode.proofs.library_calls.cmp_rows.Given as goal

abbrev pub invariant-loop-lefts : goal.invariant-loop-lefts
invariant-loop-lefts l = record {
  kinds : HaveSameKinds l.lefts l.rights;
  values : values_cmp l.lefts l.rights ≡ values_cmp l.left l.right;
  codes : key_cmp (code_of l.lefts) (code_of l.rights) ≡ key_cmp (code_of l.left) (code_of l.right);
}

abbrev pub decreases-loop-lefts : goal.decreases-loop-lefts
decreases-loop-lefts l = length l.lefts
