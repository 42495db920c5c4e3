use Rattle.std.proofs.Common.{◌≡◌, ◌++◌, List, take}
use Rattle.bt_value.specs.declared.value.Value.{Value}
use Rattle.bt_keycode.specs.inside.CodeBeginnings.{BeginsWithAll}
use Rattle.bt_keycode.proofs.decoder.decode_onto.Given as goal

-- the values that were added are those of the kinds so far, and the remaining bytes come after them
abbrev pub invariant-loop-kind : goal.invariant-loop-kind
invariant-loop-kind l = (values : List Value) × ((l.row ≡ l.fn.row ++ values) × BeginsWithAll (take l.kind-index l.kinds) l.bytes values l.code)
