use Rattle.std.proofs.Common.{List, take}
use Rattle.bt_value.specs.declared.value.Value.{Value}
use Rattle.bt_keycode.specs.inside.CodeBeginnings.{BeginsWithAll}
use Rattle.bt_keycode.proofs.decoder.is_code.Given as goal

-- the kinds so far have values, and the remaining bytes come after them
abbrev pub invariant-loop-kind : goal.invariant-loop-kind
invariant-loop-kind l = (values : List Value) × BeginsWithAll (take l.kind-index l.kinds) l.bytes values l.code
