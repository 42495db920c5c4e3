use Rattle.std.proofs.Common.{arith, map}
use Rattle.std.specs.Prelude.{string_bytes}
use Rattle.std.specs.Option.{option_copied}
use Rattle.bt_fanout.proofs.Naming.{parts_suit}
use Rattle.bt_fanout.proofs.definition.IndexDef.new.Goals as goal

pub returns-clause-suits : goal.returns-clause-suits
returns-clause-suits c =
    let keys = c.keys.ensures.value in
    let within = c.keys.ensures.within in
    parts_suit c.columns.result.now c.args.schema.now.columns (map string_bytes c.as_slice.result.now) (map string_bytes c.as_slice-2.result.now)
    (option_copied c.args.filter) _ _ c.keys.result c.columns.ensures (omega (arith, keys, within)) c.in_ok-condition.ensures.answer
