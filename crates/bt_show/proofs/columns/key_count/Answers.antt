use Rattle.std.proofs.Common.{ap, arith, length}
use Rattle.bt_show.proofs.IndexColumns.{columns_long, keys_long}
use Rattle.bt_show.proofs.columns.key_count.Goals as goal

pub returns : goal.returns
returns c =
    let schema = c.args.schema.now in
    let def = c.args.def.now in
    let few = c.key_columns.ensures.within in
    let on = ap length c.on.ensures in
    let keys = ap length c.key_columns.ensures.value in
    record {
      count = omega (arith, on, keys, keys_long schema few);
      within = omega (arith, on, keys, keys_long schema few, columns_long schema def few);
    }
