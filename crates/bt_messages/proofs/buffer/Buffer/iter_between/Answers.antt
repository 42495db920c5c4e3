use Rattle.std.proofs.Common.{ap, arith, length}
use Rattle.std.specs.Option.{option_copied}
use Rattle.bt_messages.proofs.Cuts.{fewer_between}
use Rattle.bt_messages.proofs.buffer.Buffer.iter_between.Goals as goal

pub returns-clause-bound : goal.returns-clause-bound
returns-clause-bound g c =
    omega (
      arith,
      ap length c.of_sorted.ensures,
      fewer_between (option_copied c.args.from) (option_copied c.args.to) c.as_slice.result.now c.between.result.now c.between.ensures.between,
      c.as_slice.ensures.len,
      c.self.inside.messages.ok,
    )
