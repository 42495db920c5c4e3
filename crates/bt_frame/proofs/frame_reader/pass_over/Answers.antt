use Rattle.std.proofs.Common.{arith, rules, take, ◌++◌, ℕ, length, length-append, length-take}
use Rattle.bt_script.specs.Streams.{Counts}
use Rattle.bt_script.proofs.offered.Streams.{Gave-trans}
use Rattle.bt_frame.proofs.frame_reader.pass_over.Goals as goal

pub pieces-preserved : goal.pieces-preserved
pieces-preserved g c =
    let so_far = c.pieces.invariant.so_far in
    let last = take c.in-Ok.given c.read.new.buf in
    let read = c.in-Ok.ensures in
    let given = read.bound in
    let counted : Counts c.pieces.reader c.read.new.self (length last) = omega (arith, given, read.count) in
    let asked = c.min-asked.ensures in
    record {
      so_far = (
        so_far.0 ++ last,
        Gave-trans g.R.Read.remaining c.args.reader.now c.pieces.reader c.read.new.self so_far.0 last so_far.1 (read.bytes.0, counted),
        grind (arith, length-append {A = ℕ}, length-take {A = ℕ}, so_far.2, read, asked),
      );
      healthy = search rules;
      piece = search (arith, rules);
    }
