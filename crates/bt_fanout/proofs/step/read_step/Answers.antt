use Rattle.std.proofs.Common.{◌∙◌, ◌-◌, ap, arith}
use Rattle.bt_form.specs.Flushes.{holds}
use Rattle.bt_fanout.specs.Covers.{next_rows}
use Rattle.bt_fanout.specs.Effects.{row_effect}
use Rattle.bt_fanout.specs.inside.Portions.{Puts}
use Rattle.bt_fanout.specs.inside.Readings.{RowsRead}
use Rattle.bt_fanout.proofs.RowsRead.{count_is, counted, cover_is, left-within, messages_read, next_within, put_beside}
use Rattle.bt_fanout.proofs.step.read_step.Goals as goal

pub overflow_sub-read : goal.overflow_sub-read
overflow_sub-read c =
    let rows = holds row_effect c.args.tree.now.1 in
    let next = next_rows c.args.count c.args.cover.now rows in
    let read = counted c.args.def.now c.args.count next c.new.result c.new-2.result c.new.ensures c.new-2.ensures c.builder.inside.counter c.builder.inside.puts
    (c.builder.view_is ∙ c.in_ok-read_next.ensures) in
    omega (arith, ap (λ (r : RowsRead). r.left) c.counter.view_is, left-within c.args.count c.args.cover.now rows c.builder.inside.counter read)

pub returns : goal.returns
returns c =
    let rows = holds row_effect c.args.tree.now.1 in
    let next = next_rows c.args.count c.args.cover.now rows in
    let counter = c.builder.inside.counter in
    let puts = c.builder.inside.puts in
    let both = c.builder.view_is ∙ c.in_ok-read_next.ensures in
    let read = counted c.args.def.now c.args.count next c.new.result c.new-2.result c.new.ensures c.new-2.ensures counter puts both in
    let made = put_beside c.args.def.now c.args.count next c.new.result c.new-2.result c.new.ensures c.new-2.ensures counter puts both in
    record {
      messages =
          ap (λ (p : Puts). p.1) (c.puts.view_is ∙ made) ∙ messages_read c.args.def.now next (next_within c.args.def.now c.args.count c.args.cover.now rows c.requires);
      cover = c.in_ok-cover.ensures ∙ cover_is c.args.count c.args.cover.now rows counter read;
      read = ap (λ (r : RowsRead). c.args.count - r.left) c.counter.view_is ∙ count_is c.args.count c.args.cover.now rows counter read;
    }
