use Rattle.std.proofs.Common.{◌∙◌, ap, subst, sym}
use Rattle.bt_message.specs.Messages.{sorted_batch}
use Rattle.bt_form.specs.Flushes.{holds}
use Rattle.bt_fanout.specs.Covers.{next_rows}
use Rattle.bt_fanout.specs.Effects.{row_effect}
use Rattle.bt_fanout.specs.Promises.{BuildsFrom}
use Rattle.bt_fanout.proofs.BuildPackets.{builds_from}
use Rattle.bt_fanout.proofs.step.build_step.Goals as goal

pub returns : goal.returns
returns g c =
    let read = next_rows c.args.count c.args.cover.now (holds row_effect c.args.tree.now.1) in
    let is = c.in_ok-packet.ensures ∙ ap sorted_batch c.in_ok-messages.ensures.messages in
    record { packet = is; builds = subst (BuildsFrom c.args.def.now read) (sym is) (builds_from c.args.def.now read); cover = c.in_ok-messages.ensures.cover; read = c.in_ok-messages.ensures.read }
