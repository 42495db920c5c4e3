use Rattle.std.proofs.Common.{◌∙◌, ap, rules, take}
use Rattle.std.proofs.Math.Seq.{take-length}
use Rattle.bt_message.specs.Meanings.{meaning_of}
use Rattle.bt_form.specs.Fits.{IsRoomy}
use Rattle.bt_form.specs.Flushes.{flush_in}
use Rattle.bt_node.proofs.lemmas.crowns.ShapedTrees.{has_room}
use Rattle.bt_flush.proofs.offered.Laws.{come_by_one_rule, fit_there, hold_rows_after, keep_height}
use Rattle.bt_node.proofs.tree.flush_packet.Goals as goal

pub returns : goal.returns
returns g c =
    let meaning = meaning_of g.V.Merge.terms in
    let roomy : IsRoomy c.args.shape = search (has_room, rules) in
    let all = ap (λ n. take n c.into_stream-stream.result) c.len-count.ensures.len ∙ take-length c.into_stream-stream.result ∙ c.into_stream-stream.ensures in
    let is = c.in_ok-nodes.ensures.siblings ∙ ap (flush_in meaning c.args.mode c.args.shape c.args.node) all in
    record {
      siblings = is;
      fits = fit_there meaning c.args.mode c.args.shape roomy c.args.node c.args.packet _ is;
      height = keep_height meaning c.args.mode c.args.shape roomy c.args.node c.args.packet _ is;
      rows = hold_rows_after meaning c.args.mode c.args.shape roomy c.args.node c.args.packet _ is;
      one_rule = come_by_one_rule meaning c.args.mode c.args.shape c.args.node c.args.packet _ is;
    }
