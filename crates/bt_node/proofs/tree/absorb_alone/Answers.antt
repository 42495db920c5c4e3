use Rattle.std.proofs.Common.{rules}
use Rattle.bt_message.specs.Meanings.{meaning_of}
use Rattle.bt_message.specs.Weights.{weigh_of}
use Rattle.bt_form.specs.Fits.{IsRoomy}
use Rattle.bt_node.proofs.lemmas.crowns.ShapedTrees.{has_room}
use Rattle.bt_flush.proofs.offered.Laws.{chosen_are_planned, flushes_in_turn, stay_without_packet}
use Rattle.bt_node.proofs.tree.absorb_alone.Goals as goal

pub returns : goal.returns
returns g c =
    let roomy : IsRoomy c.args.shape = search (has_room, rules) in
    let made = c.in_ok-nodes.ensures in
    record {
      siblings = made.siblings;
      fits = made.fits;
      height = made.height;
      rows = made.rows;
      unchanged = stay_without_packet (meaning_of g.V.Merge.terms) c.args.shape roomy c.args.node c.args.packet _ made.siblings;
      one_rule = made.one_rule;
      in_turn = flushes_in_turn (weigh_of g.V.Merge.terms);
      planned = chosen_are_planned (weigh_of g.V.Merge.terms);
    }

pub returns-in_err-nodes-clause-in_turn : goal.returns-in_err-nodes-clause-in_turn
returns-in_err-nodes-clause-in_turn g c = flushes_in_turn (weigh_of g.V.Merge.terms)

pub returns-in_err-nodes-clause-planned : goal.returns-in_err-nodes-clause-planned
returns-in_err-nodes-clause-planned g c = chosen_are_planned (weigh_of g.V.Merge.terms)
