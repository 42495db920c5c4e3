use Rattle.std.proofs.Common.{◌∙◌, ap, arith, length, rules}
use Rattle.std.proofs.lemmas.List.{nil_from_length}
use Rattle.std.specs.Vec.Iter.{into_iter_items}
use Rattle.bt_gather.specs.Views.{pieces_of}
use Rattle.bt_gather.specs.inside.NewLeaves.{led_pieces}
use Rattle.bt_gather.proofs.LedPieces.{next-piece, no-piece, one-pivot-fewer, siblings-again}
use Rattle.bt_gather.proofs.new_leaves.leaves_of_parts.Goals as goal

pub loop-piece-preserved : goal.loop-piece-preserved
loop-piece-preserved g c =
    let i = c.loop-piece.invariant in
    let next = c.in-Some.ensures.steps.0 in
    let first = c.in-Some-next.ensures.items in record {
      made = next-piece c.loop-piece.leaves c.append.new.self _ c.in-Some-next.start _ _ c.in-Some.piece _ _ c.new.result first next c.new.ensures c.in_ok-append.ensures i.made;
      aligned = omega (arith, i.aligned, ap length first, ap length next);
    }

pub unreachable-requires : goal.unreachable-requires
unreachable-requires g c = search rules

pub from_parts-requires : goal.from_parts-requires
from_parts-requires g c =
    let it = c.loop-piece.piece-iterator.rest in
    let none = nil_from_length it.items (omega (arith, it.ok.0, c.in-None.ensures.steps.0)) in
    let are = no-piece c.loop-piece.leaves _ (into_iter_items c.loop-piece.starts) it.items none c.loop-piece.invariant.made in
    one-pivot-fewer (led_pieces c.args.starts.items (pieces_of c.args.pieces.items)) c.requires.some c.loop-piece.leaves are
    c.apart-nodes.result.0.items c.apart-nodes.ensures.nodes c.apart-nodes.result.1.items c.apart-nodes.ensures.pivots

pub returns : goal.returns
returns g c =
    let it = c.loop-piece.piece-iterator.rest in
    let none = nil_from_length it.items (omega (arith, it.ok.0, c.in-None.ensures.steps.0)) in
    let are = no-piece c.loop-piece.leaves _ (into_iter_items c.loop-piece.starts) it.items none c.loop-piece.invariant.made in
    c.from_parts.ensures
    ∙ siblings-again (led_pieces c.args.starts.items (pieces_of c.args.pieces.items)) c.requires.some c.loop-piece.leaves are
    c.apart-nodes.result.0.items c.apart-nodes.ensures.nodes c.apart-nodes.result.1.items c.apart-nodes.ensures.pivots
