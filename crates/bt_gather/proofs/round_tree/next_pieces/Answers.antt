use Rattle.std.proofs.Common.{◌∙◌, ap, rules, sym, ◌++◌, ◌∷◌, []}
use Rattle.std.specs.Vec.Iter.{into_iter_items}
use Rattle.bt_gather.proofs.PieceShares.{one_more}
use Rattle.bt_gather.proofs.round_tree.next_pieces.Goals as goal

pub loop-preserved : goal.loop-preserved
loop-preserved g c =
    let i = c.loop.invariant in
    let more = one_more c.loop.counter (into_iter_items c.args.pieces.now) c.in-Some.piece (into_iter_items c.next.new.self) (sym i.left ∙ c.in-Some.ensures.items) in record {
      next = c.push_reserved.ensures.items ∙ ap (λ xs. xs ++ c.in-Some.piece ∷ []) i.next ∙ sym more.0;
      left = sym more.1;
      count = search rules;
      room = search rules;
      enough = i.enough;
    }
