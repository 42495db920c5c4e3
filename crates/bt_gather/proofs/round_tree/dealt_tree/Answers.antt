use Rattle.std.proofs.Common.{◌≡◌, ◌∙◌, ◌≤◌, [], ap, arith, length, length-take, subst, sym, take}
use Rattle.std.specs.Vec.Iter.{into_iter_items}
use Rattle.bt_message.specs.Weights.{weigh_of}
use Rattle.bt_form.specs.Fits.{AreFit}
use Rattle.bt_form.specs.Flushes.{crown, pivot_first}
use Rattle.bt_gather.specs.Views.{pieces_of}
use Rattle.bt_gather.specs.inside.NewLeaves.{led_pieces}
use Rattle.bt_gather.proofs.PieceShares.{dealt-enough, take-pieces}
use Rattle.bt_gather.proofs.round_tree.dealt_tree.Goals as goal

pub next_pieces-own-requires-clause-room : goal.next_pieces-own-requires-clause-room
next_pieces-own-requires-clause-room g c = (c.requires.room.0, omega (arith, c.requires.room.1, c.len-count.ensures, c.args.starts.ok.0))

pub next_pieces-own-requires-clause-enough : goal.next_pieces-own-requires-clause-enough
next_pieces-own-requires-clause-enough g c =
    omega (arith, dealt-enough (weigh_of g.V.Merge.terms) c.args.shape c.args.starts.items (into_iter_items c.args.pieces.now) c.requires.fill, c.len-count.ensures, c.args.starts.ok.0)

pub leaves_of_parts-requires-clause-aligned : goal.leaves_of_parts-requires-clause-aligned
leaves_of_parts-requires-clause-aligned g c =
    let items = into_iter_items c.args.pieces.now in
    let enough = dealt-enough (weigh_of g.V.Merge.terms) c.args.shape c.args.starts.items items c.requires.fill in
    omega (arith, enough, ap length c.next_pieces-own.ensures.next, length-take c.len-count.result items, c.len-count.ensures, c.args.starts.ok.0)

pub leaves_of_parts-requires-clause-some : goal.leaves_of_parts-requires-clause-some
leaves_of_parts-requires-clause-some g c =
    let items = into_iter_items c.args.pieces.now in
    let counted : c.len-count.result ≡ length c.args.starts.items = omega (arith, c.len-count.ensures, c.args.starts.ok.0) in
    let own = ap pieces_of (c.next_pieces-own.ensures.next ∙ ap (λ n. take n items) counted) ∙ take-pieces (length c.args.starts.items) items in
    subst (λ ps. 1 ≤ length (led_pieces c.args.starts.items ps)) (sym own) c.requires.fill.some

pub crown-requires : goal.crown-requires
crown-requires g c =
    let items = into_iter_items c.args.pieces.now in
    let counted : c.len-count.result ≡ length c.args.starts.items = omega (arith, c.len-count.ensures, c.args.starts.ok.0) in
    let own = ap pieces_of (c.next_pieces-own.ensures.next ∙ ap (λ n. take n items) counted) ∙ take-pieces (length c.args.starts.items) items in
    subst (AreFit (weigh_of g.V.Merge.terms) c.args.shape) (sym (c.in_ok-leaves.ensures ∙ ap (λ ps. pivot_first [] (led_pieces c.args.starts.items ps)) own)) c.requires.fill.fit

pub returns-clause-tree : goal.returns-clause-tree
returns-clause-tree g c =
    let items = into_iter_items c.args.pieces.now in
    let counted : c.len-count.result ≡ length c.args.starts.items = omega (arith, c.len-count.ensures, c.args.starts.ok.0) in
    let own = ap pieces_of (c.next_pieces-own.ensures.next ∙ ap (λ n. take n items) counted) ∙ take-pieces (length c.args.starts.items) items in
    c.in_ok-crown.ensures.tree ∙ ap (λ xs. (c.args.shape, crown c.args.shape xs)) (c.in_ok-leaves.ensures ∙ ap (λ ps. pivot_first [] (led_pieces c.args.starts.items ps)) own)
