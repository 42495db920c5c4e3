use Rattle.std.proofs.Common.{◌≡◌, subst}
use Rattle.std.specs.Result.{IfOk}
use Rattle.std.specs.Vec.Iter.{into_iter_items}
use Rattle.bt_message.specs.Weights.{weigh_of}
use Rattle.bt_gather.proofs.PieceShares.{dealt-fill, dealt-tree, own-enough, own-fill, own-room, own-tree}
use Rattle.bt_gather.proofs.round_tree.whole_tree.Goals as goal

pub next_pieces-own-requires-clause-room : goal.next_pieces-own-requires-clause-room
next_pieces-own-requires-clause-room g c =
    own-room (weigh_of g.V.Merge.terms) c.args.tree c.in-Cut.holed c.in-Cut.jobs c.in-Cut.room c.in-Cut.is (into_iter_items c.args.pieces.now) c.requires

pub next_pieces-own-requires-clause-enough : goal.next_pieces-own-requires-clause-enough
next_pieces-own-requires-clause-enough g c =
    own-enough (weigh_of g.V.Merge.terms) c.args.tree c.in-Cut.holed c.in-Cut.jobs c.in-Cut.room c.in-Cut.is (into_iter_items c.args.pieces.now) c.requires

pub filled_tree-requires-clause-fillable : goal.filled_tree-requires-clause-fillable
filled_tree-requires-clause-fillable g c =
    (own-fill (weigh_of g.V.Merge.terms) c.args.tree c.in-Cut.holed c.in-Cut.jobs c.in-Cut.room c.in-Cut.is (into_iter_items c.args.pieces.now) c.requires
    c.next_pieces-own.result.items c.next_pieces-own.ensures.next).fillable

pub filled_tree-requires-clause-fit : goal.filled_tree-requires-clause-fit
filled_tree-requires-clause-fit g c =
    (own-fill (weigh_of g.V.Merge.terms) c.args.tree c.in-Cut.holed c.in-Cut.jobs c.in-Cut.room c.in-Cut.is (into_iter_items c.args.pieces.now) c.requires
    c.next_pieces-own.result.items c.next_pieces-own.ensures.next).fit

pub returns-in-Cut-clause-tree : goal.returns-in-Cut-clause-tree
returns-in-Cut-clause-tree g c =
    subst (λ t. IfOk c.filled_tree.result (λ tree. tree ≡ t))
    (own-tree (weigh_of g.V.Merge.terms) c.args.tree c.in-Cut.holed c.in-Cut.jobs c.in-Cut.room c.in-Cut.is (into_iter_items c.args.pieces.now) c.requires
    c.next_pieces-own.result.items c.next_pieces-own.ensures.next)
    c.filled_tree.ensures

pub dealt_tree-requires-clause-room : goal.dealt_tree-requires-clause-room
dealt_tree-requires-clause-room g c =
    (dealt-fill (weigh_of g.V.Merge.terms) c.args.tree c.in-Dealt.shape c.in-Dealt.starts c.in-Dealt.room c.in-Dealt.is (into_iter_items c.args.pieces.now) c.requires).0

pub dealt_tree-requires-clause-fill : goal.dealt_tree-requires-clause-fill
dealt_tree-requires-clause-fill g c =
    (dealt-fill (weigh_of g.V.Merge.terms) c.args.tree c.in-Dealt.shape c.in-Dealt.starts c.in-Dealt.room c.in-Dealt.is (into_iter_items c.args.pieces.now) c.requires).1

pub returns-in-Dealt-clause-tree : goal.returns-in-Dealt-clause-tree
returns-in-Dealt-clause-tree g c =
    subst (λ t. IfOk c.dealt_tree.result (λ tree. tree ≡ t))
    (dealt-tree (weigh_of g.V.Merge.terms) c.args.tree c.in-Dealt.shape c.in-Dealt.starts c.in-Dealt.room c.in-Dealt.is (into_iter_items c.args.pieces.now))
    c.dealt_tree.ensures.tree
