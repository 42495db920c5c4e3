use Rattle.std.proofs.Common.{◌≡◌, ◌<◌, None, Some, length, get_or, ap, refl, sym, ◌∙◌, arith}
use Rattle.std.proofs.lemmas.List.{get_or_read_under}
use Rattle.bt_gang.proofs.Accounts.{accounts}
use Rattle.bt_gang.proofs.Takers.{hand_reached, hand_room}
use Rattle.bt_gang.proofs.board.Board.hand.Goals as goal

pub push_reserved-requires : goal.push_reserved-requires
push_reserved-requires c =
    let i = c.self.invariant in
    let here : c.args.worker < length c.self.inside.held.items = omega (arith, ap (λ b. length b.state.held) c.self.view_is, c.requires.worker) in
    let holds : get_or c.self.inside.held.items c.args.worker None ≡ Some c.in-Some.job =
    sym (get_or_read_under c.self.inside.held.items c.args.worker (length c.self.inside.held.items) c.index.result.now None c.index.ensures here refl)
    ∙ c.in-Some.is in
    let room = hand_room c.self.inside.put c.args.worker c.in-Some.job c.self.inside.takers.items c.self.inside.handed.items c.self.inside.held.items i.0 here holds in
    omega (arith, room, i.1, i.4, c.self.inside.handed.ok.0)

pub invariant_of-self : goal.invariant_of-self
invariant_of-self c =
    let i = c.self.invariant in
    let here : c.args.worker < length c.self.inside.held.items = omega (arith, ap (λ b. length b.state.held) c.self.view_is, c.requires.worker) in
    let holds : get_or c.self.inside.held.items c.args.worker None ≡ Some c.in-Some.job =
    sym (get_or_read_under c.self.inside.held.items c.args.worker (length c.self.inside.held.items) c.index.result.now None c.index.ensures here refl)
    ∙ c.in-Some.is in (
      hand_reached c.self.inside.put c.args.worker c.in-Some.job c.self.inside.takers.items c.self.inside.handed.items _ c.self.inside.held.items _ i.0 here holds refl c.push_reserved.ensures.items,
      i.1,
      i.2,
      i.3,
      (let k = c.push_reserved.ensures.capacity in let l = i.4 in omega arith),
    )

pub returns-clause-accounted : goal.returns-clause-accounted
returns-clause-accounted c = accounts _ _ (invariant_of-self c).0
