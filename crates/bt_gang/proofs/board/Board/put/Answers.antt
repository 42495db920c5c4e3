use Rattle.std.proofs.Common.{ap, refl, ◌∙◌, arith}
use Rattle.bt_gang.specs.Board.{after_put}
use Rattle.bt_gang.proofs.Accounts.{accounts}
use Rattle.bt_gang.proofs.Takers.{kept_put, put_reached}
use Rattle.bt_gang.proofs.board.Board.put.Goals as goal

pub invariant_of-self : goal.invariant_of-self
invariant_of-self c =
    let i = c.self.invariant in
    let less = ap (λ b. b.state.put) c.self.view_is in
    let room = ap (λ b. b.jobs) c.self.view_is in (
      put_reached _ _ _ _ _ _ i.0 i.2 refl,
      (let r = c.requires in omega arith),
      (let k = i.2 in omega arith),
      i.3,
      i.4,
    )

pub returns-clause-put : goal.returns-clause-put
returns-clause-put c = kept_put _ _ _ _ _ c.self.invariant.2 refl ∙ ap (λ b. after_put b.state) c.self.view_is

pub returns-clause-accounted : goal.returns-clause-accounted
returns-clause-accounted c = accounts _ _ (put_reached _ _ _ _ _ _ c.self.invariant.0 c.self.invariant.2 refl)
