use Rattle.std.proofs.Common.{◌≡◌, ◌<◌, [], ◌∷◌, None, Some, length, length-append, set, get_or, drop, ap, refl, sym, ◌∙◌, arith, subst}
use Rattle.std.proofs.lemmas.List.{drop_all}
use Rattle.bt_gang.specs.Numbers.{below}
use Rattle.bt_gang.specs.Board.{after_take, held_job, IsAccounted}
use Rattle.bt_gang.proofs.Numbers.{length-below}
use Rattle.bt_gang.proofs.Accounts.{accounts}
use Rattle.bt_gang.proofs.Takers.{front_waits, kept_take, take_reached}
use Rattle.bt_gang.proofs.board.Board.take.Goals as goal

pub returns-then-front-self-clause-nothing : goal.returns-then-front-self-clause-nothing
returns-then-front-self-clause-nothing c = (
  sym (ap (λ b. b.state.waiting) c.self.view_is)
      ∙ drop_all (length c.self.inside.takers.items) (below c.self.inside.put) (omega (arith, length-below c.self.inside.put, c.if-front-self.true, c.len-front.ensures, c.self.inside.takers.ok.0)),
  refl,
)

pub returns-then-front-self-clause-accounted : goal.returns-then-front-self-clause-accounted
returns-then-front-self-clause-accounted c = subst IsAccounted (ap (λ b. b.state) c.self.view_is) (accounts _ _ c.self.invariant.0)

pub invariant_of-self : goal.invariant_of-self
invariant_of-self c =
    let i = c.self.invariant in
    let items = c.push_reserved.ensures.items in
    let none : get_or c.self.inside.held.items c.args.worker None ≡ None = ap (λ b. held_job c.args.worker b.state) c.self.view_is ∙ c.requires.free in
    let here : c.args.worker < length c.self.inside.held.items = omega (arith, ap (λ b. length b.state.held) c.self.view_is, c.requires.worker) in
    let front : c.len-front.result ≡ length c.self.inside.takers.items = omega (arith, c.len-front.ensures, c.self.inside.takers.ok.0) in
    let free : length c.self.inside.takers.items < c.self.inside.put = omega (arith, front, c.if-front-self.false, i.2) in (
      take_reached c.self.inside.put c.args.worker c.self.inside.takers.items c.push_reserved.new.self.items c.self.inside.handed.items
          c.self.inside.held.items _ i.0 here none free items (ap (λ k. set c.self.inside.held.items c.args.worker (Some k)) front),
      i.1,
      omega (arith, free, ap length items, length-append c.self.inside.takers.items (c.args.worker ∷ [])),
      (let k = c.push_reserved.ensures.capacity in let l = i.3 in omega arith),
      i.4,
    )

pub returns-clause-front : goal.returns-clause-front
returns-clause-front c =
    let i = c.self.invariant in
    let items = c.push_reserved.ensures.items in
    let front : c.len-front.result ≡ length c.self.inside.takers.items = omega (arith, c.len-front.ensures, c.self.inside.takers.ok.0) in
    let free : length c.self.inside.takers.items < c.self.inside.put = omega (arith, front, c.if-front-self.false, i.2) in
    sym (ap (λ b. b.state.waiting) c.self.view_is)
    ∙ (front_waits c.self.inside.put c.self.inside.takers.items c.push_reserved.new.self.items free (omega (arith, ap length items, length-append c.self.inside.takers.items (c.args.worker ∷ [])))
    ∙ ap (λ k. k ∷ drop (length c.push_reserved.new.self.items) (below c.self.inside.put)) (sym front))

pub returns-clause-taken : goal.returns-clause-taken
returns-clause-taken c =
    let items = c.push_reserved.ensures.items in
    let here : c.args.worker < length c.self.inside.held.items = omega (arith, ap (λ b. length b.state.held) c.self.view_is, c.requires.worker) in
    let front : c.len-front.result ≡ length c.self.inside.takers.items = omega (arith, c.len-front.ensures, c.self.inside.takers.ok.0) in
    kept_take c.self.inside.put c.args.worker c.self.inside.takers.items c.push_reserved.new.self.items c.self.inside.handed.items c.self.inside.held.items _
    here items (ap (λ k. set c.self.inside.held.items c.args.worker (Some k)) front)
    ∙ (λ k. after_take c.args.worker (sym front k) (drop (length c.push_reserved.new.self.items) (below c.self.inside.put)) (c.self.view_is k).state)

pub returns-clause-accounted : goal.returns-clause-accounted
returns-clause-accounted c = accounts _ _ (invariant_of-self c).0
