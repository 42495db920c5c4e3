use Rattle.std.proofs.Common.{◌≡◌, ◌++◌, ◌∷◌, [], ◌∙◌, ap, append-nil, append_assoc, arith, length, sym}
use Rattle.std.proofs.lemmas.List.{nil_from_length}
use Rattle.bt_form.proofs.children.append_items.Goals as goal

pub loop-item-init : goal.loop-item-init
loop-item-init g c =
    let all = c.into_iter-item-iterator.ensures.into_iter_gives.0 in
    record { pushed = ap (λ xs. c.args.into.now.items ++ xs) all; room = omega (arith, c.requires, ap length all) }

pub push_reserved-requires : goal.push_reserved-requires
push_reserved-requires g c = omega (arith, c.loop-item.invariant.room, ap length c.in-Some.ensures.steps.0)

pub loop-item-preserved : goal.loop-item-preserved
loop-item-preserved g c =
    let into = c.loop-item.into.items in
    let rest = c.next.new.self.rest.items in
    let next = c.in-Some.ensures.steps.0 in
    record {
      pushed = ap (λ xs. xs ++ rest) c.push_reserved.ensures.items ∙ append_assoc into (c.in-Some.item ∷ []) rest ∙ ap (λ xs. into ++ xs) (sym next) ∙ c.loop-item.invariant.pushed;
      room = omega (arith, c.push_reserved.ensures.len, c.push_reserved.ensures.capacity, c.loop-item.invariant.room, ap length next);
    }

pub returns : goal.returns
returns g c =
    let it = c.loop-item.item-iterator.rest in
    let none : it.items ≡ [] = nil_from_length it.items (omega (arith, it.ok.0, c.in-None.ensures.steps.0)) in
    sym (append-nil c.loop-item.into.items) ∙ ap (λ xs. c.loop-item.into.items ++ xs) (sym none) ∙ c.loop-item.invariant.pushed
