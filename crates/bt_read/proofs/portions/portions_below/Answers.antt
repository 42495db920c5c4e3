use Rattle.std.proofs.Common.{◌≡◌, [], arith}
use Rattle.std.proofs.lemmas.List.{nil_from_length}
use Rattle.std.specs.Vec.Iter.{into_iter_items}
use Rattle.bt_message.specs.Effects.{effect_of}
use Rattle.bt_read.proofs.lemmas.code.PortionSteps.{opened_each, opened_more}
use Rattle.bt_read.proofs.portions.portions_below.Goals as goal

pub loop-portion-preserved : goal.loop-portion-preserved
loop-portion-preserved g c =
    opened_more (effect_of g.V.Merge.terms.merged) c.args.portions.items c.loop-portion.parts.items c.append.new.self.items c.in_ok-below.below.items
    (into_iter_items c.loop-portion.portion-iterator) (into_iter_items c.next.new.self)
    c.in-Some.portion c.in-Some.ensures.steps.0 c.in_ok-append.ensures.items c.in_ok-below.ensures c.loop-portion.invariant

pub returns : goal.returns
returns g c =
    let left = c.loop-portion.portion-iterator.rest in
    let none : left.items ≡ [] = nil_from_length left.items (omega (arith, left.ok.0, c.in-None.ensures.steps.0)) in
    opened_each (effect_of g.V.Merge.terms.merged) c.args.portions.items c.loop-portion.parts.items left.items none c.loop-portion.invariant
