use Rattle.std.proofs.Common.{◌≡◌, ◌<◌, Some, ap, arith, length, length-set, refl, take}
use Rattle.std.proofs.lemmas.List.{length-drop}
use Rattle.bt_message.specs.Weights.{weigh_of, weight}
use Rattle.bt_messages.specs.declared.share.Share.{Share}
use Rattle.bt_messages.proofs.Weighing.{weighed-all, weighed-done, weighed-enough, weighed-rest, weighed-within}
use Rattle.bt_messages.proofs.stream_messages.StreamMessages.weighed_shares.Goals as goal

pub loop-place-init : goal.loop-place-init
loop-place-init g c = record { done = refl; rest = refl; len = refl; enough = c.requires.enough; bound = c.requires.bound }

pub weigh_next-sum-requires-clause-bound : goal.weigh_next-sum-requires-clause-bound
weigh_next-sum-requires-clause-bound g c = c.loop-place.invariant.bound

pub weigh_next-sum-requires-clause-count : goal.weigh_next-sum-requires-clause-count
weigh_next-sum-requires-clause-count g c =
    let items = c.loop-place.shares.items in
    let within : c.loop-place.place < length items = omega (arith, c.loop-place-test.true, c.len-place-end.ensures, c.args.shares.ok.0, c.loop-place.invariant.len) in
    weighed-within (weigh_of g.V.Merge.terms) c.args.shares.items items c.loop-place.place c.index.result.now c.loop-place.left within c.index.ensures
    c.loop-place.invariant.rest c.loop-place.invariant.enough

pub loop-place-preserved : goal.loop-place-preserved
loop-place-preserved g c =
    let w = weigh_of g.V.Merge.terms in
    let ss = c.args.shares.items in
    let items = c.loop-place.shares.items in
    let i = c.loop-place.place in
    let s = c.index.result.now in
    let t : Share = record { count = s.count; weight = Some c.weigh_next-sum.result } in
    let left = c.loop-place.left in
    let left' = c.weigh_next-sum.new.self in
    let within : i < length items = omega (arith, c.loop-place-test.true, c.len-place-end.ensures, c.args.shares.ok.0, c.loop-place.invariant.len) in
    let here = c.index.ensures in
    let same = c.loop-place.invariant.rest in
    let enough = c.loop-place.invariant.enough in
    let fresh : t ≡ record { count = s.count; weight = Some (weight w (take s.count left)) } = ap (λ n. record { count = s.count; weight = Some n }) c.weigh_next-sum.ensures.weight in
    let later = c.weigh_next-sum.ensures.left in
    record {
      done = weighed-done w ss items i s left within here same enough t left' fresh later _ c.loop-place.invariant.done;
      rest = weighed-rest w ss items i s left within here same enough t left' fresh later;
      len = omega (arith, length-set items i t, c.loop-place.invariant.len);
      enough = weighed-enough w ss items i s left within here same enough t left' fresh later;
      bound = omega (arith, c.loop-place.invariant.bound, ap length later, length-drop s.count left);
    }

pub returns : goal.returns
returns g c =
    weighed-all (weigh_of g.V.Merge.terms) c.args.shares.items c.loop-place.shares.items c.loop-place.place c.loop-place.left _ c.loop-place.invariant.len
    (omega (arith, c.loop-place-test.false, c.len-place-end.ensures, c.args.shares.ok.0, c.loop-place.invariant.len)) c.loop-place.invariant.done
