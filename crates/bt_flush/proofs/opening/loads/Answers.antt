use Rattle.std.proofs.Common.{arith}
use Rattle.bt_flush.proofs.lemmas.code.LoadLoop.{all_made, one_more_load, one_small}
use Rattle.bt_flush.proofs.opening.loads.Goals as goal

pub overflow_add-load : goal.overflow_add-load
overflow_add-load g c =
    omega (
      arith,
      c.load.ensures.bound,
      one_small g.V.Merge.terms c.args.measure c.args.shares.now c.args.stream.now c.args.bins.now c.requires.weighed c.loop-child.child
          c.load-in-loop-child.result _ c.loop-child-test.true c.load-in-loop-child.ensures (omega (arith, c.len-bound.ensures.len, c.len-bound.ensures.bound)),
    )

pub loop-child-preserved : goal.loop-child-preserved
loop-child-preserved g c = record {
  made = one_more_load g.V.Merge.terms c.args.measure c.args.shares.now c.args.stream.now c.args.bins.now c.requires.weighed c.loop-child.child c.load.result c.load-in-loop-child.result _
      c.loop-child.loads.items c.push_reserved.new.self.items c.requires.len c.loop-child-test.true c.load.ensures.load c.load-in-loop-child.ensures
      c.loop-child.invariant.made c.push_reserved.ensures.items;
  len = omega (arith, c.push_reserved.ensures.len, c.loop-child.invariant.len);
  room = omega (arith, c.push_reserved.ensures.capacity, c.loop-child.invariant.room);
}

pub returns : goal.returns
returns g c =
    all_made g.V.Merge.terms c.args.measure c.args.shares.now c.args.stream.now c.args.bins.now c.requires.weighed c.loop-child.child c.loop-child.loads.items
    c.requires.len c.loop-child-test.false c.loop-child.invariant.made
