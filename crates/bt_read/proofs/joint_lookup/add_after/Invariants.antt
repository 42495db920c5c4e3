use Rattle.std.proofs.Common.{◌≡◌, ◌++◌, [], get_or, map}
use Rattle.bt_message.specs.Effects.{effect_of}
use Rattle.bt_read.specs.inside.ValuesSoFar.{option_of}
use Rattle.bt_read.specs.inside.Together.{values_after}
use Rattle.bt_read.proofs.joint_lookup.add_after.Given as goal

-- the values so far, and those of the keys that are left
abbrev pub invariant-loop-old : goal.invariant-loop-old
invariant-loop-old g l =
    let effect = effect_of g.V.Merge.terms.merged in
    let bin = get_or l.bins l.place [] in
    map option_of l.fn.values.items ++ values_after effect bin (map (λ k. k.now) l.keys) (map option_of l.fn.below.items)
    ≡ map option_of l.values.items ++ values_after effect bin (map (λ k. k.now) l.rest) (map option_of l.old-iterator.rest.items)
