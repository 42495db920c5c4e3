use Rattle.std.proofs.Common.{◌≡◌, ◌++◌}
use Rattle.std.specs.List.{All, flat_map}
use Rattle.std.specs.Vec.Iter.{into_iter_items}
use Rattle.bt_fanout.specs.inside.EffectJobs.{IsWhole, effects_there}
use Rattle.bt_fanout.proofs.joint_packets.effects_of_group.Given as goal

-- the effects so far, and the jobs that are left
abbrev pub invariant-loop-job : goal.invariant-loop-job
invariant-loop-job l =
    let left = into_iter_items l.job-iterator in
    record {
      whole : All IsWhole left;
      effects : l.all.items ++ flat_map (effects_there l.packet) left ≡ flat_map (effects_there l.packet) l.fn.group.jobs.items;
    }
