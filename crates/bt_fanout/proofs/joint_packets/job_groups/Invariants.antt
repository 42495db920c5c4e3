use Rattle.std.proofs.Common.{◌≡◌, ◌+◌, ◌≤◌, ◌++◌, List, Option, drop, length, map}
use Rattle.std.specs.FinMap.{find}
use Rattle.std.specs.List.{All, flat_map}
use Rattle.bt_value.specs.declared.value.Value.{Value}
use Rattle.bt_keycode.specs.Keys.{Key, key_cmp}
use Rattle.bt_message.specs.Messages.{Messages}
use Rattle.bt_form.specs.Flushes.{holds}
use Rattle.bt_form.specs.Parts.{AreRising}
use Rattle.bt_fanout.specs.Effects.{RowMessage, row_effect}
use Rattle.bt_fanout.specs.inside.EffectJobs.{IsWhole, message_total}
use Rattle.bt_fanout.specs.inside.PacketGroups.{effects_in_group}
use Rattle.bt_fanout.proofs.EffectJobs.{effects_by}
use Rattle.bt_fanout.proofs.joint_packets.job_groups.Given as goal

-- the effects of the groups so far come before those of the keys that are left
abbrev pub invariant-loop : goal.invariant-loop
invariant-loop l =
    let value : Key → Option (List Value) = λ q. find key_cmp q (holds row_effect l.tree.1) in
    record {
      within : l.start ≤ length l.keys;
      few : l.skipped + message_total (drop l.start l.others) ≡ message_total l.others;
      rising : AreRising (map (λ k. k.now) (drop l.start l.keys));
      whole : All (λ group. All IsWhole group.jobs.items) l.groups.items;
      effects : (messages : Messages RowMessage) → flat_map (effects_in_group messages) l.groups.items
          ++ effects_by (λ k. k.now) value (drop l.start l.keys) (drop l.start l.others) (drop l.skipped messages) ≡ effects_by (λ k. k.now) value l.keys l.others messages;
    }
