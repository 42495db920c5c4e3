use Rattle.std.proofs.Common.{◌≡◌, ◌+◌, ◌++◌, List, Option, drop, length}
use Rattle.std.specs.FinMap.{find}
use Rattle.std.specs.List.{All, flat_map}
use Rattle.std.specs.Vec.Iter.{into_iter_items}
use Rattle.bt_value.specs.declared.value.Value.{Value}
use Rattle.bt_keycode.specs.Keys.{Key, key_cmp}
use Rattle.bt_message.specs.Messages.{Messages}
use Rattle.bt_form.specs.Flushes.{holds}
use Rattle.bt_portions.specs.KeyShares.{HasRisingKeys, HasValues}
use Rattle.bt_fanout.specs.Effects.{RowMessage, row_effect}
use Rattle.bt_fanout.specs.inside.EffectJobs.{IsWhole, effects_there, message_total}
use Rattle.bt_fanout.proofs.EffectJobs.{effects_by}
use Rattle.bt_fanout.proofs.effect_jobs.effect_jobs.Given as goal

-- the effects of the jobs so far come before those of the keys that are left
abbrev pub invariant-loop-portion : goal.invariant-loop-portion
invariant-loop-portion l =
    let left = into_iter_items l.portion-iterator in
    let value : Key → Option (List Value) = λ q. find key_cmp q (holds row_effect l.tree.1) in
    record {
      same : length l.rest ≡ length (flat_map (λ share. share.1.now) left);
      few : l.before + message_total l.rest ≡ l.skipped + message_total l.others;
      rising : All HasRisingKeys left;
      values : All (HasValues row_effect value) left;
      whole : All IsWhole l.jobs.items;
      effects : (messages : Messages RowMessage) → flat_map (effects_there messages) l.jobs.items
          ++ effects_by (λ k. k.now) value (flat_map (λ share. share.1.now) left) l.rest (drop l.before messages)
          ≡ effects_by (λ k. k.now) value l.keys l.others (drop l.skipped messages);
    }
