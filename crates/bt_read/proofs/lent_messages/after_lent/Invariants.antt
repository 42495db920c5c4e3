use Rattle.std.proofs.Common.{◌≡◌, drop, map}
use Rattle.bt_keycode.specs.Keys.{AllFrom, IsSorted}
use Rattle.bt_message.specs.Effects.{effect_of}
use Rattle.bt_form.specs.Messages.{value_after}
use Rattle.bt_read.specs.inside.ValuesSoFar.{option_of}
use Rattle.bt_read.proofs.lent_messages.after_lent.Given as goal

-- the value so far after the messages that are left
abbrev pub invariant-loop-entry : goal.invariant-loop-entry
invariant-loop-entry g l =
    let effect = effect_of g.V.Merge.terms.merged in
    let left = map (λ m. (m.key.now, m.message.now)) (drop l.entry-index l.entries) in
    record {
      value : value_after effect l.key (map (λ m. (m.key.now, m.message.now)) l.entries) (option_of l.fn.old) ≡ value_after effect l.key left (option_of l.value);
      from : AllFrom l.key left;
      sorted : IsSorted left;
    }
