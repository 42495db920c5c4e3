use Rattle.std.proofs.Common.{◌≡◌, ◌++◌, map}
use Rattle.bt_keycode.specs.Keys.{IsSorted}
use Rattle.bt_message.specs.Effects.{effect_of}
use Rattle.bt_form.specs.Parts.{AreRising}
use Rattle.bt_form.specs.Portions.{value_in}
use Rattle.bt_read.specs.inside.ValuesSoFar.{option_of}
use Rattle.bt_read.specs.inside.Together.{values_after}
use Rattle.bt_read.proofs.portions.Portion.values.Given as goal

-- the values so far, and those of the keys that are left, whose messages are all still there
abbrev pub invariant-loop-old : goal.invariant-loop-old
invariant-loop-old g l =
    let effect = effect_of g.V.Merge.terms.merged in
    record {
      values : l.values.items ++ values_after effect l.newer (map (λ k. k.now) l.rest) (map option_of l.old-iterator.rest.items) ≡ map (λ k. value_in effect k.now l.fn.self) l.keys;
      rising : AreRising (map (λ k. k.now) l.rest);
      sorted : IsSorted l.newer;
    }
