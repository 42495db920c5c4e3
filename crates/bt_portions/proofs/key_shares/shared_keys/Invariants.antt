use Rattle.std.proofs.Common.{◌≡◌, ◌++◌, ◌≤◌, [], None, Option, drop, length, map}
use Rattle.std.specs.List.{All, flat_map}
use Rattle.std.specs.Vec.Iter.{into_iter_items}
use Rattle.bt_keycode.specs.Keys.{Key}
use Rattle.bt_message.specs.Effects.{effect_of}
use Rattle.bt_form.specs.Parts.{AreRising}
use Rattle.bt_form.specs.Portions.{Chained, HaveThere}
use Rattle.bt_portions.specs.KeyShares.{HasRisingKeys, HasValues}
use Rattle.bt_portions.proofs.KeyShares.{NoneBefore}
use Rattle.bt_portions.proofs.key_shares.shared_keys.Given as goal

-- the shares have the keys so far, and the keys that are left belong to the portions that are left
abbrev pub invariant-loop-portion : goal.invariant-loop-portion
invariant-loop-portion g l =
    let effect = effect_of g.V.Merge.terms.merged in
    let left = into_iter_items l.portion-iterator in
    let keys = map (λ k. k.now) (drop l.done l.keys) in
    record {
      shared : flat_map (λ share. share.1.now) l.shares.items ++ drop l.done l.keys ≡ l.keys;
      values : (value : Key → Option g.row.V.Denot) → ((key : Key) → HaveThere effect key (value key) l.fn.portions.items) → All (HasValues effect value) l.shares.items;
      have : (value : Key → Option g.row.V.Denot) → ((key : Key) → HaveThere effect key (value key) l.fn.portions.items) → (key : Key) → HaveThere effect key (value key) left;
      beside : (low : Option Key) × Chained low left None × NoneBefore low keys;
      last : left ≡ [] → drop l.done l.keys ≡ [];
      rising : AreRising keys;
      shares : All HasRisingKeys l.shares.items;
      few : l.done ≤ length l.keys;
    }
