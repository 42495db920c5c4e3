-- Keys that are divided among portions.
use Rattle.std.specs.Borrow.{Bor}
use Rattle.std.specs.Prelude.{◌≡◌, List, map}
use Rattle.std.specs.declared.option.Option.{Option}
use Rattle.bt_keycode.specs.Keys.{Key}
use Rattle.bt_form.specs.Parts.{AreRising}
use Rattle.bt_form.specs.Portions.{Portion, value_in}

-- a share is a portion and keys that it owns
module _ {V M : Type 0} where
  -- the keys of a share rise
  abbrev pub HasRisingKeys : Portion V M × Bor (List (Bor Key)) → Type 0
  HasRisingKeys share = AreRising (map (λ k. k.now) share.1.now)

  -- at these keys the portion has these values
  abbrev pub HasValues : (Option V → M → Option V) → (Key → Option V) → Portion V M × Bor (List (Bor Key)) → Type 0
  HasValues effect value share = map (λ k. value_in effect k.now share.0) share.1.now ≡ map (λ k. value k.now) share.1.now
