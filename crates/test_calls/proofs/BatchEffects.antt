-- A definition of the two columns suits the three rows and the effects of the batch on them, so `build_step` may be called with these rows, and
-- `index_packet` with these effects.
use Rattle.std.proofs.Common.{◌≡◌, ap, length, refl, take}
use Rattle.std.specs.Prelude.{ℤ}
use Rattle.std.specs.List.{All}
use Rattle.std.proofs.lemmas.List.Elements.{All-from_recursion}
use Rattle.bt_keycode.specs.Codes.{code_of, eight_bytes}
use Rattle.bt_message.specs.Effects.{rows_after}
use Rattle.bt_message.specs.Messages.{sorted_batch}
use Rattle.bt_fanout.specs.Effects.{SuitsEffect, effects_of, row_effect}
use Rattle.bt_fanout.specs.Entries.{Definition, IsWithin, StandsUnder, SuitsKinds}
use Rattle.bt_fanout.specs.Selections.{EachStands}
use Rattle.bt_fanout.proofs.offered.Suiting.{suits_effects}
use Rattle.test_calls.specs.Quantities.{batch, key_of, kinds, row_of, three_rows}

module _ (def : Definition) (keys : def.keys ≡ 1) where
  stands : (id quantity : ℤ) → StandsUnder def kinds (key_of id) (row_of id quantity)
  stands id quantity = record { of_kinds = refl; under = ap (λ n. code_of (take n (row_of id quantity))) keys }

  before : EachStands (StandsUnder def kinds) three_rows
  unfolding eight_bytes
  before = (stands _ _, (stands _ _, (stands _ _, tt)))

  after : EachStands (StandsUnder def kinds) (rows_after row_effect (sorted_batch batch) three_rows)
  unfolding eight_bytes
  after = (stands _ _, (stands _ _, (stands _ _, tt)))

  pub suits_batch : SuitsKinds def kinds → All (SuitsEffect def) (effects_of (sorted_batch batch) three_rows)
  suits_batch suits = suits_effects def kinds suits (sorted_batch batch) three_rows before after
