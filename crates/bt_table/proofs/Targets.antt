-- The indexes of a table as a batch is sent to them. Serves what a batch sends.
use Rattle.std.proofs.Common.{ℕ, zero, suc, ◌<◌, ◌≡◌, ◌∙◌, List, [], ◌∷◌, ap, arith, get_or, length, map, subst, sym}
use mathlib.Core.List.{map-map}
use Rattle.std.proofs.lemmas.List.Elements.{All-cons, All-head, All-nil, All-tail}
use Rattle.std.specs.List.{All}
use Rattle.bt_message.specs.Messages.{Messages, sorted_batch}
use Rattle.bt_fanout.specs.Effects.{EntryMessage, SuitsEffect, sent_for_all}
use Rattle.bt_fanout.specs.Entries.{Definition}
use Rattle.bt_fanout.specs.Targets.{SuitAll, packet_of}
use Rattle.bt_fanout.specs.declared.cover.Cover.{Cover}
use Rattle.bt_fanout.specs.declared.effect.Effect.{Effect}
use Rattle.bt_fanout.specs.declared.joint_packets.IndexTarget.{IndexTarget}
use Rattle.bt_table.specs.declared.index.IndexHead.{IndexHead}
use Rattle.bt_table.specs.inside.IndexTrees.{of_head, of_target, packet_for}

module _ {A B : Type 0} (f : A → B) where
  -- the item at a place of a mapped list
  pub mapped_at : (xs : List A) (i : ℕ) (x : A) (y : B) → i < length xs → x ≡ get_or xs i x → y ≡ get_or (map f xs) i y → y ≡ f x
  mapped_at [] i x y within is_x is_y = absurd (omega (arith, within))
  mapped_at (z ∷ xs) zero x y within is_x is_y = is_y ∙ ap f (sym is_x)
  mapped_at (z ∷ xs) (suc i) x y within is_x is_y = mapped_at xs i x y (omega (arith, within)) is_x is_y

  module _ (P : B → Type 0) where
    to_mapped : (xs : List A) → All (λ x. P (f x)) xs → All P (map f xs)
    to_mapped [] all = All-nil P
    to_mapped (x ∷ xs) all = All-cons P (f x) (map f xs) (All-head (λ x. P (f x)) x xs all) (to_mapped xs (All-tail (λ x. P (f x)) x xs all))

    from_mapped : (xs : List A) → All P (map f xs) → All (λ x. P (f x)) xs
    from_mapped [] all = All-nil (λ x. P (f x))
    from_mapped (x ∷ xs) all = All-cons (λ x. P (f x)) x xs (All-head P (f x) (map f xs) all) (from_mapped xs (All-tail P (f x) (map f xs) all))

module _ (targets : List IndexTarget) (heads : List IndexHead) (same : map of_target targets ≡ map of_head heads) (effects : List Effect) where
  pub packets_of_targets : map (packet_of effects) targets ≡ map (packet_for effects) heads
  packets_of_targets =
      let packet : Definition × Cover → Messages EntryMessage = λ index. sorted_batch (sent_for_all index.0 index.1 effects) in
      sym (map-map packet of_target targets) ∙ ap (map packet) same ∙ map-map packet of_head heads

  pub suit_targets : All (λ (head : IndexHead). All (SuitsEffect head.def) effects) heads → SuitAll targets effects
  suit_targets suits =
      let suit : Definition × Cover → Type 0 = λ index. All (SuitsEffect index.0) effects in
      from_mapped of_target suit targets (subst (All suit) (sym same) (to_mapped of_head suit heads suits))
