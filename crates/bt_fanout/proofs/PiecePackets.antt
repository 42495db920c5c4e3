-- The packets of pieces of the effects, one after the other, are sorted to the packet of all effects.
use Rattle.std.proofs.Common.{◌≡◌, List, [], ◌∷◌, ◌++◌, append_assoc, map, refl, sym, ap, ◌∙◌}
use mathlib.Core.List.{map-map}
use Rattle.std.proofs.lemmas.List.Elements.{All-cons, All-head, All-nil, All-tail}
use Rattle.std.specs.List.{All, flat_map}
use Rattle.bt_value.specs.Lists.{concatenation}
use Rattle.bt_message.specs.Messages.{Messages, sorted_batch}
use Rattle.bt_messages.proofs.offered.Pieces.{sorted_batch-pieces}
use Rattle.bt_fanout.specs.Effects.{EntryMessage, sent_for, sent_for_all}
use Rattle.bt_fanout.specs.Entries.{Definition}
use Rattle.bt_fanout.specs.declared.cover.Cover.{Cover}
use Rattle.bt_fanout.specs.declared.effect.Effect.{Effect}

-- ---- what is true of each item is true of each item of a piece

module _ {X : Type 0} (P : X → Type 0) where
  pub front : (xs ys : List X) → All P (xs ++ ys) → All P xs
  front [] ys all = All-nil P
  front (x ∷ xs) ys all = All-cons P x xs (All-head P x (xs ++ ys) all) (front xs ys (All-tail P x (xs ++ ys) all))

  pub following : (xs ys : List X) → All P (xs ++ ys) → All P ys
  following [] ys all = all
  following (x ∷ xs) ys all = following xs ys (All-tail P x (xs ++ ys) all)

-- ---- what the pieces send

module _ (def : Definition) (cover : Cover) where
  sent_for_all-append : (es fs : List Effect) → sent_for_all def cover (es ++ fs) ≡ sent_for_all def cover es ++ sent_for_all def cover fs
  sent_for_all-append [] fs = refl
  sent_for_all-append (e ∷ es) fs =
      ap (λ ms. sent_for def cover e ++ ms) (sent_for_all-append es fs) ∙ sym (append_assoc (sent_for def cover e) (sent_for_all def cover es) (sent_for_all def cover fs))

  module _ {B : Type 0} (effects : B → List Effect) where
    sent_for_pieces : (pieces : List B) → concatenation (map (λ piece. sent_for_all def cover (effects piece)) pieces) ≡ sent_for_all def cover (flat_map effects pieces)
    sent_for_pieces [] = refl
    sent_for_pieces (p ∷ ps) =
        ap (λ ms. sent_for_all def cover (effects p) ++ ms) (sent_for_pieces ps) ∙ sym (sent_for_all-append (effects p) (flat_map effects ps))

    -- the packets of pieces, sorted together, are the packet of all effects
    pub packet_of_pieces : (pieces : List B) (packets : List (Messages EntryMessage)) (all : List Effect) → flat_map effects pieces ≡ all →
        packets ≡ map (λ piece. sorted_batch (sent_for_all def cover (effects piece))) pieces → sorted_batch (concatenation packets) ≡ sorted_batch (sent_for_all def cover all)
    packet_of_pieces pieces packets all all_is packets_are =
        let sent : B → Messages EntryMessage = λ piece. sent_for_all def cover (effects piece) in
        ap (λ ps. sorted_batch (concatenation ps)) (packets_are ∙ sym (map-map sorted_batch sent pieces))
        ∙ sorted_batch-pieces (map sent pieces)
        ∙ ap sorted_batch (sent_for_pieces pieces ∙ ap (sent_for_all def cover) all_is)
