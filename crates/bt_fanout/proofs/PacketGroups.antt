-- Packets in groups, a group for each index.
use Rattle.std.proofs.Common.{◌≡◌, ◌∙◌, ℕ, suc, zero, List, [], ◌∷◌, ◌++◌, append_assoc, append-nil, ap, arith, fold, length, map, refl, replicate, subst, sym}
use Rattle.std.proofs.lemmas.List.{length-map, map-append}
use Rattle.std.proofs.lemmas.List.Elements.{All-cons, All-nil}
use Rattle.std.specs.List.{All, flat_map}
use Rattle.bt_value.specs.Lists.{concatenation}
use Rattle.bt_message.specs.Messages.{Messages, sorted_batch}
use Rattle.bt_fanout.specs.Effects.{EntryMessage, SuitsEffect}
use Rattle.bt_fanout.specs.Targets.{SuitAll, packet_of}
use Rattle.bt_fanout.specs.declared.effect.Effect.{Effect}
use Rattle.bt_fanout.specs.declared.joint_packets.IndexTarget.{IndexTarget}
use Rattle.bt_fanout.specs.inside.PacketGroups.{with_next}
use Rattle.bt_fanout.proofs.PiecePackets.{following, front, packet_of_pieces}

same_map : {I Y : Type 0} (f g : I → Y) → ((i : I) → f i ≡ g i) → (is : List I) → map f is ≡ map g is
same_map f g same [] = refl
same_map f g same (i ∷ is) = ap (λ y. y ∷ map f is) (same i) ∙ ap (λ ys. g i ∷ ys) (same_map f g same is)

module _ {X : Type 0} where
  -- the next of the groups that are left, and the same group with the next of the items
  pub record IsNextGroup {G : Type 0} (seen : G → List X) (left later : List G) (items rest : List X) (grown : G) : Type 0 where
    pub group : G
    pub item : X
    pub left_is : left ≡ group ∷ later
    pub items_are : items ≡ item ∷ rest
    pub grown_is : seen grown ≡ seen group ++ item ∷ []

  -- one more group has its item
  pub one_group : {G : Type 0} (seen : G → List X) (done : List G) {more left later : List G} {items rest : List X} {grown : G} (whole : List (List X))
      → IsNextGroup seen left later items rest grown → more ≡ done ++ grown ∷ []
      → map seen done ++ with_next (map seen left) items ≡ whole → map seen more ++ with_next (map seen later) rest ≡ whole
  one_group seen done {more} {left} {later} {items} {rest} {grown} whole next more_is so_far =
      let others = with_next (map seen later) rest in
      ap (λ gs. map seen gs ++ others) more_is ∙ ap (λ ls. ls ++ others) (map-append seen done (grown ∷ [])) ∙ append_assoc (map seen done) (seen grown ∷ []) others
      ∙ ap (λ g. map seen done ++ g ∷ others) next.grown_is
      ∙ ap (λ gs. map seen done ++ with_next (map seen gs) (next.item ∷ rest)) (sym next.left_is) ∙ ap (λ xs. map seen done ++ with_next (map seen left) xs) (sym next.items_are) ∙ so_far

  pub length-with_next : (lists : List (List X)) (items : List X) → length items ≡ length lists → length (with_next lists items) ≡ length lists
  length-with_next [] items same = refl
  length-with_next (l ∷ lists) [] same = absurd (omega (arith, same))
  length-with_next (l ∷ lists) (x ∷ items) same = ap suc (length-with_next lists items (omega (arith, same)))

  abbrev none : List X
  none = []

  module _ {I : Type 0} where
    with_next-map : (before : I → List X) (f : I → X) (is : List I) → with_next (map before is) (map f is) ≡ map (λ i. before i ++ f i ∷ []) is
    with_next-map before f [] = refl
    with_next-map before f (i ∷ is) = ap (λ ls. (before i ++ f i ∷ []) ∷ ls) (with_next-map before f is)

    empty-map : (is : List I) (n : ℕ) → n ≡ length is → replicate n none ≡ map (λ i. none) is
    empty-map [] zero same = refl
    empty-map [] (suc n) same = absurd (omega (arith, same))
    empty-map (i ∷ is) zero same = absurd (omega (arith, same))
    empty-map (i ∷ is) (suc n) same = ap (λ ls. none ∷ ls) (empty-map is n (omega (arith, same)))

    module _ {J : Type 0} (f : J → I → X) (is : List I) where
      groups-after : (before : I → List X) (js : List J) → fold with_next (map before is) (map (λ j. map (f j) is) js) ≡ map (λ i. before i ++ map (λ j. f j i) js) is
      groups-after before [] = same_map before (λ i. before i ++ []) (λ i. sym (append-nil (before i))) is
      groups-after before (j ∷ js) =
          ap (λ gs. fold with_next gs (map (λ j. map (f j) is) js)) (with_next-map before (f j) is) ∙ groups-after (λ i. before i ++ f j i ∷ []) js
          ∙ same_map (λ i. (before i ++ f j i ∷ []) ++ map (λ j. f j i) js) (λ i. before i ++ map (λ j. f j i) (j ∷ js)) (λ i. append_assoc (before i) (f j i ∷ []) (map (λ j. f j i) js)) is

      -- the group of each index has what each job made of it
      pub groups_are : (n : ℕ) (js : List J) → n ≡ length is → fold with_next (replicate n []) (map (λ j. map (f j) is) js) ≡ map (λ i. map (λ j. f j i) js) is
      groups_are n js same = ap (λ gs. fold with_next gs (map (λ j. map (f j) is) js)) (empty-map is n same) ∙ groups-after (λ i. none) js

      pub lengths_are : (n : ℕ) (js : List J) → n ≡ length is → All (λ (list : List X). length list ≡ n) (map (λ j. map (f j) is) js)
      lengths_are n [] same = All-nil (λ (list : List X). length list ≡ n)
      lengths_are n (j ∷ js) same = All-cons (λ (list : List X). length list ≡ n) (map (f j) is) (map (λ j. map (f j) is) js) (length-map is (f j) ∙ sym same) (lengths_are n js same)

-- ---- packets

-- what suits indexes of all effects suits them of the effects of each job
module _ {J : Type 0} (effects : J → List Effect) (indexes : List IndexTarget) where
  pub suits_each_job : (js : List J) → SuitAll indexes (flat_map effects js) → All (λ j. SuitAll indexes (effects j)) js
  suits_each_job [] suits = All-nil (λ j. SuitAll indexes (effects j))
  suits_each_job (j ∷ js) suits =
      All-cons (λ j. SuitAll indexes (effects j)) j js (λ k d within. front (SuitsEffect _) (effects j) (flat_map effects js) (suits k d within))
      (suits_each_job js (λ k d within. following (SuitsEffect _) (effects j) (flat_map effects js) (suits k d within)))

  -- the packets of an index, sorted together, are its packet for all effects
  pub merged_packets_are : (js : List J) (all : List Effect) → flat_map effects js ≡ all
      → map (λ i. sorted_batch (concatenation (map (λ j. packet_of (effects j) i) js))) indexes ≡ map (packet_of all) indexes
  merged_packets_are js all all_is =
      same_map (λ i. sorted_batch (concatenation (map (λ j. packet_of (effects j) i) js))) (packet_of all)
      (λ i. packet_of_pieces i.def.now i.cover.now effects js (map (λ j. packet_of (effects j) i) js) all all_is refl) indexes
