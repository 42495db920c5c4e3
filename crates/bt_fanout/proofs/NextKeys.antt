-- The keys after a key are those from its next key on. Serves steps of building.
use Rattle.std.proofs.Common.{◌≡◌, ℕ, Bool, true, false, not, ◌&&◌, List, [], ◌∷◌, ◌++◌, Some, None, refl, sym, ap, ◌∙◌, take}
use Rattle.std.proofs.Math.Seq.{take-nil}
use Rattle.std.proofs.lemmas.List.Elements.{filter_agree}
use Rattle.bt_keycode.specs.Keys.{is_before, is_between}
use Rattle.bt_keycode.proofs.offered.NextKeys.{past}
use Rattle.bt_message.specs.Effects.{Rows}
use Rattle.bt_message.specs.Messages.{messages_between}
use Rattle.bt_fanout.specs.Covers.{is_covered, next_rows}
use Rattle.bt_fanout.specs.declared.cover.Cover.{Cover}
use Rattle.bt_fanout.specs.declared.cover.Cover.TheVariants.{Nothing, UpTo, Whole}
use Rattle.bt_fanout.specs.inside.Readings.{adds_nothing, key_after, rows_between}
use Rattle.bt_fanout.proofs.offered.Suiting.{none_covered}

-- a key lies between the last keys of two covers if the later one has it and the earlier one has not
between_covers : (earlier later : Cover) → adds_nothing earlier later ≡ false → (k : List ℕ) → is_between (key_after earlier) (key_after later) k ≡ (not (is_covered earlier k) && is_covered later k)
between_covers Nothing Nothing more k = cc
between_covers Nothing (UpTo last) more k = past last k
between_covers Nothing Whole more k = refl
between_covers (UpTo last) Nothing more k = cc
between_covers (UpTo last) (UpTo later) more k = λ i. not (past last k i) && past later k i
between_covers (UpTo last) Whole more k = ap (λ b. not b && true) (past last k)
between_covers Whole later more k = cc

pub rows_between-are : {X : Type 0} (earlier later : Cover) (rows : Rows X) → adds_nothing earlier later ≡ false →
    messages_between (key_after earlier) (key_after later) rows ≡ rows_between earlier later rows
rows_between-are {X} earlier later rows more =
    filter_agree (λ (r : List ℕ × X). is_between (key_after earlier) (key_after later) r.0) (λ r. not (is_covered earlier r.0) && is_covered later r.0)
    (λ r. between_covers earlier later more r.0) rows

and_true : (b : Bool) → (b && true) ≡ b
and_true true = refl
and_true false = refl

-- so it is not covered up to that other one exactly if it lies from the next key on
between_is : (last k : List ℕ) → is_between (Some (last ++ 0 ∷ [])) None k ≡ not (is_covered (UpTo last) k)
between_is last k = and_true (not (is_before k (last ++ 0 ∷ []))) ∙ ap not (past last k)

module _ {X : Type 0} (count : ℕ) (cover : Cover) (rows : Rows X) where
  -- the next rows after a key
  pub from_next : (last next : List ℕ) → cover ≡ UpTo last → next ≡ last ++ 0 ∷ [] → take count (messages_between (Some next) None rows) ≡ next_rows count cover rows
  from_next last next up_to is =
      ap (λ k. take count (messages_between (Some k) None rows)) is
      ∙ ap (take count) (filter_agree (λ (r : List ℕ × X). is_between (Some (last ++ 0 ∷ [])) None r.0) (λ r. not (is_covered (UpTo last) r.0)) (λ r. between_is last r.0) rows)
      ∙ ap (λ c. next_rows count c rows) (sym up_to)

  -- if all keys are covered there are no next rows
  pub none_left : cover ≡ Whole → next_rows count cover rows ≡ []
  none_left whole = ap (λ c. next_rows count c rows) whole ∙ ap (take count) (none_covered rows) ∙ take-nil count
