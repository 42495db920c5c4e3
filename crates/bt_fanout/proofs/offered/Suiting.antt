-- A definition of a schema is one of each row of the schema, so of all effects on them; and indexes that cover no keys, or all.
use Rattle.std.proofs.Common.{◌≡◌, ℕ, zero, suc, true, false, cond, List, [], ◌∷◌, length, map, refl, sym, ap, subst, ◌∙◌, Some, arith}
use Rattle.std.specs.List.{All}
use Rattle.std.specs.Ordering.{eq_by_cmp}
use Rattle.std.specs.FinMap.{find}
use Rattle.std.proofs.lemmas.List.{length-map}
use Rattle.bt_value.specs.declared.value.Kind.{Kind}
use Rattle.bt_value.specs.declared.value.Value.{Value}
use Rattle.bt_keycode.specs.Codes.{kind_of}
use Rattle.bt_message.specs.Effects.{Rows, rows_after}
use Rattle.bt_keycode.specs.Keys.{key_cmp}
use Rattle.bt_message.specs.Messages.{Messages}
use Rattle.bt_fanout.specs.Covers.{is_whole}
use Rattle.bt_fanout.specs.Effects.{RowMessage, SuitsEffect, SuitsIn, effects_at, effects_of, row_effect}
use Rattle.bt_fanout.specs.Entries.{Definition, IsWithin, StandsUnder, SuitsKinds, entry_of}
use Rattle.bt_fanout.specs.Promises.{index_of}
use Rattle.bt_fanout.specs.Selections.{EachStands, covered, named, select}
use Rattle.bt_fanout.specs.declared.cover.Cover.{Cover}
use Rattle.bt_fanout.specs.declared.cover.Cover.TheVariants.{Nothing, UpTo, Whole}

pub all_none : {X : Type 0} (P : X → Type 0) → All P []
all_none P i d l = absurd (omega arith)

pub all_more : {X : Type 0} (P : X → Type 0) (x : X) (xs : List X) → P x → All P xs → All P (x ∷ xs)
all_more P x xs p ps zero d l = p
all_more P x xs p ps (suc i) d l = ps i d (omega arith)

module _ (def : Definition) (kinds : List Kind) (suits : SuitsKinds def kinds) where
  -- the places of the definition are places of each row of these kinds
  pub suits_row : (row : List Value) → map kind_of row ≡ kinds → IsWithin def (length row)
  suits_row row e = subst (IsWithin def) (sym (ap length e) ∙ length-map row kind_of) suits.within

  suits_in : (k : List ℕ) (rows : Rows (List Value)) → EachStands (StandsUnder def kinds) rows → SuitsIn def (find key_cmp k rows)
  suits_in k [] h = tt
  suits_in k (r ∷ rows) h = elim (eq_by_cmp key_cmp k r.0) as (λ b. SuitsIn def (cond b (Some r.1) (find key_cmp k rows))) [
    | true ↦ suits_row r.1 h.0.of_kinds
    | false ↦ suits_in k rows h.1
  ]

  suits_at : (old new : Rows (List Value)) → EachStands (StandsUnder def kinds) old → EachStands (StandsUnder def kinds) new → (ks : Rows (Unit {0})) →
      All (SuitsEffect def) (effects_at (λ k. find key_cmp k old) (λ k. find key_cmp k new) ks)
  suits_at old new s t [] = all_none (SuitsEffect def)
  suits_at old new s t (k ∷ ks) = all_more (SuitsEffect def) _ _ (suits_in k.0 old s, suits_in k.0 new t) (suits_at old new s t ks)

  -- so `index_packet` may be called with the effects of a batch
  pub suits_effects : (batch : Messages RowMessage) (rows : Rows (List Value)) → EachStands (StandsUnder def kinds) rows → EachStands (StandsUnder def kinds) (rows_after row_effect batch rows) →
      All (SuitsEffect def) (effects_of batch rows)
  suits_effects batch rows s t = suits_at rows (rows_after row_effect batch rows) s t (named batch)

-- ---- covers

pub none_covered : {X : Type 0} (rows : Rows X) → covered (λ k. false) rows ≡ []
none_covered [] = refl
none_covered (r ∷ rows) = none_covered rows

pub all_covered : {X : Type 0} (rows : Rows X) → covered (λ k. true) rows ≡ rows
all_covered [] = refl
all_covered (r ∷ rows) = ap (λ rs. r ∷ rs) (all_covered rows)

-- a new index is empty
pub of_nothing : (def : Definition) (rows : Rows (List Value)) → index_of def Nothing rows ≡ []
of_nothing def rows = ap (select (entry_of def)) (none_covered rows)

-- a completed one holds what its definition selects
pub of_whole : (def : Definition) (cover : Cover) (rows : Rows (List Value)) → is_whole cover ≡ true → index_of def cover rows ≡ select (entry_of def) rows
of_whole def Nothing rows whole = cc
of_whole def (UpTo last) rows whole = cc
of_whole def Whole rows whole = ap (select (entry_of def)) (all_covered rows)
