-- The columns that an index shows: how many they are, which are its key, and the first of a name. Serves the calls that read bounds and sums of an index.
use Rattle.std.proofs.Common.{ℕ, suc, ◌≡◌, ◌∙◌, ◌≤◌, ◌<◌, ◌+◌, ◌++◌, ◌==◌, Bool, true, false, List, [], ◌∷◌, IfSome, Option, Some, None, ap, arith, if◌then◌else◌, length, map, refl, subst, take}
use Rattle.std.proofs.lemmas.List.{length-append, length-map, length-take, map-append, take_at}
use Rattle.std.specs.Cmp.Lexicographic.{pointwise}
use Rattle.std.specs.Prelude.{option_map}
use Rattle.bt_row.specs.Ops.{named_from}
use Rattle.bt_row.specs.Schemas.{Schema}
use Rattle.bt_row.specs.declared.rows.schema.Column.{Column}
use Rattle.bt_value.specs.declared.value.Kind.{Kind}
use Rattle.bt_fanout.specs.Entries.{Definition}
use Rattle.bt_show.specs.Ranges.{column_in, index_schema}
use Rattle.bt_show.specs.inside.Entries.{index_kinds}

module _ (schema : Schema) where
  abbrev keys : List Column
  keys = take schema.keys schema.columns

  pub keys_long : schema.keys ≤ length schema.columns → length keys ≡ schema.keys
  keys_long few = omega (arith, length-take schema.keys schema.columns, few)

  module _ (def : Definition) where
    abbrev on : List Column
    on = map (column_in schema.columns) def.on

    abbrev included : List Column
    included = map (column_in schema.columns) def.include

    on_long : length on ≡ length def.on
    on_long = length-map def.on (column_in schema.columns)

    key_long : schema.keys ≤ length schema.columns → length (on ++ keys) ≡ (index_schema schema def).keys
    key_long few = omega (arith, length-append on keys, on_long, keys_long few)

    pub columns_long : schema.keys ≤ length schema.columns → length (index_schema schema def).columns ≡ (index_schema schema def).keys + length def.include
    columns_long few = omega (arith, length-append (on ++ keys) included, key_long few, length-map def.include (column_in schema.columns))

    pub kinds_are : schema.keys ≤ length schema.columns → index_kinds schema def ≡ map (λ place. (column_in schema.columns place).kind) def.on ++ map (λ c. c.kind) keys
    kinds_are few =
        ap (map (λ c. c.kind)) (take_at (on ++ keys) included (index_schema schema def).keys (key_long few)) ∙ map-append (λ (c : Column). c.kind) on keys
        ∙ ap (λ kinds. kinds ++ map (λ c. c.kind) keys) (kinds_of def.on)
      where
        kinds_of : (places : List ℕ) → map (λ c. c.kind) (map (column_in schema.columns) places) ≡ map (λ place. (column_in schema.columns place).kind) places
        kinds_of [] = refl
        kinds_of (place ∷ places) = ap (λ kinds. (column_in schema.columns place).kind ∷ kinds) (kinds_of places)

-- ---- the first column of a name

-- what was found, counted from an earlier place
abbrev pub later : ℕ → Option (ℕ × Kind) → Option (ℕ × Kind)
later n found = option_map (λ f. (n + f.0, f.1)) found

module _ (name : List ℕ) where
  -- among some columns, if it is one of them
  found-append : (start : ℕ) (columns others : List Column) (found : ℕ × Kind) → named_from start name columns ≡ Some found → named_from start name (columns ++ others) ≡ Some found
  found-append start [] others found is = cc
  found-append start (c ∷ cs) others found is = by_test (pointwise ◌==◌ c.name name) is (found-append (suc start) cs others found)
    where
      by_test : (b : Bool) → (if b then Some (start, c.kind) else named_from (suc start) name cs) ≡ Some found
          → (named_from (suc start) name cs ≡ Some found → named_from (suc start) name (cs ++ others) ≡ Some found)
          → (if b then Some (start, c.kind) else named_from (suc start) name (cs ++ others)) ≡ Some found
      by_test true is more = is
      by_test false is more = more is

  -- or else among the others
  none-append : (start : ℕ) (columns others : List Column) → named_from start name columns ≡ None → named_from start name (columns ++ others) ≡ named_from (start + length columns) name others
  none-append start [] others is =
      let start_is : start ≡ start + 0 = omega arith in
      ap (λ n. named_from n name others) start_is
  none-append start (c ∷ cs) others is = by_test (pointwise ◌==◌ c.name name) is (none-append (suc start) cs others)
    where
      by_test : (b : Bool) → (if b then Some (start, c.kind) else named_from (suc start) name cs) ≡ None
          → (named_from (suc start) name cs ≡ None → named_from (suc start) name (cs ++ others) ≡ named_from (suc start + length cs) name others)
          → (if b then Some (start, c.kind) else named_from (suc start) name (cs ++ others)) ≡ named_from (start + length (c ∷ cs)) name others
      by_test true is more = cc
      by_test false is more =
          let start_is : suc start + length cs ≡ start + length (c ∷ cs) = omega arith in
          more is ∙ ap (λ n. named_from n name others) start_is

  -- counted from a later place
  counted : (n start : ℕ) (columns : List Column) → named_from (n + start) name columns ≡ later n (named_from start name columns)
  counted n start [] = refl
  counted n start (c ∷ cs) =
      let next : suc (n + start) ≡ n + suc start = omega arith in
      by_test (pointwise ◌==◌ c.name name) (ap (λ m. named_from m name cs) next ∙ counted n (suc start) cs)
    where
      by_test : (b : Bool) → named_from (suc (n + start)) name cs ≡ later n (named_from (suc start) name cs)
          → (if b then Some (n + start, c.kind) else named_from (suc (n + start)) name cs) ≡ later n (if b then Some (start, c.kind) else named_from (suc start) name cs)
      by_test true more = refl
      by_test false more = more

  pub found_within : (start : ℕ) (columns : List Column) → IfSome (named_from start name columns) (λ f. f.0 < start + length columns)
  found_within start [] = tt
  found_within start (c ∷ cs) =
      let long : suc start + length cs ≡ start + length (c ∷ cs) = omega arith in
      by_test (pointwise ◌==◌ c.name name) (subst (λ n. IfSome (named_from (suc start) name cs) (λ f. f.0 < n)) long (found_within (suc start) cs))
    where
      by_test : (b : Bool) → IfSome (named_from (suc start) name cs) (λ f. f.0 < start + length (c ∷ cs))
          → IfSome (if b then Some (start, c.kind) else named_from (suc start) name cs) (λ f. f.0 < start + length (c ∷ cs))
      by_test true more = omega arith
      by_test false more = more

  module _ (schema : Schema) (def : Definition) where
    -- among those that the index is ordered by
    pub found_on : (found : ℕ × Kind) → named_from 0 name (on schema def) ≡ Some found → named_from 0 name (index_schema schema def).columns ≡ Some found
    found_on found is = found-append 0 (on schema def ++ keys schema) (included schema def) found (found-append 0 (on schema def) (keys schema) found is)

    -- or else among those of the key
    after_on : named_from 0 name (on schema def) ≡ None → named_from 0 name (on schema def ++ keys schema) ≡ later (length def.on) (named_from 0 name (keys schema))
    after_on none =
        let start : 0 + length (on schema def) ≡ length def.on + 0 = omega (arith, on_long schema def) in
        none-append 0 (on schema def) (keys schema) none ∙ ap (λ n. named_from n name (keys schema)) start ∙ counted (length def.on) 0 (keys schema)

    pub found_key : (place : ℕ) (kind : Kind) → named_from 0 name (on schema def) ≡ None → named_from 0 name (keys schema) ≡ Some (place, kind)
        → named_from 0 name (index_schema schema def).columns ≡ Some (length def.on + place, kind)
    found_key place kind none is =
        found-append 0 (on schema def ++ keys schema) (included schema def) (length def.on + place, kind) (after_on none ∙ ap (later (length def.on)) is)

    -- or else among those that it includes
    pub found_included : schema.keys ≤ length schema.columns → named_from 0 name (on schema def) ≡ None → named_from 0 name (keys schema) ≡ None
        → named_from 0 name (index_schema schema def).columns ≡ later (length def.on + schema.keys) (named_from 0 name (included schema def))
    found_included few none neither =
        let start : 0 + length (on schema def ++ keys schema) ≡ length def.on + schema.keys + 0 = omega (arith, key_long schema def few) in
        none-append 0 (on schema def ++ keys schema) (included schema def) (after_on none ∙ ap (later (length def.on)) neither)
        ∙ ap (λ n. named_from n name (included schema def)) start ∙ counted (length def.on + schema.keys) 0 (included schema def)
