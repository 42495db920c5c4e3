-- A tree that is rebuilt, or loaded, is the one that is built from scratch.
use Rattle.std.proofs.Common.{ℕ, suc, zero, ◌≡◌, ◌∙◌, ◌+◌, ◌≤◌, ◌⊎◌, Bool, true, false, List, [], ◌∷◌, ap, sym, subst, refl, arith}
use Rattle.std.proofs.Common.{map, set, if◌then◌else◌, inl, inr, Option, Some, None, option_map, Result, Ok, IfSome, ◌&&◌}
use Rattle.std.specs.List.{list_all}
use Rattle.bt_row.specs.Schemas.{Schema}
use Rattle.bt_value.specs.Results.{or_refused, and_then, map_ok}
use Rattle.bt_value.specs.declared.refusal.Refusal.{Refusal}
use Rattle.bt_value.specs.declared.refusal.Refusal.TheVariants.{NoSuchTree}
use Rattle.bt_value.specs.declared.value.Value.{Value}
use Rattle.bt_flush.specs.Drains.{packed, rebuilt}
use Rattle.bt_form.specs.Messages.{Rows}
use Rattle.bt_form.specs.Trees.{Shape}
use Rattle.bt_fanout.specs.Effects.{entry_effect}
use Rattle.bt_fanout.specs.Entries.{entry_of}
use Rattle.bt_fanout.specs.Selections.{select}
use Rattle.bt_table.specs.Calls.{Load, NamedTree, Primary, Rebuild, Rebuilding, Secondary, is_primary, loaded_rows, renewed_index, secondary}
use Rattle.bt_table.specs.Calls.{step, tree_named, with_index_at, with_renewed_index, with_renewed_rows, with_rows, after_load}
use Rattle.bt_table.specs.Indexes.{EntryTree, Index, index_named, index_named_from, is_complete, is_name_of, packed_index, with_tree}
use Rattle.bt_table.specs.Standing.{AreSoundIndexes, IsSoundIndex, IsSoundTable}
use Rattle.bt_table.specs.Tables.{Intact, PlainTable, TableState}
use Rattle.bt_table.specs.declared.reply.Reply.{Reply}
use Rattle.bt_table.specs.declared.reply.Reply.TheVariants.{Rebuilt}
use Rattle.bt_table.proofs.offered.SoundTables.{holds_selection, sound-found}
use Rattle.bt_view.specs.Images.{entry_image, image, image_of, row_image}
use Rattle.bt_laws.specs.CanonicalForms.{AreOfOneDefinition, HaveSameRows, all_rebuilt, image_after, image_from_scratch, is_of_all_rows}

-- ---- trees that are found by their names

-- an index that is found from a place on is at that place or later
found_past : (place : ℕ) (name : List ℕ) (indexes : List Index) (found : ℕ × Index) → index_named_from place name indexes ≡ Some found → place ≤ found.0
found_past place name [] found is = absurd cc
found_past place name (index ∷ indexes) found is = by_name (is_name_of name index) (λ later. found_past (suc place) name indexes found later) is
  where
    by_name : (b : Bool) → (index_named_from (suc place) name indexes ≡ Some found → suc place ≤ found.0)
        → (if b then Some (place, index) else index_named_from (suc place) name indexes) ≡ Some found → place ≤ found.0
    by_name true past here = let same : place ≡ found.0 = cc in omega (arith, same)
    by_name false past later = omega (arith, past later)

-- an index that is found is found after a change that keeps its name
found_after : (k place : ℕ) (name : List ℕ) (indexes : List Index) (found : ℕ × Index) (new : Index) → new.name ≡ found.1.name → found.0 ≡ place + k → index_named_from place name indexes ≡ Some found
    → index_named_from place name (set indexes k new) ≡ Some (found.0, new)
found_after k place name [] found new same at is = absurd cc
found_after zero place name (index ∷ indexes) found new same at is = by_name (is_name_of name index) refl is
  where
    by_name : (b : Bool) → is_name_of name index ≡ b → (if b then Some (place, index) else index_named_from (suc place) name indexes) ≡ Some found
        → index_named_from place name (new ∷ indexes) ≡ Some (found.0, new)
    by_name true named here =
        let there : index.name ≡ found.1.name = let e : index ≡ found.1 = cc in ap (λ (i : Index). i.name) e in
        let still : is_name_of name new ≡ true = ap (λ (n : List ℕ). is_name_of name (record new { name = n })) (same ∙ sym there) ∙ named in
        let first : place ≡ found.0 = cc in
        ap (λ b. if b then Some (place, new) else index_named_from (suc place) name indexes) still ∙ ap (λ n. Some (n, new)) first
    by_name false other later = absurd (omega (arith, at, found_past (suc place) name indexes found later))
found_after (suc k) place name (index ∷ indexes) found new same at is =
    by_name (is_name_of name index) refl (λ later. found_after k (suc place) name indexes found new same (omega (arith, at)) later) is
  where
    by_name : (b : Bool) → is_name_of name index ≡ b → (index_named_from (suc place) name indexes ≡ Some found → index_named_from (suc place) name (set indexes k new) ≡ Some (found.0, new))
        → (if b then Some (place, index) else index_named_from (suc place) name indexes) ≡ Some found
        → index_named_from place name (index ∷ set indexes k new) ≡ Some (found.0, new)
    by_name true named after here = let first : place ≡ found.0 = cc in absurd (omega (arith, at, first))
    by_name false other after later = ap (λ b. if b then Some (place, index) else index_named_from (suc place) name (set indexes k new)) other ∙ after later

-- the tree of a name is that of the rows
record IsOfRows (table : PlainTable) (name : List ℕ) (tree : NamedTree) : Type 0 where
  primary : is_primary name ≡ true
  is : tree ≡ Primary table

-- or it is that of an index
record IsOfIndex (table : PlainTable) (name : List ℕ) (tree : NamedTree) : Type 0 where
  other : is_primary name ≡ false
  found : ℕ × Index
  named : index_named name table.indexes ≡ Some found
  is : tree ≡ Secondary table found.1

which : (table : PlainTable) (name : List ℕ) (tree : NamedTree) → tree_named (Intact table) name ≡ Ok tree → IsOfRows table name tree ⊎ IsOfIndex table name tree
which table name tree is = by_name (is_primary name) refl is
  where
    by_found : (found : Option (ℕ × Index)) → is_primary name ≡ false → index_named name table.indexes ≡ found → secondary table found ≡ Ok tree → IsOfRows table name tree ⊎ IsOfIndex table name tree
    by_found None other named seen = absurd cc
    by_found (Some found) other named seen = inr (record { other = other; found = found; named = named; is = let e : Secondary table found.1 ≡ tree = cc in sym e })

    by_name : (b : Bool) → is_primary name ≡ b → (if b then Ok (Primary table) else secondary table (index_named name table.indexes)) ≡ Ok tree → IsOfRows table name tree ⊎ IsOfIndex table name tree
    by_name true primary seen = inl (record { primary = primary; is = let e : Primary table ≡ tree = cc in sym e })
    by_name false other seen = by_found (index_named name table.indexes) other refl seen

-- ---- rebuilt trees

-- the tree of a complete index, rebuilt, is packed from what its definition selects
rebuilt_entries : (schema : Schema) (shape : Shape) (rows : Rows (List Value)) (index : Index) → IsSoundIndex schema shape rows index → is_complete index ≡ true →
    rebuilt entry_effect index.tree.0 index.tree.1 ≡ packed index.tree.0 (select (entry_of index.def) rows)
rebuilt_entries schema shape rows index sound complete = ap (packed index.tree.0) (holds_selection schema shape rows index sound complete)

module _ (table : PlainTable) (sound : IsSoundTable table) (name : List ℕ) where
  rows_rebuilt : is_primary name ≡ true → image_after (Intact table) (Rebuild name) name ≡ Ok (image_from_scratch name (Primary table))
  rows_rebuilt primary =
      let after = with_renewed_rows Rebuilding table in
      let stepped : step (Intact table) (Rebuild name) ≡ Ok (Intact after, Rebuilt name) =
      ap (λ b. map_ok (λ (t : PlainTable). (Intact t, Rebuilt name))
      (if b then Ok after else or_refused NoSuchTree (option_map (with_renewed_index Rebuilding table) (index_named name table.indexes)))) primary in
      let seen : tree_named (Intact after) name ≡ Ok (Primary after) = ap (λ b. if b then Ok (Primary after) else secondary after (index_named name after.indexes)) primary in
      ap (and_then (λ (done : TableState × Reply). image done.0 name)) stepped ∙ ap (map_ok (image_of name)) seen
      ∙ ap (λ (rows : Rows (List Value)). Ok (row_image table.schema.columns name (packed table.shape rows))) sound.held

  index_rebuilt : is_primary name ≡ false → (found : ℕ × Index) → index_named name table.indexes ≡ Some found → is_complete found.1 ≡ true →
      image_after (Intact table) (Rebuild name) name ≡ Ok (image_from_scratch name (Secondary table found.1))
  index_rebuilt other found named complete =
      let index = found.1 in
      let new = renewed_index Rebuilding index in
      let after = with_index_at table found.0 new in
      let its : IsSoundIndex table.schema table.shape table.rows index =
      subst (λ (o : Option (ℕ × Index)). IfSome o (λ f. IsSoundIndex table.schema table.shape table.rows f.1)) named
      (sound-found table.schema table.shape table.rows 0 name table.indexes sound.indexes) in
      let stepped : step (Intact table) (Rebuild name) ≡ Ok (Intact after, Rebuilt name) =
      ap (λ b. map_ok (λ (t : PlainTable). (Intact t, Rebuilt name))
      (if b then Ok (with_renewed_rows Rebuilding table) else or_refused NoSuchTree
      (option_map (with_renewed_index Rebuilding table) (index_named name table.indexes)))) other
      ∙ ap (λ (o : Option (ℕ × Index)). map_ok (λ (t : PlainTable). (Intact t, Rebuilt name)) (or_refused NoSuchTree (option_map (with_renewed_index Rebuilding table) o))) named in
      let still : index_named name after.indexes ≡ Some (found.0, new) = found_after found.0 0 name table.indexes found new refl (omega arith) named in
      let seen : tree_named (Intact after) name ≡ Ok (Secondary after new) =
      ap (λ b. if b then Ok (Primary after) else secondary after (index_named name after.indexes)) other ∙ ap (secondary after) still in
      ap (and_then (λ (done : TableState × Reply). image done.0 name)) stepped ∙ ap (map_ok (image_of name)) seen
      ∙ ap (λ (t : EntryTree). Ok (entry_image name t)) (rebuilt_entries table.schema table.shape table.rows index its complete
      ∙ ap (λ (s : Shape). packed s (select (entry_of index.def) table.rows)) its.shaped)

  pub rebuilt_from_scratch : (tree : NamedTree) → tree_named (Intact table) name ≡ Ok tree → is_of_all_rows tree ≡ true
      → image_after (Intact table) (Rebuild name) name ≡ Ok (image_from_scratch name tree)
  rebuilt_from_scratch tree seen all = elim (which table name tree seen) [
    | inl rows ↦ rows_rebuilt rows.primary ∙ ap (λ (t : NamedTree). Ok (image_from_scratch name t)) (sym rows.is)
    | inr index ↦ index_rebuilt index.other index.found index.named (sym (ap is_of_all_rows index.is) ∙ all) ∙ ap (λ (t : NamedTree). Ok (image_from_scratch name t)) (sym index.is)
  ]

-- ---- loaded trees

packed_found : (schema : Schema) (shape : Shape) (old rows : Rows (List Value)) (place : ℕ) (name : List ℕ) (indexes : List Index) → AreSoundIndexes schema shape old indexes →
    IfSome (index_named_from place name (map (packed_index rows) indexes)) (λ found. found.1.tree.1 ≡ packed shape (select (entry_of found.1.def) rows))
packed_found schema shape old rows place name [] sound = tt
packed_found schema shape old rows place name (index ∷ indexes) sound =
    elim (is_name_of name (packed_index rows index))
    as (λ b. IfSome (if b then Some (place, packed_index rows index) else index_named_from (suc place) name (map (packed_index rows) indexes))
    (λ found. found.1.tree.1 ≡ packed shape (select (entry_of found.1.def) rows))) [
      | true ↦ ap (λ (s : Shape). packed s (select (entry_of index.def) rows)) sound.0.shaped
      | false ↦ packed_found schema shape old rows (suc place) name indexes sound.1
    ]

module _ (table : PlainTable) (sound : IsSoundTable table) (name : List ℕ) (rows : Rows (List Value)) where
  loaded_tree : (tree : NamedTree) → tree_named (Intact (with_rows table rows)) name ≡ Ok tree → image_of name tree ≡ image_from_scratch name tree
  loaded_tree tree seen = elim (which (with_rows table rows) name tree seen) [
    | inl own ↦ ap (image_of name) own.is ∙ ap (image_from_scratch name) (sym own.is)
    | inr index ↦
        let its : index.found.1.tree.1 ≡ packed table.shape (select (entry_of index.found.1.def) rows) =
        subst (λ (o : Option (ℕ × Index)). IfSome o (λ f. f.1.tree.1 ≡ packed table.shape (select (entry_of f.1.def) rows))) index.named
        (packed_found table.schema table.shape table.rows rows 0 name table.indexes sound.indexes) in
        ap (image_of name) index.is ∙ ap (entry_image name) its ∙ ap (image_from_scratch name) (sym index.is)
  ]

  pub loaded_from_scratch : (text : List ℕ) → loaded_rows table text ≡ Ok rows → (tree : NamedTree) → tree_named (Intact (with_rows table rows)) name ≡ Ok tree
      → image_after (Intact table) (Load text) name ≡ Ok (image_from_scratch name tree)
  loaded_from_scratch text read tree seen =
      ap (λ (r : Result (Rows (List Value)) Refusal). and_then (λ (done : TableState × Reply). image done.0 name) (map_ok (after_load table) r)) read
      ∙ ap (map_ok (image_of name)) seen ∙ ap Ok (loaded_tree tree seen)

-- ---- two tables

-- the table of a tree
abbrev pub table_of : NamedTree → PlainTable
table_of (Primary table) = table
table_of (Secondary table index) = table

pub of_table : (table : PlainTable) (name : List ℕ) (tree : NamedTree) → tree_named (Intact table) name ≡ Ok tree → table_of tree ≡ table
of_table table name tree seen = elim (which table name tree seen) [
  | inl rows ↦ ap table_of rows.is
  | inr index ↦ ap table_of index.is
]

rows_alike : (name : List ℕ) (first second : PlainTable) → HaveSameRows first second → image_from_scratch name (Primary first) ≡ image_from_scratch name (Primary second)
rows_alike name first second same = λ i. row_image (same.columns i) name (packed (same.shape i) (same.rows i))

entries_alike : (name : List ℕ) (first second : PlainTable) (index other : Index) → HaveSameRows first second → index.def ≡ other.def →
    image_from_scratch name (Secondary first index) ≡ image_from_scratch name (Secondary second other)
entries_alike name first second index other same def = λ i. entry_image name (packed (same.shape i) (select (entry_of (def i)) (same.rows i)))

pub trees_alike : (name : List ℕ) (tree other : NamedTree) → HaveSameRows (table_of tree) (table_of other) → AreOfOneDefinition tree other
    → image_from_scratch name tree ≡ image_from_scratch name other
trees_alike name (Primary first) (Primary second) same one = rows_alike name first second same
trees_alike name (Primary first) (Secondary second index) same one = absurd one
trees_alike name (Secondary first index) (Primary second) same one = absurd one
trees_alike name (Secondary first index) (Secondary second other) same one = entries_alike name first second index other same one

module _ (first second : PlainTable) (sound : IsSoundTable first) (other_sound : IsSoundTable second) (same : HaveSameRows first second) (name : List ℕ) where
  pub images_alike : (tree other : NamedTree) → tree_named (Intact first) name ≡ Ok tree → tree_named (Intact second) name ≡ Ok other → AreOfOneDefinition tree other → is_of_all_rows tree ≡ true
      → is_of_all_rows other ≡ true → image_after (Intact first) (Rebuild name) name ≡ image_after (Intact second) (Rebuild name) name
  images_alike tree other seen other_seen one all other_all =
      let here = subst (λ (t : PlainTable). HaveSameRows t second) (sym (of_table first name tree seen)) same in
      let both = subst (λ (t : PlainTable). HaveSameRows (table_of tree) t) (sym (of_table second name other other_seen)) here in
      rebuilt_from_scratch first sound name tree seen all ∙ ap Ok (trees_alike name tree other both one)
      ∙ sym (rebuilt_from_scratch second other_sound name other other_seen other_all)

-- ---- all trees of a table

all_entries : (schema : Schema) (shape : Shape) (rows : Rows (List Value)) (indexes : List Index) → AreSoundIndexes schema shape rows indexes → list_all is_complete indexes ≡ true →
    map (renewed_index Rebuilding) indexes ≡ map (packed_index rows) indexes
all_entries schema shape rows [] sound complete = refl
all_entries schema shape rows (index ∷ indexes) sound complete =
    let both = both_true (is_complete index) (list_all is_complete indexes) complete in
    let first = rebuilt_entries schema shape rows index sound.0 both.0 in
    λ i. with_tree index (index.tree.0, first i) ∷ all_entries schema shape rows indexes sound.1 both.1 i
  where
    both_true : (a b : Bool) → (a && b) ≡ true → (a ≡ true) × (b ≡ true)
    both_true true b both = (refl, both)
    both_true false b both = absurd cc

pub whole_from_scratch : (table : PlainTable) → IsSoundTable table → list_all is_complete table.indexes ≡ true → all_rebuilt table ≡ with_rows table table.rows
whole_from_scratch table sound complete =
    let indexes = all_entries table.schema table.shape table.rows table.indexes sound.indexes complete in
    λ i. record table { tree = packed table.shape (sound.held i); indexes = indexes i }
