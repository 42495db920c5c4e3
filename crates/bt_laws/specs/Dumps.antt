-- A table that loads the dump of another one.
use Rattle.std.specs.Prelude.{◌≡◌, List, [], Ok, false, length, true, ℕ}
use Rattle.bt_record.specs.Records.{has_mark}
use Rattle.bt_value.specs.declared.value.Value.{Value}
use Rattle.bt_table.specs.Calls.{Load, NamedTree, Rebuild, load_refusals, step, tree_named, with_rows}
use Rattle.bt_table.specs.Tables.{Intact, PlainTable}
use Rattle.bt_table.specs.declared.reply.Reply.TheVariants.{Loaded}
use Rattle.bt_snapshot.specs.Snapshots.{AreShown, dump_of, header_line}
use Rattle.bt_laws.specs.CanonicalForms.{AreOfOneDefinition, image_after, is_of_all_rows}

-- the header does not begin with a byte order mark, which a load would drop; no column name of the language does
abbrev pub HasPlainHeader : PlainTable → Type 0
HasPlainHeader table = has_mark (header_line table.schema.columns) ≡ false

-- another table of the same schema to which no refusal of a load applies: it has no rows, and no index that is building
pub record IsReadyFor (table other : PlainTable) : Type 0 where
  pub schema : other.schema ≡ table.schema
  pub allowed : load_refusals other.indexes other.tree ≡ []

-- The other table loads the dump, and then has the rows of the first one.
abbrev pub LoadsRowsOf : PlainTable → PlainTable → Type 0
LoadsRowsOf table other =
    (rows : List (List Value)) →
    AreShown table rows →
    step (Intact other) (Load (dump_of table.schema.columns rows)) ≡ Ok (Intact (with_rows other table.rows), Loaded (length table.rows))

-- Then its trees have the images that the trees of the first one have after they are rebuilt.
abbrev pub LoadsImagesOf : PlainTable → PlainTable → Type 0
LoadsImagesOf table other =
    (rows : List (List Value)) (name : List ℕ) (tree loaded : NamedTree) →
    AreShown table rows →
    tree_named (Intact table) name ≡ Ok tree →
    tree_named (Intact (with_rows other table.rows)) name ≡ Ok loaded →
    AreOfOneDefinition tree loaded →
    is_of_all_rows tree ≡ true →
    image_after (Intact other) (Load (dump_of table.schema.columns rows)) name ≡ image_after (Intact table) (Rebuild name) name
