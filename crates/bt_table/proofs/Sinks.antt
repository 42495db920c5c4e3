-- A tree after a batch fits its shape and holds its rows after the batch; and each of several trees becomes that tree after its packet. Serves a table that
-- applies a batch.
use Rattle.std.proofs.Common.{◌≡◌, ◌∙◌, List, [], ◌∷◌, ap, refl}
use Rattle.std.specs.List.{zip}
use Rattle.bt_message.specs.Messages.{Messages, sorted_batch}
use Rattle.bt_messages.proofs.offered.Rows.{rows_after-sorted_batch}
use Rattle.bt_form.specs.Fits.{HasShape}
use Rattle.bt_form.specs.Flushes.{holds, sunk}
use Rattle.bt_form.specs.Messages.{rows_after}
use Rattle.bt_form.specs.Trees.{Shape}
use Rattle.bt_node.proofs.offered.ShapedTrees.{holds-sorted, sunk-has_shape, sunk-holds}
use Rattle.bt_row.specs.Schemas.{Schema}
use Rattle.bt_batch.specs.Batches.{RowMessages}
use Rattle.bt_table.specs.Indexes.{EntryTree, Index, indexes_after}
use Rattle.bt_table.specs.Tables.{RowTree, after_batch, held_by}
use Rattle.bt_fanout.specs.Effects.{EntryMessage, entry_meaning, row_effect, row_meaning}
use Rattle.bt_gather.specs.Rounds.{all_sunk}
use Rattle.bt_table.specs.inside.IndexTrees.{sunk_tree, sunk_trees}

-- the batch is sorted for the tree, which changes no row
pub holds-after_batch : (shape : Shape) (t : RowTree) (batch : RowMessages) → HasShape row_meaning.weigh shape t
    → holds row_effect (sunk row_meaning shape t (sorted_batch batch)) ≡ rows_after row_effect batch (holds row_effect t)
holds-after_batch shape t batch has =
    sunk-holds row_meaning shape t has (sorted_batch batch)
    ∙ rows_after-sorted_batch row_effect batch (holds row_effect t) (holds-sorted row_meaning shape t has)

pub has_shape-after_batch : (shape : Shape) (t : RowTree) (batch : RowMessages) → HasShape row_meaning.weigh shape t → HasShape row_meaning.weigh shape (sunk row_meaning shape t (sorted_batch batch))
has_shape-after_batch shape t batch has = sunk-has_shape row_meaning shape t has (sorted_batch batch)

-- the batch changes it to the state that is given by the trees after the batch
pub stepped : (schema : Schema) (shape : Shape) (t : RowTree) (indexes after : List Index) (batch : RowMessages) → HasShape row_meaning.weigh shape t
    → after ≡ indexes_after (holds row_effect t) batch indexes
    → held_by schema (shape, sunk row_meaning shape t (sorted_batch batch)) after ≡ after_batch (held_by schema (shape, t) indexes) batch
stepped schema shape t indexes after batch has are =
    λ i. record { schema = schema; shape = shape; rows = holds-after_batch shape t batch has i; tree = sunk row_meaning shape t (sorted_batch batch); indexes = are i }

-- each tree becomes that tree after its packet
pub sunk-zip : (trees : List (Shape × EntryTree)) (packets : List (Messages EntryMessage)) → all_sunk entry_meaning (zip trees packets) ≡ sunk_trees trees packets
sunk-zip [] packets = refl
sunk-zip (tree ∷ trees) [] = refl
sunk-zip (tree ∷ trees) (packet ∷ packets) = ap (λ sunk. sunk_tree tree packet ∷ sunk) (sunk-zip trees packets)
