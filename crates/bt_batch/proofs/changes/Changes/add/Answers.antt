use Rattle.std.proofs.Common.{◌∙◌, ◌∷◌, ◌++◌, [], ap, subst, sym}
use Rattle.bt_batch.specs.Batches.{KeyedMessage, RowMessages}
use Rattle.bt_batch.specs.Changes.{AreOfSchema, Changes, IsOfSchema}
use Rattle.bt_batch.proofs.offered.OfSchema.{append_of_schema}
use Rattle.bt_row.specs.Schemas.{Schema}
use Rattle.bt_batch.proofs.changes.Changes.add.Goals as goal

-- the messages are of the schema with the one that is added
pub invariant_of-self-2 : goal.invariant_of-self-2
invariant_of-self-2 c =
    let schema = c.self.inside.schema.now in
    let message : KeyedMessage = (c.args.key, c.args.message) in
    let fit = subst (λ (s : Schema). IsOfSchema s message) (sym (ap (λ (changes : Changes). changes.schema) c.self.view_is)) c.requires in
    subst (AreOfSchema schema) (sym (c.push_reserved.ensures.items ∙ ap (λ (messages : RowMessages). messages ++ message ∷ []) c.reserve.ensures.items))
    (append_of_schema schema c.self.inside.messages.items message c.self.invariant fit)
