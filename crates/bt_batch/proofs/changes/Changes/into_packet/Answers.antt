use Rattle.std.proofs.Common.{IfOk, subst, sym}
use Rattle.std.proofs.lemmas.Result.{IfOk-weaker}
use Rattle.bt_batch.specs.Changes.{AreOfSchema, Changes}
use Rattle.bt_batch.proofs.offered.OfSchema.{sorted_of_schema}
use Rattle.bt_batch.proofs.changes.Changes.into_packet.Goals as goal

pub returns-clause-of_schema : goal.returns-clause-of_schema
returns-clause-of_schema c =
    let schema = c.self.inside.schema.now in
    subst (λ (changes : Changes). IfOk c.from_batch.result (AreOfSchema changes.schema)) c.self.view_is
    (IfOk-weaker c.from_batch.result _ _
    (λ packet is. subst (AreOfSchema schema) (sym is) (sorted_of_schema schema c.self.inside.messages.items c.self.invariant)) c.from_batch.ensures.messages)
