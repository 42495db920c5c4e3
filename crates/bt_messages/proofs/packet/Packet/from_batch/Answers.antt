use Rattle.std.proofs.Common.{◌∙◌, T, ap, subst, sym}
use Rattle.std.proofs.lemmas.Result.{IfOk-weaker}
use Rattle.bt_message.specs.Effects.{effect_of, rows_after}
use Rattle.bt_messages.proofs.offered.Rows.{rows_after-sorted_batch}
use Rattle.bt_messages.proofs.packet.Packet.from_batch.Goals as goal

pub returns-clause-same_rows : goal.returns-clause-same_rows
returns-clause-same_rows g c =
    IfOk-weaker c.sorted_packet.result _ _ (λ packet e rows up.
    ap (λ ms. rows_after (effect_of g.V.Merge.terms.merged) ms rows) e
    ∙ rows_after-sorted_batch (effect_of g.V.Merge.terms.merged) c.args.batch.items rows (subst (λ b. T b) (sym up) tt)) c.sorted_packet.ensures
