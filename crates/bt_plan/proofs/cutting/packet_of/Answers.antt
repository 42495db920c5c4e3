use Rattle.std.proofs.Common.{subst, sym, ◌∙◌}
use Rattle.std.proofs.lemmas.Result.{IfOk-weaker}
use Rattle.bt_messages.specs.Shares.{IsShare}
use Rattle.bt_message.specs.Weights.{weigh_of}
use Rattle.bt_plan.proofs.Opening.{only-come}
use Rattle.bt_plan.proofs.cutting.packet_of.Goals as goal

pub returns-then-is_empty-clause-packet : goal.returns-then-is_empty-clause-packet
returns-then-is_empty-clause-packet g c =
    let same = only-come c.args.count c.args.stream.now c.args.pending c.is_empty.result c.is_empty.ensures c.if-is_empty.true c.len-in_order.ensures.sorted in
    IfOk-weaker c.take_front.result _ _ (λ packet e. e ∙ same) c.take_front.ensures.taken

pub add_front-requires : goal.add_front-requires
add_front-requires g c = subst (IsShare (weigh_of g.V.Merge.terms) c.args.stream.now) (sym c.new.ensures) (c.requires, tt)
