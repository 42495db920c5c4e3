use Rattle.std.proofs.Common.{◌≡◌, ◌∙◌, ap, arith, subst, sym, take}
use Rattle.std.proofs.Math.Seq.{take-length}
use Rattle.std.proofs.lemmas.Result.{on_ok_weaker}
use Rattle.bt_message.specs.Messages.{with_messages}
use Rattle.bt_messages.specs.Shares.{IsShare}
use Rattle.bt_message.specs.Weights.{weigh_of}
use Rattle.bt_messages.specs.declared.share.Share.{Share}
use Rattle.bt_messages.proofs.buffer.Buffer.add.Goals as goal

pub add_front-requires : goal.add_front-requires
add_front-requires g c = subst (IsShare (weigh_of g.V.Merge.terms) c.into_stream-stream.result) (sym c.new.ensures) (omega (arith, c.len-count.ensures.len), tt)

pub returns-clause-ok : goal.returns-clause-ok
returns-clause-ok g c =
    let stream = c.into_stream-stream.result in
    let whole : take c.new.result.count stream ≡ c.args.packet =
    ap (λ (s : Share). take s.count stream) c.new.ensures ∙ ap (λ n. take n stream) c.len-count.ensures.len ∙ take-length stream ∙ c.into_stream-stream.ensures in
    on_ok_weaker c.add_front.result (λ e. e ∙ ap (λ ms. with_messages ms c.args.self.now) whole) c.add_front.ensures.added
