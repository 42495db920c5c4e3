use Rattle.std.proofs.Common.{◌∙◌, ◌++◌, ap}
use Rattle.bt_frame.specs.declared.arrival.Arrival.TheVariants.{Frame}
use Rattle.bt_durable.proofs.KnownRequests.{put_known, state_is, stored}
use Rattle.bt_durable.proofs.once.run_first.Goals as goal

pub returns-clause-state : goal.returns-clause-state
returns-clause-state g c =
    let arrival = Frame c.args.request.now.kind in
    let payload = c.args.request.now.payload.now in
    let known = ap (λ s. s.1) c.once.view_is in
    let service = ap (λ s. s.0) c.once.view_is in
    let grown = ap (λ k. k.entries) c.in_ok-put.ensures.entries ∙ put_known c.once.inside.known c.args.once.now.1 c.args.request.now.id _ known c.once.invariant c.requires.new in
    state_is c.exchange.new.self (g.S.Service.after c.args.once.now.0 arrival payload) c.put.new.self.entries c.args.request.now.id _ _ _
    (c.in_ok-reply.ensures.state ∙ ap (λ s. g.S.Service.after s arrival payload) service) grown
    (stored c.args.sum (c.in_ok-reply.reply.kind, c.in_ok-reply.reply.payload.items) (g.S.Service.reply c.args.once.now.0 arrival payload) _
    (c.in_ok-reply.ensures.reply ∙ ap (λ s. g.S.Service.reply s arrival payload) service)
    (c.in_ok-extend_from_slice.ensures.items ∙ ap (λ l. l ++ c.as_slice.result.now) c.new-payload.ensures.items ∙ c.as_slice.ensures.value))
