use Rattle.std.proofs.Common.{sym, subst}
use Rattle.bt_durable.specs.Inputs.{ReadsNext}
use Rattle.bt_durable.proofs.Arriving.{reads_next}
use Rattle.bt_durable.proofs.groups.receive_next.Goals as goal

pub returns-clause-received : goal.returns-clause-received
returns-clause-received g c =
    subst (λ r. ReadsNext c.args.most (g.I.Read.remaining c.args.input) (g.I.Read.remaining c.into_inner.result) c.receive.new.payload.items r) (sym c.received_of.ensures)
    (reads_next g.I.Read.remaining c.args.most c.new-reader.result c.receive.new.reader c.args.input c.into_inner.result c.new-reader.ensures.inner c.into_inner.ensures
    c.in_ok-found.found c.receive.new.payload.items c.in_ok-found.ensures.arrival c.in_ok-found.ensures.end)
