use Rattle.bt_durable.specs.Payloads.{requests}
use Rattle.bt_durable.proofs.Unchanged.{unchanged}
use Rattle.bt_durable.proofs.service_machine.ServiceMachineMachine.run.Goals as goal

pub returns-clause-same : goal.returns-clause-same
returns-clause-same g c none =
    let s = g.S.Service in
    unchanged s.after s.reply s.changes g.met.S.Service.same c.args.self.now (requests c.args.payload.now) none

pub returns-in_err-replies-clause-same : goal.returns-in_err-replies-clause-same
returns-in_err-replies-clause-same g c none =
    let s = g.S.Service in
    unchanged s.after s.reply s.changes g.met.S.Service.same c.args.self.now (requests c.args.payload.now) none
