use denote.Param.Send.{sendable}
use Rattle.bt_gang.proofs.team.serve_threads.Goals as goal

pub scoped-requires : goal.scoped-requires
scoped-requires g c = record {
  at = λ x. (
    (c.requires.ready, c.requires.accepts),
    (search sendable depth 20, search sendable depth 20, search sendable depth 20, search sendable depth 20, search sendable depth 20, search sendable depth 20),
  );
}
