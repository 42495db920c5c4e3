use Rattle.std.proofs.Common.{ap, ◌∙◌}
use Rattle.std.specs.Prelude.{[], ◌∷◌, reverse}
use Rattle.std.proofs.lemmas.List.{reverse-append}
use Rattle.bt_file.specs.Calls.{events_of}
use Rattle.bt_file.proofs.calls.Calls.note.Goals as goal

pub returns : goal.returns
unfolding events_of
returns c = ap reverse c.and-self.ensures ∙ reverse-append c.args.self.now.log.items ((c.args.call, c.args.bytes.now) ∷ [])
