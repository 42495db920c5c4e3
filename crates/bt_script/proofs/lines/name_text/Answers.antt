use Rattle.std.proofs.Common.{refl}
use Rattle.bt_script.proofs.Names.{no_name}
use Rattle.bt_script.proofs.lines.name_text.Goals as goal

pub returns-in-Err-clause-name : goal.returns-in-Err-clause-name
returns-in-Err-clause-name c = rw (no_name c.args.word.now c.in-Err.ensures.cases.0) refl
