use Rattle.bt_laws.proofs.CutScripts.{cut_at, cut_at_line}
use Rattle.bt_laws.proofs.cuts.cut_script.Goals as goal

pub returns-clause-bytes : goal.returns-clause-bytes
returns-clause-bytes c = λ script n. cut_at script n

pub returns-clause-lines : goal.returns-clause-lines
returns-clause-lines c = λ script n ends. cut_at_line script n ends
