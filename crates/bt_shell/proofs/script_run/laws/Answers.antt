use Rattle.bt_shell.proofs.Contents.{batches_are_folded, cuts_do_not_show, no_tree_shows, shape_is_no_content, upkeep_keeps_contents}
use Rattle.bt_shell.proofs.offered.Unchanged.{reads_change_nothing}
use Rattle.bt_shell.proofs.offered.Joins.{are_one_run}
use Rattle.bt_shell.proofs.script_run.laws.Goals as goal

pub returns-clause-reads : goal.returns-clause-reads
returns-clause-reads c = reads_change_nothing

pub returns-clause-one_run : goal.returns-clause-one_run
returns-clause-one_run c = λ first before ends. are_one_run before first c.args._script.now ends

pub returns-clause-no_tree : goal.returns-clause-no_tree
returns-clause-no_tree c = no_tree_shows

pub returns-clause-upkeep : goal.returns-clause-upkeep
returns-clause-upkeep c = upkeep_keeps_contents

pub returns-clause-shape : goal.returns-clause-shape
returns-clause-shape c = shape_is_no_content

pub returns-clause-folded : goal.returns-clause-folded
returns-clause-folded c = batches_are_folded

pub returns-clause-cuts : goal.returns-clause-cuts
returns-clause-cuts c = cuts_do_not_show
