use Rattle.std.proofs.Common.{◌∙◌, sym}
use Rattle.bt_snapshot.specs.inside.Compacting.{table_of}
use Rattle.bt_snapshot.proofs.Sameness.{same_definitions}
use Rattle.bt_snapshot.proofs.definitions.have_same_definitions.Goals as goal

pub returns : goal.returns
returns c = λ same. same_definitions c.args.old.now c.args.new.now (table_of c.in-Ok.first) (table_of c.in-Ok-trees.second) c.soundness.ensures c.soundness-2.ensures
    c.in-Ok.ensures.trees c.in-Ok-trees.ensures.trees (sym c.same_trees.ensures ∙ same)
