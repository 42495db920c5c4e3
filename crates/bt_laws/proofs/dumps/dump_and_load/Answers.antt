use Rattle.bt_laws.proofs.Reloaded.{same_images, same_rows, visited}
use Rattle.bt_laws.proofs.dumps.dump_and_load.Goals as goal

pub returns-clause-rows : goal.returns-clause-rows
returns-clause-rows c = λ table other stored header can rows seen. same_rows table other stored header can rows seen

pub returns-clause-images : goal.returns-clause-images
returns-clause-images c = λ table other stored header can sound shape rows name tree loaded seen first second one all. same_images table other stored header
    can rows seen sound shape name tree loaded first second one all

pub returns-clause-visited : goal.returns-clause-visited
returns-clause-visited c = λ rows. visited rows
