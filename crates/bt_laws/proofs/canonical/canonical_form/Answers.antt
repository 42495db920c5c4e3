use Rattle.bt_laws.proofs.FromScratch.{images_alike, loaded_from_scratch, rebuilt_from_scratch, whole_from_scratch}
use Rattle.bt_laws.proofs.RowsOfImages.{equal_rows}
use Rattle.bt_laws.proofs.canonical.canonical_form.Goals as goal

pub returns-clause-rebuilt : goal.returns-clause-rebuilt
returns-clause-rebuilt c = λ table name sound tree seen all. rebuilt_from_scratch table sound name tree seen all

pub returns-clause-loaded : goal.returns-clause-loaded
returns-clause-loaded c = λ table text name sound rows tree read seen. loaded_from_scratch table sound name rows text read tree seen

pub returns-clause-whole : goal.returns-clause-whole
returns-clause-whole c = λ table sound complete. whole_from_scratch table sound complete

pub returns-clause-alike : goal.returns-clause-alike
returns-clause-alike c = λ first second name sound other_sound same tree other seen other_seen one all other_all. images_alike first second sound other_sound
    same name tree other seen other_seen one all other_all

pub returns-clause-rows : goal.returns-clause-rows
returns-clause-rows c = λ first second one two schema same. equal_rows first second one two schema same
