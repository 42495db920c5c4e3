use Rattle.std.proofs.Common.{◌≡◌, drop}
use Rattle.bt_form.specs.Plans.{fullest}
use Rattle.bt_flush.proofs.lemmas.code.ChoiceLoop.{fullest_from}
use Rattle.bt_flush.proofs.planning.fullest_place.Given as goal

-- the fullest is still to be found from this place on
abbrev pub invariant-loop-place : goal.invariant-loop-place
invariant-loop-place l = fullest l.loads ≡ fullest_from l.best l.most l.place (drop l.place l.loads)
