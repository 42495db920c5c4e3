use Rattle.bt_flush.proofs.lemmas.code.ChoiceLoop.{fullest_from-start}
use Rattle.bt_flush.proofs.planning.fullest_place.Goals as goal

pub loop-place-init : goal.loop-place-init
loop-place-init c = fullest_from-start c.args.loads.now
