-- Places, as the definitions have them.
use Rattle.std.specs.Prelude.{List, map}
use Rattle.bt_plan.specs.declared.job.Place as code_place
use Rattle.bt_plan.specs.Pieces.{Place}
use Rattle.bt_plan.specs.Views.{node_place}

abbrev pub node_places : List code_place.Place → List Place
node_places = map node_place
