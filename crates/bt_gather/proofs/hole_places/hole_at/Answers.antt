use Rattle.std.proofs.Common.{rules}
use Rattle.std.proofs.lemmas.Fn.{always_returns_same}
use Rattle.bt_plan.specs.Pieces.{node_place_cmp}
use Rattle.bt_plan.specs.Views.{node_place}
use Rattle.bt_gather.proofs.PlaceSearch.{searched}
use Rattle.bt_gather.proofs.hole_places.hole_at.Goals as goal

pub returns : goal.returns
returns c =
    let p = node_place c.args.place.now in
    let position = c.binary_search_by.ensures.position (λ hole. node_place_cmp (node_place hole) p) (always_returns_same _ _ _ (λ a r f called. search rules)) in
    let found = searched node_place p c.args.places.now c.requires c.binary_search_by.result c.binary_search_by.ensures.bound position c.ok.result c.ok.ensures.value in
    record { bound = found.bound; stands = found.stands }
