use Rattle.std.proofs.Common.{◌∙◌, ap, sym}
use Rattle.std.specs.Ordering.{is_eq}
use Rattle.bt_gather.proofs.PlaceSearch.{stands_there}
use Rattle.bt_gather.proofs.hole_places.stands_at.Goals as goal

pub returns-then-hole-places-clause-stands : goal.returns-then-hole-places-clause-stands
returns-then-hole-places-clause-stands c e =
    let same = sym (c.is_eq.ensures ∙ ap is_eq c.compare.ensures) ∙ e in
    stands_there c.args.places.now c.args.hole c.index-places-hole.result c.args.place.now c.if-hole-places.true c.index-places-hole.is same
