-- The results of the jobs of a cut can fill it.
use Rattle.std.proofs.Common.{◌≡◌, ◌&&◌, T, List, [], ◌∷◌, ◌++◌, map, ap, subst, sym, refl, ◌∙◌}
use Rattle.std.proofs.lemmas.List.{map-append}
use Rattle.std.specs.FinMap.{is_sorted}
use Rattle.std.specs.FinMap.Entries.{below_all}
use Rattle.std.specs.List.{All}
use Rattle.std.specs.Ordering.{is_lt}
use Rattle.bt_form.specs.Fits.{IsRoomy}
use Rattle.bt_form.specs.Messages.{Meaning}
use Rattle.bt_form.specs.Trees.{Shape}
use Rattle.bt_plan.specs.Cuts.{Job, Pieced, hole_of}
use Rattle.bt_plan.specs.Laws.{PlacesRise, StandInHoles}
use Rattle.bt_plan.specs.Pieces.{Holed, HoledNodes, Pieces, Place, child, childless, hole, holes, holes_below, node_place_cmp, opened, whole, with_holes, with_holes_below}
use Rattle.bt_plan.proofs.offered.Cuts.{Answers, pieces-fit}
use Rattle.bt_gather.specs.Laws.{IsFillable}
use Rattle.bt_gather.specs.Misfits.{AreRisingPlaces}

module _ {V M H G : Type 0} (answer : H → G) where
  mutual
    pub holes-with_holes : (t : Holed V M H) → holes (with_holes answer t) ≡ map answer (holes t)
    holes-with_holes (whole t) = refl
    holes-with_holes (hole h) = refl
    holes-with_holes (opened hs buffer) = below-with_holes hs

    below-with_holes : (hs : HoledNodes V M H) → holes_below (with_holes_below answer hs) ≡ map answer (holes_below hs)
    below-with_holes childless = refl
    below-with_holes (child k h hs) =
        ap (λ z. z ++ holes_below (with_holes_below answer hs)) (holes-with_holes h) ∙ ap (λ z. map answer (holes h) ++ z) (below-with_holes hs) ∙ sym (map-append answer (holes h) (holes_below hs))

module _ {V M : Type 0} where
  -- the same places, with jobs or with themselves
  below-same : (place : Place) (jobs : List (Job V M)) → below_all node_place_cmp place (map (λ job. (job.place, job)) jobs) ≡ below_all node_place_cmp place (map (λ p. (p, p)) (map hole_of jobs))
  below-same place [] = refl
  below-same place (job ∷ jobs) = ap (λ b. is_lt (node_place_cmp place job.place) && b) (below-same place jobs)

  sorted-same : (jobs : List (Job V M)) → is_sorted node_place_cmp (map (λ job. (job.place, job)) jobs) ≡ is_sorted node_place_cmp (map (λ p. (p, p)) (map hole_of jobs))
  sorted-same [] = refl
  sorted-same (job ∷ jobs) =
      ap (λ b. b && is_sorted node_place_cmp (map (λ job. (job.place, job)) jobs)) (below-same job.place jobs)
      ∙ ap (λ b. below_all node_place_cmp job.place (map (λ p. (p, p)) (map hole_of jobs)) && b) (sorted-same jobs)

  -- a tree that is cut can be filled with pieces that have the result of each job at its place, or nothing
  pub cut-fillable : (meaning : Meaning V M) (shape : Shape) → IsRoomy shape → (c : Pieced V M) → StandInHoles meaning.weigh shape c → PlacesRise c → (pieces : Pieces V M) →
      All (Answers meaning shape pieces) c.jobs → IsFillable meaning.weigh shape c.holed pieces
  cut-fillable meaning shape roomy c stand rise pieces all = record {
    rise = subst AreRisingPlaces (sym (ap holes stand.holed ∙ holes-with_holes hole_of stand.tree ∙ ap (map hole_of) (sym stand.jobs))) (subst T (sorted-same c.jobs) rise);
    levels = stand.levels;
    fits = pieces-fit meaning shape roomy c stand pieces all;
  }
