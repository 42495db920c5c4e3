-- Pieces by places: the result of each job is at its place, and fills its hole.
use Rattle.std.proofs.Common.{◌≡◌, T, true, false, List, [], ◌∷◌, ◌++◌, refl, ap, ◌∙◌}
use Rattle.std.proofs.lemmas.Bool.{cond-false, cond-true}
use Rattle.std.proofs.lemmas.List.Elements.{All-from_recursion, recursion_from_All}
use Rattle.std.specs.Cmp.{tied_itself}
use Rattle.std.specs.FinMap.{find}
use Rattle.std.specs.FinMap.Entries.{below_all}
use Rattle.std.specs.List.{All, AllByRecursion as Each}
use Rattle.std.specs.Option.{unwrap_or}
use Rattle.std.specs.Ordering.{eq_by_cmp, is_eq, ordering_reverse}
use Rattle.std.specs.declared.cmp.Ordering.TheVariants.{Less}
use Rattle.std.specs.declared.option.Option.TheVariants.{Some}
use Rattle.bt_keycode.proofs.offered.Order.{is_less, total_keys}
use Rattle.bt_form.specs.Flushes.{pivot_first, grouped, shared}
use Rattle.bt_form.specs.Messages.{Meaning}
use Rattle.bt_form.specs.Trees.{Shape, Siblings}
use Rattle.bt_keycode.proofs.offered.Truths.{t_first, t_second, true_t}
use Rattle.bt_plan.specs.Pieces.{Holed, HoledNodes, Pieces, child, childless, filled_below, filled_with, hole, holes}
use Rattle.bt_plan.specs.Pieces.{holes_below, node_place_cmp, opened, piece_at, whole, with_holes, with_holes_below}
use Rattle.bt_plan.specs.Cuts.{Job, hole_of, outcome, outcomes}
use Rattle.bt_plan.proofs.Places.{Rise, by_place}
use Rattle.bt_plan.proofs.offered.Each.{each-first, each-rest}

-- ---- filling by what the holes say

module _ {V M H G : Type 0} (s : Shape) (answer : H → G) (piece : G → Siblings V M) (wanted : H → Siblings V M) where
  mutual
    pub filled-as : (h : Holed V M H) → Each (λ x. piece (answer x) ≡ wanted x) (holes h) → filled_with s piece (with_holes answer h) ≡ filled_with s wanted h
    filled-as (whole t) e = refl
    filled-as (hole x) e = e.0
    filled-as (opened hs buffer) e = ap (λ xs. grouped s (shared xs buffer)) (below-as hs e)

    below-as : (hs : HoledNodes V M H) → Each (λ x. piece (answer x) ≡ wanted x) (holes_below hs) → filled_below s piece (with_holes_below answer hs) ≡ filled_below s wanted hs
    below-as childless e = refl
    below-as (child k h hs) e =
        ap (λ xs. pivot_first k xs ++ filled_below s piece (with_holes_below answer hs)) (filled-as h (each-first _ (holes h) (holes_below hs) e))
        ∙ ap (λ xs. pivot_first k (filled_with s wanted h) ++ xs) (below-as hs (each-rest _ (holes h) (holes_below hs) e))

module _ {V M : Type 0} (meaning : Meaning V M) (s : Shape) where
  -- the pieces have the result of this job at its place
  abbrev Stands : Pieces V M → Job V M → Type 0
  Stands pieces job = find node_place_cmp job.place pieces ≡ Some (outcome meaning s job)

  each-piece : (pieces : Pieces V M) (jobs : List (Job V M)) → Each (Stands pieces) jobs → Each (λ job. piece_at pieces (hole_of job) ≡ outcome meaning s job) jobs
  each-piece pieces [] e = tt
  each-piece pieces (job ∷ jobs) e = (ap (λ o. unwrap_or o []) e.0, each-piece pieces jobs e.1)

  -- pieces that have the result of each job at its place fill the holes with it
  pub filled-standing : (pieces : Pieces V M) (h : Holed V M (Job V M)) → All (Stands pieces) (holes h) →
      filled_with s (piece_at pieces) (with_holes hole_of h) ≡ filled_with s (outcome meaning s) h
  filled-standing pieces h all =
      filled-as s hole_of (piece_at pieces) (outcome meaning s) h (each-piece pieces (holes h) (recursion_from_All (Stands pieces) (holes h) all))

  -- ---- by rising places

  later : (job : Job V M) (pieces : Pieces V M) (others : List (Job V M)) → T (below_all node_place_cmp job.place (by_place others)) → Each (Stands pieces) others →
      Each (Stands ((job.place, outcome meaning s job) ∷ pieces)) others
  later job pieces [] b e = tt
  later job pieces (other ∷ others) b e =
      let less : node_place_cmp job.place other.place ≡ Less = is_less _ (true_t _ (t_first _ _ b)) in
      let differs : eq_by_cmp node_place_cmp other.place job.place ≡ false =
      ap is_eq (total_keys.antisymm (other.place.tree ∷ other.place.path) (job.place.tree ∷ job.place.path) ∙ ap ordering_reverse less) in
      (cond-false _ _ _ differs ∙ e.0, later job pieces others (t_second _ _ b) e.1)

  each-stands : (jobs : List (Job V M)) → Rise jobs → Each (Stands (outcomes meaning s jobs)) jobs
  each-stands [] r = tt
  each-stands (job ∷ jobs) r = (
    cond-true _ _ _ (ap is_eq (tied_itself total_keys (job.place.tree ∷ job.place.path))),
    later job (outcomes meaning s jobs) jobs (t_first _ _ r) (each-stands jobs (t_second _ _ r)),
  )

  -- the results of jobs at rising places are at these places
  pub all-stand : (jobs : List (Job V M)) → Rise jobs → All (Stands (outcomes meaning s jobs)) jobs
  all-stand jobs r = All-from_recursion _ jobs (each-stands jobs r)
