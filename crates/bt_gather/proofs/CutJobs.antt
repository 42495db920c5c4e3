-- A tree that is cut: with the results of its jobs it is the tree after the flush.
use Rattle.std.proofs.Common.{◌≡◌, ◌∙◌, ℕ, List, [], ◌∷◌, Vec, ap, arith, length, map, refl, subst, sym}
use Rattle.std.proofs.lemmas.List.Elements.{All-from_recursion, All-weaker}
use Rattle.std.proofs.lemmas.Option.{same_Some}
use Rattle.std.specs.FinMap.{find}
use Rattle.std.specs.Global.{Global}
use Rattle.std.specs.List.{All, AllByRecursion as Each}
use Rattle.std.specs.declared.option.Option.TheVariants.{None, Some}
use Rattle.bt_message.specs.declared.message.Message.{Message}
use Rattle.bt_form.specs.Fits.{HasShape, IsInOrder}
use Rattle.bt_form.specs.Flushes.{crown, flush_in}
use Rattle.bt_form.specs.Messages.{Meaning, Messages}
use Rattle.bt_form.specs.Trees.{Shape, Siblings, Tree}
use Rattle.bt_form.specs.declared.mode.Mode.{Mode}
use Rattle.bt_plan.specs.declared.job.Job as code
use Rattle.bt_plan.specs.declared.job.Place as code_place
use Rattle.bt_plan.specs.Cuts.{Job, Pieced, cut, hole_of, outcome, outcomes}
use Rattle.bt_plan.specs.Laws.{FillsUp, PlacesRise, StandInHoles}
use Rattle.bt_plan.specs.Pieces.{Holed, Pieces, Place, filled, holes, node_place_cmp}
use Rattle.bt_plan.specs.Views.{IsCut, job_of, node_place}
use Rattle.bt_plan.proofs.offered.Cuts.{Answers, all-stand, jobs-in_order}
use Rattle.bt_gather.specs.declared.flush_work.ShapedJob.{ShapedJob}
use Rattle.bt_gather.specs.declared.round_tree.RoundTree.TheVariants.{Cut}
use Rattle.bt_gather.specs.Laws.{IsFillable}
use Rattle.bt_gather.specs.Misfits.{misfit}
use Rattle.bt_gather.specs.inside.RoundJobs.{AreRunnable, IsRunnable, all_pieces, shaped}
use Rattle.bt_gather.specs.inside.RoundTrees.{AreJobsOf, IsEmptyWithRoom}
use Rattle.bt_gather.proofs.NoMisfit.{no_misfit, places_at}
use Rattle.bt_gather.proofs.offered.Fillable.{cut-fillable, holes-with_holes}

module _ {V M : Type 0} (meaning : Meaning V M) (shape : Shape) where
  outcome-places : (jobs : List (Job V M)) → places_at (outcomes meaning shape jobs) ≡ map hole_of jobs
  outcome-places [] = refl
  outcome-places (job ∷ jobs) = ap (λ ps. job.place ∷ ps) (outcome-places jobs)

  outcome-answers : (pieces : Pieces V M) (jobs : List (Job V M)) → All (λ job. find node_place_cmp job.place pieces ≡ Some (outcome meaning shape job)) jobs → All (Answers meaning shape pieces) jobs
  outcome-answers pieces jobs all =
      All-weaker (λ job. find node_place_cmp job.place pieces ≡ Some (outcome meaning shape job)) (Answers meaning shape pieces)
      (λ job e xs f. sym (same_Some (outcome meaning shape job) xs (sym e ∙ f))) jobs all

module _ {V D : Type 0} (meaning : Meaning V (Message V D)) where
  pieces-shaped : (shape : Shape) (jobs : List (code.Job V D)) → all_pieces meaning (map (shaped shape) jobs) ≡ outcomes meaning shape (map job_of jobs)
  pieces-shaped shape [] = refl
  pieces-shaped shape (j ∷ js) = ap (λ ps. (node_place j.place, outcome meaning shape (job_of j)) ∷ ps) (pieces-shaped shape js)

  length-shaped : (shape : Shape) (jobs : List (code.Job V D)) → length (all_pieces meaning (map (shaped shape) jobs)) ≡ length jobs
  length-shaped shape [] = refl
  length-shaped shape (j ∷ js) = omega (arith, length-shaped shape js)

  runnable-shaped : (shape : Shape) (jobs : List (code.Job V D)) → Each (λ job. IsInOrder job.node) (map job_of jobs) → Each IsRunnable (map (shaped shape) jobs)
  runnable-shaped shape [] e = tt
  runnable-shaped shape (j ∷ js) e = (e.0, runnable-shaped shape js e.1)

  module _ (tree : Shape × Tree V (Message V D)) (has : HasShape meaning.weigh tree.0 tree.1) (holed : Shape × Holed V (Message V D) Place) (jobs : List (code.Job V D))
      (number : ℕ) (packet : Messages (Message V D)) (depth : ℕ) (mode : Mode) (is : IsCut meaning.weigh holed jobs number tree packet depth mode)
      (stand : StandInHoles meaning.weigh tree.0 (cut meaning.weigh number tree.0 tree.1 packet depth mode)) (rise : PlacesRise (cut meaning.weigh number tree.0 tree.1 packet depth mode))
      (fills : FillsUp meaning tree.0 tree.1 packet mode (cut meaning.weigh number tree.0 tree.1 packet depth mode))
      (shape : Shape) (same : shape ≡ holed.0) (count : ℕ) (counted : count ≡ length jobs) (room : Vec (code_place.Place × Siblings V (Message V D)) Global) (roomy : IsEmptyWithRoom room count)
      (found : List (ShapedJob V D)) (are : found ≡ map (shaped shape) jobs) where
    abbrev pieced : Pieced V (Message V D)
    pieced = cut meaning.weigh number tree.0 tree.1 packet depth mode

    abbrev wanted : Pieces V (Message V D)
    wanted = outcomes meaning tree.0 pieced.jobs

    pieces-wanted : all_pieces meaning found ≡ wanted
    pieces-wanted =
        ap (all_pieces meaning) are ∙ pieces-shaped shape jobs ∙ ap (λ s. outcomes meaning s (map job_of jobs)) (same ∙ ap (λ h. h.0) is.0) ∙ ap (outcomes meaning tree.0) is.1

    all-there : All (λ job. find node_place_cmp job.place wanted ≡ Some (outcome meaning tree.0 job)) pieced.jobs
    all-there = all-stand meaning tree.0 pieced.jobs rise

    fillable : IsFillable meaning.weigh tree.0 pieced.holed wanted
    fillable = cut-fillable meaning tree.0 has.roomy pieced stand rise wanted (outcome-answers meaning tree.0 wanted pieced.jobs all-there)

    at-holes : places_at wanted ≡ holes pieced.holed
    at-holes =
        outcome-places meaning tree.0 pieced.jobs ∙ ap (map hole_of) stand.jobs ∙ sym (holes-with_holes hole_of stand.tree) ∙ sym (ap holes stand.holed)

    fit : misfit pieced.holed wanted ≡ None
    fit = no_misfit (holes pieced.holed) wanted at-holes fillable.rise

    -- the jobs of a tree that is cut
    pub cut-jobs : AreJobsOf meaning (Cut holed count room) found (tree.0, crown tree.0 (flush_in meaning mode tree.0 tree.1 packet))
    cut-jobs = record {
      runnable = subst AreRunnable (sym are)
          (All-from_recursion IsRunnable (map (shaped shape) jobs)
          (runnable-shaped shape jobs (subst (Each (λ job. IsInOrder job.node)) (sym is.1) (jobs-in_order meaning.weigh tree.0 pieced stand))));
      fill = record {
        count = ap (λ js. length (all_pieces meaning js)) are ∙ length-shaped shape jobs ∙ sym counted;
        roomy = roomy;
        fillable = subst (λ h. IsFillable meaning.weigh h.0 h.1 (all_pieces meaning found)) (sym is.0) (subst (IsFillable meaning.weigh tree.0 pieced.holed) (sym pieces-wanted) fillable);
        fit = subst (λ h. misfit h.1 (all_pieces meaning found) ≡ None) (sym is.0) (subst (λ ps. misfit pieced.holed ps ≡ None) (sym pieces-wanted) fit);
      };
      give = ap (λ ps. (holed.0, crown holed.0 (filled holed.0 holed.1 ps))) pieces-wanted
          ∙ ap (λ h. (h.0, crown h.0 (filled h.0 h.1 wanted))) is.0
          ∙ ap (λ xs. (tree.0, crown tree.0 xs)) (fills wanted all-there);
    }
