-- A tree that is cut: its jobs fit their holes, their places rise, and their results fit the holes, and fill them to the result for the tree.
use Rattle.std.proofs.Common.{◌≡◌, ℕ, List, [], ◌∷◌, ◌∙◌, refl, subst, sym, arith}
use Rattle.std.proofs.lemmas.List.Elements.{recursion_from_All}
use Rattle.std.specs.FinMap.{find}
use Rattle.std.specs.List.{All, AllByRecursion as Each}
use Rattle.std.specs.declared.option.Option.{Option}
use Rattle.std.specs.declared.option.Option.TheVariants.{None, Some}
use Rattle.bt_keycode.specs.Keys.{Key}
use Rattle.bt_form.specs.Fits.{HasShape, IsInOrder, IsRoomy, SiblingsFit}
use Rattle.bt_form.specs.Messages.{Meaning, Messages}
use Rattle.bt_form.specs.Trees.{Shape, Siblings, Tree}
use Rattle.bt_form.specs.declared.mode.Mode.{Mode}
use Rattle.bt_node.proofs.offered.FlushSteps.{anywhere, fit_there}
use Rattle.bt_plan.specs.Cuts.{Job, Pieced, cut, cut_out, hole_of, outcome, root_place}
use Rattle.bt_plan.specs.Laws.{FillsUp, JobFits, PlacesRise, StandInHoles}
use Rattle.bt_plan.specs.Pieces.{FitsHole, HoledFits, Pieces, filled, holes, node_place_cmp}
use Rattle.bt_plan.proofs.Filling.{cut-filled}
use Rattle.bt_plan.proofs.Fits.{cut-fits}
use Rattle.bt_plan.proofs.Found.{filled-standing}
use Rattle.bt_plan.proofs.Holes.{Somewhere, each-asked, with_holes-fits}
use Rattle.bt_plan.proofs.Places.{cut-rises}
-- children side by side, with their pending messages
pub use Rattle.bt_plan.proofs.Passes.{all_pending-none, lies-divides, stripped-none}
-- the results of jobs at rising places are at these places
pub use Rattle.bt_plan.proofs.Found.{all-stand}
-- the holes below an opened node
pub use Rattle.bt_plan.proofs.Opening.{holes-zip}
-- trees in pieces with something else in their holes
pub use Rattle.bt_plan.proofs.Found.{filled-as}
pub use Rattle.bt_plan.proofs.Holes.{bins-long, with_holes-fits}

module _ {V M : Type 0} (meaning : Meaning V M) (number : ℕ) (shape : Shape) (root : Tree V M) (has : HasShape meaning.weigh shape root) (packet : Messages M) (depth : ℕ) (mode : Mode) where
  -- each job has its own hole and fits there
  pub cut-stand_in_holes : StandInHoles meaning.weigh shape (cut meaning.weigh number shape root packet depth mode)
  cut-stand_in_holes = record {
    tree = cut_out meaning.weigh depth mode shape (root_place number) root packet;
    holed = refl;
    jobs = refl;
    levels = has.levels;
    fit = cut-fits meaning shape (omega (arith, has.roomy.leaf)) (omega (arith, has.roomy.fanout)) mode depth has.levels (root_place number) None None root packet
        has.fits.lies has.fits.sized (anywhere packet);
  }

  -- the places of the jobs rise
  pub cut-places_rise : PlacesRise (cut meaning.weigh number shape root packet depth mode)
  cut-places_rise = cut-rises meaning.weigh mode shape depth (root_place number) root packet

  -- the results of the jobs fill the holes
  pub cut-fills_up : FillsUp meaning shape root packet mode (cut meaning.weigh number shape root packet depth mode)
  cut-fills_up pieces all =
      filled-standing meaning shape pieces (cut_out meaning.weigh depth mode shape (root_place number) root packet) all
      ∙ cut-filled meaning shape (omega (arith, has.roomy.leaf)) (omega (arith, has.roomy.fanout)) mode depth has.levels (root_place number) None None root packet
      has.fits.lies has.fits.sized (anywhere packet)

-- any piece at the place of a job is its result
abbrev pub Answers : {V M : Type 0} → Meaning V M → Shape → Pieces V M → Job V M → Type 0
Answers {V} {M} meaning shape pieces job = (xs : Siblings V M) → find node_place_cmp job.place pieces ≡ Some xs → xs ≡ outcome meaning shape job

module _ {V M : Type 0} (meaning : Meaning V M) (shape : Shape) (roomy : IsRoomy shape) where
  -- the result of a job fits its hole
  outcome-fits : (job : Job V M) (levels : ℕ) (low high : Option Key) → JobFits meaning.weigh shape levels low high job → SiblingsFit meaning.weigh shape levels low high (outcome meaning shape job)
  outcome-fits job levels low high fits = fit_there meaning job.mode shape roomy job.node job.packet _ refl levels low high fits.0 fits.1

  each-fits : (pieces : Pieces V M) (jobs : List (Job V M)) → Each (Answers meaning shape pieces) jobs →
      Each (λ job. (levels : ℕ) (low high : Option Key) → JobFits meaning.weigh shape levels low high job → FitsHole meaning.weigh shape pieces levels low high (hole_of job)) jobs
  each-fits pieces [] e = tt
  each-fits pieces (job ∷ jobs) e =
      ((λ levels low high fits xs found. subst (SiblingsFit meaning.weigh shape levels low high) (sym (e.0 xs found)) (outcome-fits job levels low high fits)), each-fits pieces jobs e.1)

  -- so each piece fits its hole
  pub pieces-fit : (c : Pieced V M) (stand : StandInHoles meaning.weigh shape c) (pieces : Pieces V M) → All (Answers meaning shape pieces) c.jobs
      → HoledFits meaning.weigh (FitsHole meaning.weigh shape pieces) shape stand.levels None None c.holed
  pieces-fit c stand pieces all =
      subst (HoledFits meaning.weigh (FitsHole meaning.weigh shape pieces) shape stand.levels None None) (sym stand.holed)
      (with_holes-fits meaning.weigh shape hole_of (JobFits meaning.weigh shape) (FitsHole meaning.weigh shape pieces) stand.levels None None stand.tree
      (each-fits pieces (holes stand.tree) (recursion_from_All (Answers meaning shape pieces) (holes stand.tree) (subst (All (Answers meaning shape pieces)) stand.jobs all))) stand.fit)

-- the nodes of the jobs of a cut are in order
pub jobs-in_order : {V M : Type 0} (weigh : Key × M → ℕ) (shape : Shape) (c : Pieced V M) → StandInHoles weigh shape c → Each (λ job. IsInOrder job.node) c.jobs
jobs-in_order {V} {M} weigh shape c stand =
    subst (Each (λ job. IsInOrder job.node)) (sym stand.jobs) (go (holes stand.tree) (each-asked weigh shape (JobFits weigh shape) stand.levels None None stand.tree stand.fit))
  where
    go : (jobs : List (Job V M)) → Each (Somewhere (JobFits weigh shape)) jobs → Each (λ job. IsInOrder job.node) jobs
    go [] e = tt
    go (job ∷ jobs) e = let fits = e.0 in ((fits.0, fits.1, fits.2, fits.3.0.lies), go jobs e.1)
