-- The trees of a round: their jobs, and the trees put together from the results of these.
use Rattle.std.specs.Prelude.{◌≡◌, ◌≤◌, ℕ, List, [], ◌∷◌, Vec, drop, length, take, vec_capacity}
use Rattle.std.specs.Global.{Global}
use Rattle.std.specs.declared.option.Option.TheVariants.{None}
use Rattle.bt_keycode.specs.Keys.{Key}
use Rattle.bt_message.specs.declared.message.Message.{Message}
use Rattle.bt_form.specs.Fits.{AreFit}
use Rattle.bt_form.specs.Flushes.{crown, pivot_first}
use Rattle.bt_form.specs.Messages.{Meaning}
use Rattle.bt_form.specs.Trees.{Shape, Siblings, Tree}
use Rattle.bt_plan.specs.declared.job.Place as code_place
use Rattle.bt_plan.specs.Pieces.{Holed, Pieces, Place, filled}
use Rattle.bt_gather.specs.declared.flush_work.ShapedJob.{ShapedJob}
use Rattle.bt_gather.specs.declared.round_tree.RoundTree.{RoundTree}
use Rattle.bt_gather.specs.declared.round_tree.RoundTree.TheVariants.{Whole, Cut, Dealt}
use Rattle.bt_gather.specs.Laws.{IsFillable}
use Rattle.bt_gather.specs.Misfits.{misfit}
use Rattle.bt_gather.specs.inside.NewLeaves.{led_pieces}
use Rattle.bt_gather.specs.inside.RoundJobs.{AreRunnable, all_pieces}

-- an empty list with capacity for this many
abbrev pub IsEmptyWithRoom : {X : Type 0} → Vec X Global → ℕ → Type 0
IsEmptyWithRoom room count = (room.items ≡ []) × (count ≤ vec_capacity room)

module _ {V D : Type 0} where
  -- the number of its jobs
  abbrev pub job_count : RoundTree V D → ℕ
  job_count (Whole tree) = 0
  job_count (Cut holed jobs room) = jobs
  job_count (Dealt shape starts room) = length starts.items

  -- the tree after these pieces are filled in
  abbrev pub tree_with : RoundTree V D → Pieces V (Message V D) → Shape × Tree V (Message V D)
  tree_with (Whole tree) pieces = tree
  tree_with (Cut holed jobs room) pieces = (holed.0, crown holed.0 (filled holed.0 holed.1 pieces))
  tree_with (Dealt shape starts room) pieces = (shape, crown shape (pivot_first [] (led_pieces starts.items pieces)))

  -- there is one piece for each job, with capacity for all, and they fit
  pub record IsCutFilledBy (weigh : Key × Message V D → ℕ) (holed : Shape × Holed V (Message V D) Place) (jobs : ℕ) (room : Vec (code_place.Place × Siblings V (Message V D)) Global)
      (pieces : Pieces V (Message V D)) : Type 0 where
    pub count : length pieces ≡ jobs
    pub roomy : IsEmptyWithRoom room jobs
    pub fillable : IsFillable weigh holed.0 holed.1 pieces
    pub fit : misfit holed.1 pieces ≡ None

  -- there is one piece for each key, and the leaves of all pieces fit
  pub record IsDealtFilledBy (weigh : Key × Message V D → ℕ) (shape : Shape) (starts : List Key) (pieces : Pieces V (Message V D)) : Type 0 where
    pub count : length pieces ≡ length starts
    pub some : 1 ≤ length (led_pieces starts pieces)
    pub fit : AreFit weigh shape (pivot_first [] (led_pieces starts pieces))

  -- these pieces are the results of its jobs
  abbrev pub IsFilledBy : (Key × Message V D → ℕ) → RoundTree V D → Pieces V (Message V D) → Type 0
  IsFilledBy weigh (Whole tree) pieces = pieces ≡ []
  IsFilledBy weigh (Cut holed jobs room) pieces = IsCutFilledBy weigh holed jobs room pieces
  IsFilledBy weigh (Dealt shape starts room) pieces = IsEmptyWithRoom room (length starts.items) × IsDealtFilledBy weigh shape starts.items pieces

  -- trees, each with its share of the pieces
  abbrev pub trees_with : List (RoundTree V D) → Pieces V (Message V D) → List (Shape × Tree V (Message V D))
  trees_with [] pieces = []
  trees_with (tree ∷ trees) pieces = tree_with tree (take (job_count tree) pieces) ∷ trees_with trees (drop (job_count tree) pieces)

  abbrev pub AreFilledBy : (Key × Message V D → ℕ) → List (RoundTree V D) → Pieces V (Message V D) → Type 0
  AreFilledBy weigh [] pieces = pieces ≡ []
  AreFilledBy weigh (tree ∷ trees) pieces = IsFilledBy weigh tree (take (job_count tree) pieces) × AreFilledBy weigh trees (drop (job_count tree) pieces)

  module _ (meaning : Meaning V (Message V D)) where
    -- these are its jobs: with their results it is that tree
    pub record AreJobsOf (tree : RoundTree V D) (jobs : List (ShapedJob V D)) (whole : Shape × Tree V (Message V D)) : Type 0 where
      pub runnable : AreRunnable jobs
      pub fill : IsFilledBy meaning.weigh tree (all_pieces meaning jobs)
      pub give : tree_with tree (all_pieces meaning jobs) ≡ whole

    -- these are their jobs, tree by tree: with their results they are those trees
    pub record AreJobsOfAll (trees : List (RoundTree V D)) (jobs : List (ShapedJob V D)) (whole : List (Shape × Tree V (Message V D))) : Type 0 where
      pub runnable : AreRunnable jobs
      pub fill : AreFilledBy meaning.weigh trees (all_pieces meaning jobs)
      pub give : trees_with trees (all_pieces meaning jobs) ≡ whole
