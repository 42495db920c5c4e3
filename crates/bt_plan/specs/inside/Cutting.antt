-- The children of an opened node, cut one by one.
use Rattle.std.specs.Prelude.{ℕ, ◌+◌, Bool, cond, List, [], ◌∷◌}
use Rattle.bt_keycode.specs.Keys.{Key}
use Rattle.bt_form.specs.Fits.{IsSized}
use Rattle.bt_form.specs.Messages.{Messages, with_messages}
use Rattle.bt_form.specs.Trees.{Shape, Tree}
use Rattle.bt_form.specs.declared.mode.Mode.{Mode}
use Rattle.bt_plan.specs.Cuts.{Job, child_place, cut_out}
use Rattle.bt_plan.specs.Pieces.{Holed, Place, whole}

module _ {V M : Type 0} where
  -- a job with newer messages
  abbrev pub job_with : Messages M → Job V M → Job V M
  job_with newer job = record { place = job.place; node = job.node; packet = with_messages newer job.packet; mode = job.mode }

  -- a job that is cut, this many levels above the cut
  abbrev pub cut_job : (Key × M → ℕ) → ℕ → Shape → Job V M → Holed V M (Job V M)
  cut_job weigh depth shape job = cut_out weigh depth job.mode shape job.place job.node job.packet

  -- a job that is cut if it is marked, and whose node stays otherwise
  abbrev pub cut_marked : (Key × M → ℕ) → ℕ → Shape → Bool → Job V M → Holed V M (Job V M)
  cut_marked weigh depth shape marked job = cond marked (cut_job weigh depth shape job) (whole job.node)

  -- the children from the i-th on, each with its bin and its mark
  abbrev pub cut_each : (Key × M → ℕ) → ℕ → Mode → Shape → Place → ℕ → List (Tree V M) → List (Messages M) → List Bool → List (Holed V M (Job V M))
  cut_each weigh depth mode shape place i [] bins marks = []
  cut_each weigh depth mode shape place i (t ∷ ts) [] marks = []
  cut_each weigh depth mode shape place i (t ∷ ts) (b ∷ bs) [] = []
  cut_each weigh depth mode shape place i (t ∷ ts) (b ∷ bs) (m ∷ ms) =
      cond m (cut_out weigh depth mode shape (child_place place i) t b) (whole t) ∷ cut_each weigh depth mode shape place (i + 1) ts bs ms

  -- each node is no larger than the shape allows
  abbrev pub AreSizedNodes : (Key × M → ℕ) → Shape → List (Tree V M) → Type 0
  AreSizedNodes weigh shape [] = Unit {0}
  AreSizedNodes weigh shape (t ∷ ts) = IsSized weigh shape t × AreSizedNodes weigh shape ts

-- what is left in bins when the marked ones are emptied
abbrev pub kept_bins : {M : Type 0} → List (Messages M) → List Bool → List (Messages M)
kept_bins [] marks = []
kept_bins (b ∷ bs) [] = []
kept_bins (b ∷ bs) (m ∷ ms) = cond m [] b ∷ kept_bins bs ms
