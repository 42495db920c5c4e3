-- The jobs of a round, and their results.
use Rattle.std.specs.Prelude.{◌≡◌, List, [], map}
use Rattle.std.specs.List.{All}
use Rattle.bt_message.specs.declared.message.Message.{Message}
use Rattle.bt_form.specs.Fits.{IsInOrder}
use Rattle.bt_form.specs.Messages.{Meaning, Messages}
use Rattle.bt_form.specs.Trees.{Shape, Siblings, leaf}
use Rattle.bt_form.specs.declared.mode.Mode.TheVariants.{Absorb}
use Rattle.bt_plan.specs.declared.job.Job as code_job
use Rattle.bt_plan.specs.declared.job.Place as code_place
use Rattle.bt_plan.specs.Cuts.{outcome}
use Rattle.bt_plan.specs.Pieces.{Pieces}
use Rattle.bt_plan.specs.Views.{job_of}
use Rattle.bt_gather.specs.declared.flush_work.ShapedJob.{ShapedJob}
use Rattle.bt_gather.specs.Views.{pieces_of}

module _ {V D : Type 0} where
  -- a job with the shape of its tree
  abbrev pub shaped : Shape → code_job.Job V D → ShapedJob V D
  shaped shape job = record { shape = shape; job = job }

  -- the keys of its node are in order
  abbrev pub IsRunnable : ShapedJob V D → Type 0
  IsRunnable shaped = IsInOrder shaped.job.node

  -- it makes the leaves of these messages
  pub record IsLeafJob (shape : Shape) (packet : Messages (Message V D)) (shaped : ShapedJob V D) : Type 0 where
    pub same : shaped.shape ≡ shape
    pub bare : shaped.job.node ≡ leaf []
    pub takes : shaped.job.packet ≡ packet
    pub absorbs : shaped.job.mode ≡ Absorb

  abbrev pub AreRunnable : List (ShapedJob V D) → Type 0
  AreRunnable = All IsRunnable

  module _ (meaning : Meaning V (Message V D)) where
    -- the result of a job, at its place
    abbrev pub piece_of : ShapedJob V D → code_place.Place × Siblings V (Message V D)
    piece_of shaped = (shaped.job.place, outcome meaning shaped.shape (job_of shaped.job))

    -- the results of jobs, each at its place
    abbrev pub all_pieces : List (ShapedJob V D) → Pieces V (Message V D)
    all_pieces jobs = pieces_of (map piece_of jobs)
