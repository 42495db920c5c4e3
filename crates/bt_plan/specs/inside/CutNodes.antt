-- The result of cutting a node, for the code's record of how and where.
use Rattle.std.specs.Prelude.{ℕ, suc, Bool, List}
use Rattle.bt_keycode.specs.Keys.{Key}
use Rattle.bt_messages.specs.Bins.{each_with}
use Rattle.bt_messages.specs.Parts.{parted}
use Rattle.bt_messages.specs.Shares.{counts}
use Rattle.bt_message.specs.declared.message.Message.{Message}
use Rattle.bt_messages.specs.declared.share.Share.{Share}
use Rattle.bt_form.specs.Messages.{Messages}
use Rattle.bt_form.specs.Trees.{Tree}
use Rattle.bt_plan.specs.Cuts.{Job, cut_out}
use Rattle.bt_plan.specs.Pieces.{Holed}
use Rattle.bt_plan.specs.Views.{node_place}
use Rattle.bt_plan.specs.declared.cutting.Cutting.{Cutting}
use Rattle.bt_plan.specs.inside.Cutting.{cut_each}

-- the job of a node with its pending messages
abbrev pub job_at : {V D : Type 0} → Cutting → Tree V (Message V D) → Messages (Message V D) → Job V (Message V D)
job_at at node pending = record { place = node_place at.place; node = node; packet = pending; mode = at.mode }

module _ {V M : Type 0} (weigh : Key × M → ℕ) (at : Cutting) where
  -- a node whose children are this many levels above the cut
  abbrev pub cut_above : Tree V M → Messages M → Holed V M (Job V M)
  cut_above = cut_out weigh (suc at.depth) at.mode at.shape (node_place at.place)

  -- all children, each with its bin, its share of a stream and its mark
  abbrev pub cut_loaded : List (Tree V M) → List (Messages M) → Messages M → List Share → List Bool → List (Holed V M (Job V M))
  cut_loaded nodes bins stream shares marks = cut_each weigh at.depth at.mode at.shape (node_place at.place) 0 nodes (each_with (parted (counts shares) stream) bins) marks
