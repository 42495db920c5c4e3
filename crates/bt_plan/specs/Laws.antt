-- What a cut promises besides its definition.
use Rattle.std.specs.Prelude.{◌≡◌, ℕ, T, map}
use Rattle.std.specs.FinMap.{find, is_sorted}
use Rattle.std.specs.List.{All}
use Rattle.std.specs.declared.option.Option.{Option}
use Rattle.std.specs.declared.option.Option.TheVariants.{None, Some}
use Rattle.bt_keycode.specs.Keys.{AllWithin, Key}
use Rattle.bt_form.specs.Fits.{NodeFits}
use Rattle.bt_form.specs.Flushes.{flush_in}
use Rattle.bt_form.specs.Messages.{Meaning, Messages}
use Rattle.bt_form.specs.Trees.{Shape, Tree}
use Rattle.bt_form.specs.declared.mode.Mode.{Mode}
use Rattle.bt_plan.specs.Cuts.{Job, Pieced, hole_of, outcome}
use Rattle.bt_plan.specs.Pieces.{Holed, HoledFits, Pieces, filled, holes, node_place_cmp, with_holes}

module _ {V M : Type 0} (weigh : Key × M → ℕ) (shape : Shape) where
  -- the node of a job with this many levels below it, and its packet, lie between the pivots around its hole
  abbrev pub JobFits : ℕ → Option Key → Option Key → Job V M → Type 0
  JobFits levels low high job = NodeFits weigh shape levels low high job.node × AllWithin low high job.packet

  -- Each job has its own hole, from left to right, at the place that the hole gives. Its node has the height of the hole, and lies between the pivots around
  -- the hole. What stays fits too, and nothing is pending for a node in pieces.
  pub record StandInHoles (c : Pieced V M) : Type 0 where
    pub tree : Holed V M (Job V M)
    pub holed : c.holed ≡ with_holes hole_of tree
    pub jobs : c.jobs ≡ holes tree
    pub levels : ℕ
    pub fit : HoledFits weigh JobFits shape levels None None tree

-- the places of the jobs rise: no place occurs twice
abbrev pub PlacesRise : {V M : Type 0} → Pieced V M → Type 0
PlacesRise c = T (is_sorted node_place_cmp (map (λ job. (job.place, job)) c.jobs))

-- Pieces in any order that have the result of each job at its place fill the holes to the result for the whole tree.
abbrev pub FillsUp : {V M : Type 0} → Meaning V M → Shape → Tree V M → Messages M → Mode → Pieced V M → Type 0
FillsUp {V} {M} meaning shape root packet mode c =
    (pieces : Pieces V M) → All (λ job. find node_place_cmp job.place pieces ≡ Some (outcome meaning shape job)) c.jobs →
    filled shape c.holed pieces ≡ flush_in meaning mode shape root packet
