-- What the values of the code represent.
use Rattle.std.specs.Prelude.{◌≡◌, ◌+◌, ℕ, List, length, map}
use Rattle.bt_keycode.specs.Keys.{Key}
use Rattle.bt_value.specs.Lists.{concatenation}
use Rattle.bt_messages.specs.Bins.{LieBetween}
use Rattle.bt_message.specs.declared.message.Message.{Message}
use Rattle.bt_form.specs.Messages.{Messages}
use Rattle.bt_form.specs.Trees.{Shape, Tree, with_pivots}
use Rattle.bt_form.specs.declared.mode.Mode.{Mode}
use Rattle.bt_plan.specs.declared.holed.HoledParts.{HoledParts}
use Rattle.bt_plan.specs.declared.holed.HoledParts.TheVariants.{Whole, Hole, Opened}
use Rattle.bt_plan.specs.declared.job.Job as code
use Rattle.bt_plan.specs.declared.job.Place as code_place
use Rattle.bt_plan.specs.Cuts.{Job, cut}
use Rattle.bt_plan.specs.Pieces.{Holed, Place, whole, hole, opened, holed_nodes}

abbrev pub node_place : code_place.Place → Place
node_place place = record { tree = place.tree; path = place.path.items }

abbrev pub job_of : {V D : Type 0} → code.Job V D → Job V (Message V D)
job_of job = record { place = node_place job.place; node = job.node; packet = job.packet; mode = job.mode }

-- the buffer of an opened node is its bins, one after the other
abbrev pub holed_of : {V D : Type 0} → HoledParts V D → Holed V (Message V D) Place
holed_of (Whole node) = whole node
holed_of (Hole place) = hole (node_place place)
holed_of (Opened children pivots bins) = opened (holed_nodes (with_pivots pivots.items children.items)) (concatenation bins)

-- An opened node has a pivot between neighbouring children, and each child has a bin, whose messages lie between the pivots around the child.
abbrev pub HasPivotsAndBins : {V D : Type 0} → HoledParts V D → Type 0
HasPivotsAndBins (Whole node) = Unit {0}
HasPivotsAndBins (Hole place) = Unit {0}
HasPivotsAndBins (Opened children pivots bins) = (length children.items ≡ length pivots.items + 1) × LieBetween pivots.items bins

-- a tree in pieces with its shape, and jobs, are those of a cut
abbrev pub IsCut : {V D : Type 0} → (Key × Message V D → ℕ) → Shape × Holed V (Message V D) Place → List (code.Job V D) → ℕ → Shape × Tree V (Message V D) → Messages (Message V D) → ℕ → Mode → Type 0
IsCut weigh holed jobs number tree packet depth mode =
    (holed ≡ (tree.0, (cut weigh number tree.0 tree.1 packet depth mode).holed)) × (map job_of jobs ≡ (cut weigh number tree.0 tree.1 packet depth mode).jobs)
