-- Cutting: the flushes of a tree are moved out of it as jobs.
use Rattle.std.specs.Prelude.{ℕ, zero, suc, Bool, cond, List, [], ◌∷◌, ◌++◌, map}
use Rattle.std.specs.List.{flat_map, zip}
use Rattle.bt_keycode.specs.Keys.{Key}
use Rattle.bt_form.specs.declared.mode.Mode.{Mode}
use Rattle.bt_form.specs.Flushes.{Child, flush_in, loads, shared}
use Rattle.bt_form.specs.Marks.{flush_marks, has_room}
use Rattle.bt_form.specs.Messages.{Meaning, Messages, load, with_messages}
use Rattle.bt_form.specs.Trees.{Shape, Tree, leaf, inner, Siblings, children}
use Rattle.bt_plan.specs.Pieces.{Holed, Pieces, Place, whole, hole, opened, holed_nodes, holes, with_holes}

-- a node that was moved out, with the messages for it
pub record Job (V M : Type 0) : Type 0 where
  pub place : Place
  pub node : Tree V M
  pub packet : Messages M
  pub mode : Mode

-- the hole that a job leaves
abbrev pub hole_of : {V M : Type 0} → Job V M → Place
hole_of job = job.place

-- the result of a job: the siblings that replace its node after its packet
abbrev pub outcome : {V M : Type 0} → Meaning V M → Shape → Job V M → Siblings V M
outcome meaning shape job = flush_in meaning job.mode shape job.node job.packet

-- the results of jobs, by their places
abbrev pub outcomes : {V M : Type 0} → Meaning V M → Shape → List (Job V M) → Pieces V M
outcomes meaning shape = map (λ job. (job.place, outcome meaning shape job))

-- each item with its number, counted from k
abbrev pub with_numbers : {X : Type 0} → ℕ → List X → List (ℕ × X)
with_numbers k [] = []
with_numbers k (x ∷ xs) = (k, x) ∷ with_numbers (suc k) xs

-- the place of a child
abbrev pub child_place : Place → ℕ → Place
child_place place i = record { tree = place.tree; path = place.path ++ i ∷ [] }

-- the messages that stay in a buffer: those that are pending for the children that aren't flushed
abbrev pub left_pending : {V M : Type 0} → List (Child V M × Bool) → Messages M
left_pending = flat_map (λ s. cond s.1 [] s.0.pending)

-- A node and a packet, this many levels above the cut. At the cut, or if it is a leaf, the node is moved out. If its buffer has room for all messages and the
-- mode lets them stay, it stays whole, with all messages. Otherwise the children that the mode flushes are cut in the same way with their pending messages,
-- and the others stay whole.
abbrev pub cut_out : {V M : Type 0} → (Key × M → ℕ) → ℕ → Mode → Shape → Place → Tree V M → Messages M → Holed V M (Job V M)
cut_out weigh zero mode shape place t packet = hole (record { place = place; node = t; packet = packet; mode = mode })
cut_out weigh (suc depth) mode shape place (leaf rows) packet = hole (record { place = place; node = leaf rows; packet = packet; mode = mode })
cut_out weigh (suc depth) mode shape place (inner ns buffer) packet =
    let all = with_messages packet buffer in
    let cs = shared (children ns) all in
    let ss = zip cs (flush_marks mode shape.buffer (loads weigh shape cs)) in
    cond (has_room mode shape (load weigh shape.measure all)) (whole (inner ns all))
    (opened
    (holed_nodes (map (λ s. (s.1.0.pivot, cond s.1.1 (cut_out weigh depth mode shape (child_place place s.0) s.1.0.tree s.1.0.pending) (whole s.1.0.tree))) (with_numbers 0 ss)))
    (left_pending ss))

-- the place of a root
abbrev pub root_place : ℕ → Place
root_place number = record { tree = number; path = [] }

-- a tree in pieces, and the jobs that were moved out of it, from left to right
pub record Pieced (V M : Type 0) : Type 0 where
  pub holed : Holed V M Place
  pub jobs : List (Job V M)

-- A tree and a packet, cut at a depth. If the root is a leaf, it is one job.
abbrev pub cut : {V M : Type 0} → (Key × M → ℕ) → ℕ → Shape → Tree V M → Messages M → ℕ → Mode → Pieced V M
cut weigh number shape root packet depth mode =
    let h = cut_out weigh depth mode shape (root_place number) root packet in
    record { holed = with_holes hole_of h; jobs = holes h }
