-- Worked trees: cut into a tree in pieces and jobs, and filled again with the results of these, computed.
use Rattle.std.specs.Prelude.{◌≡◌, ℕ, List, [], ◌∷◌, ℤ}
use Rattle.std.proofs.Common.{refl}
use Rattle.bt_message.specs.declared.measure.Measure.TheVariants as measures
use Rattle.bt_message.specs.declared.message.Message.TheVariants.{Put}
use Rattle.bt_form.specs.Flushes.{absorb}
use Rattle.bt_flush.specs.Drains.{drain}
use Rattle.bt_form.specs.Messages.{Messages}
use Rattle.bt_form.specs.Trees.{Shape, Siblings, Tree, leaf, inner, none, node}
use Rattle.bt_form.specs.declared.mode.Mode.{Mode}
use Rattle.bt_form.specs.declared.mode.Mode.TheVariants.{Absorb, Drain}
use Rattle.bt_node.proofs.offered.SampleTrees.{Change, dels, entry, first_three, four_leaves, k, k_minus_1, last_two, meaning, minus_10, one_waits, puts, shape, three_high, two}
use Rattle.bt_plan.specs.Pieces.{Holed, Place, whole, hole, opened, childless, child, filled}
use Rattle.bt_plan.specs.Cuts.{Job, Pieced, cut, outcomes}

-- a job of tree 7
abbrev job : List ℕ → Mode → Tree ℤ Change → Messages Change → Job ℤ Change
job path mode t packet = record { place = record { tree = 7; path = path }; node = t; packet = packet; mode = mode }

-- a hole in tree 7
abbrev hole_at : List ℕ → Holed ℤ Change Place
hole_at path = hole (record { tree = 7; path = path })

abbrev cut_of : Shape → Tree ℤ Change → Messages Change → ℕ → Mode → Pieced ℤ Change
cut_of = cut meaning.weigh 7

-- cut, run and filled
abbrev together : Shape → Tree ℤ Change → Messages Change → ℕ → Mode → Siblings ℤ Change
together s t packet depth mode = let c = cut_of s t packet depth mode in filled s c.holed (outcomes meaning s c.jobs)

-- ---- loads 4, 2 and 2: the first two children are flushed

abbrev three_leaves : Tree ℤ Change
three_leaves = inner (node [] (two 1 10 2 20) (node (k 3) (two 3 30 4 40) (node (k 5) (two 5 50 6 60) none))) []

abbrev four_left : Messages Change
four_left = (k_minus_1, Put minus_10) ∷ puts 0 0 ∷ puts 1 11 ∷ puts 2 21 ∷ []

abbrev eight_puts : Messages Change
eight_puts = (k_minus_1, Put minus_10) ∷ puts 0 0 ∷ puts 1 11 ∷ puts 2 21 ∷ puts 3 31 ∷ puts 4 41 ∷ puts 5 51 ∷ puts 6 61 ∷ []

two_jobs : cut_of shape three_leaves eight_puts 1 Absorb ≡ record {
  holed = opened (child [] (hole_at (0 ∷ [])) (child (k 3) (hole_at (1 ∷ [])) (child (k 5) (whole (two 5 50 6 60)) childless))) (puts 5 51 ∷ puts 6 61 ∷ []);
  jobs =
      job (0 ∷ []) Absorb (two 1 10 2 20) four_left
      ∷ job (1 ∷ []) Absorb (two 3 30 4 40) (puts 3 31 ∷ puts 4 41 ∷ [])
      ∷ [];
}
two_jobs = refl

-- leaves above the cut are jobs at any depth
two_jobs_deeper : cut_of shape three_leaves eight_puts 3 Absorb ≡ cut_of shape three_leaves eight_puts 1 Absorb
two_jobs_deeper = refl

two_jobs_filled : together shape three_leaves eight_puts 1 Absorb ≡ absorb meaning shape three_leaves eight_puts
two_jobs_filled = refl

-- ---- the root sends three messages left, and that node, which has one pending, sends two on

abbrev four_puts : Messages Change
four_puts = puts 1 12 ∷ puts 2 22 ∷ puts 3 33 ∷ puts 10 100 ∷ []

two_levels_cut_1 : cut_of shape three_high four_puts 1 Absorb ≡ record {
  holed = opened (child [] (hole_at (0 ∷ [])) (child (k 5) (whole last_two) childless)) (puts 10 100 ∷ []);
  jobs = job (0 ∷ []) Absorb first_three (puts 1 12 ∷ puts 2 22 ∷ puts 3 33 ∷ []) ∷ [];
}
two_levels_cut_1 = refl

two_levels_cut_2 : cut_of shape three_high four_puts 2 Absorb ≡ record {
  holed = opened
      (child []
      (opened
      (child [] (whole (leaf ((k_minus_1, minus_10) ∷ entry 0 0 ∷ []))) (child (k 1) (hole_at (0 ∷ 1 ∷ [])) (child (k 3) (whole (two 3 30 4 40)) childless)))
      (puts 3 33 ∷ puts 4 44 ∷ []))
      (child (k 5) (whole last_two) childless))
      (puts 10 100 ∷ []);
  jobs = job (0 ∷ 1 ∷ []) Absorb (two 1 11 2 20) (puts 1 12 ∷ puts 2 22 ∷ []) ∷ [];
}
two_levels_cut_2 = refl

two_levels_filled_1 : together shape three_high four_puts 1 Absorb ≡ absorb meaning shape three_high four_puts
two_levels_filled_1 = refl

two_levels_filled_2 : together shape three_high four_puts 2 Absorb ≡ absorb meaning shape three_high four_puts
two_levels_filled_2 = refl

two_levels_filled_3 : together shape three_high four_puts 3 Absorb ≡ absorb meaning shape three_high four_puts
two_levels_filled_3 = refl

-- ---- drained, each child is flushed, also without pending messages

drained_cut_1 : (cut_of shape three_high [] 1 Drain).jobs ≡ job (0 ∷ []) Drain first_three [] ∷ job (1 ∷ []) Drain last_two [] ∷ []
drained_cut_1 = refl

drained_cut_2 : (cut_of shape three_high [] 2 Drain).jobs
    ≡ job (0 ∷ 0 ∷ []) Drain (leaf ((k_minus_1, minus_10) ∷ entry 0 0 ∷ [])) []
    ∷ job (0 ∷ 1 ∷ []) Drain (two 1 11 2 20) []
    ∷ job (0 ∷ 2 ∷ []) Drain (two 3 30 4 40) (puts 4 44 ∷ [])
    ∷ job (1 ∷ 0 ∷ []) Drain (two 5 50 6 60) []
    ∷ job (1 ∷ 1 ∷ []) Drain (leaf (entry 7 70 ∷ [])) (puts 8 80 ∷ [])
    ∷ []
drained_cut_2 = refl

drained_filled_1 : together shape three_high [] 1 Drain ≡ drain meaning shape three_high []
drained_filled_1 = refl

drained_filled_2 : together shape three_high [] 2 Drain ≡ drain meaning shape three_high []
drained_filled_2 = refl

-- ---- the first child is flushed and splits

abbrev splitting : Messages Change
splitting = (k_minus_1, Put minus_10) ∷ puts 0 0 ∷ puts 4 44 ∷ puts 8 80 ∷ []

first_child_splits : (cut_of shape four_leaves splitting 1 Absorb).jobs
    ≡ job (0 ∷ []) Absorb (two 1 10 2 20) ((k_minus_1, Put minus_10) ∷ puts 0 0 ∷ puts 1 11 ∷ []) ∷ []
first_child_splits = refl

first_child_splits_filled : together shape four_leaves splitting 1 Absorb ≡ absorb meaning shape four_leaves splitting
first_child_splits_filled = refl

-- ---- a root that is a leaf is one job, and a root that has room for all messages stays whole

leaf_job : cut_of shape (two 1 10 2 20) (puts 3 30 ∷ []) 2 Absorb ≡ record {
  holed = hole_at [];
  jobs = job [] Absorb (two 1 10 2 20) (puts 3 30 ∷ []) ∷ [];
}
leaf_job = refl

no_job : cut_of shape three_leaves (puts 1 11 ∷ []) 1 Absorb ≡ record {
  holed = whole (inner (node [] (two 1 10 2 20) (node (k 3) (two 3 30 4 40) (node (k 5) (two 5 50 6 60) none))) (puts 1 11 ∷ []));
  jobs = [];
}
no_job = refl

no_job_filled : together shape three_leaves (puts 1 11 ∷ []) 1 Absorb ≡ absorb meaning shape three_leaves (puts 1 11 ∷ [])
no_job_filled = refl

-- ---- seven levels, with messages that go down the left: at depth 6 the path of a job has six numbers

abbrev below_left : Tree ℤ Change → Tree ℤ Change
below_left t = inner (node [] t (node (k 9) (leaf (entry 9 90 ∷ [])) none)) []

abbrev four_high : Tree ℤ Change
four_high = below_left (below_left (below_left (two 1 10 2 20)))

abbrev seven_high : Tree ℤ Change
seven_high = below_left (below_left (below_left four_high))

abbrev four_down : Messages Change
four_down = puts 1 11 ∷ dels 1 ∷ puts 2 21 ∷ dels 2 ∷ []

seven_levels_cut_3 : (cut_of shape seven_high four_down 3 Absorb).jobs ≡ job (0 ∷ 0 ∷ 0 ∷ []) Absorb four_high four_down ∷ []
seven_levels_cut_3 = refl

seven_levels_cut_6 : (cut_of shape seven_high four_down 6 Absorb).jobs ≡ job (0 ∷ 0 ∷ 0 ∷ 0 ∷ 0 ∷ 0 ∷ []) Absorb (two 1 10 2 20) four_down ∷ []
seven_levels_cut_6 = refl

seven_levels_filled_6 : together shape seven_high four_down 6 Absorb ≡ absorb meaning shape seven_high four_down
seven_levels_filled_6 = refl

-- ---- a buffer of 60 bytes; a put weighs 25 and a del 9

abbrev weighed : Shape
weighed = record { fanout = 4; buffer = 60; leaf = 2; measure = measures.Bytes }

-- weights 25 and 25: the root stays whole
within_bytes : cut_of weighed one_waits (puts 4 41 ∷ []) 1 Absorb ≡ record {
  holed = whole (inner (node [] (two 1 10 2 20) (node (k 3) (two 3 30 4 40) none)) (puts 1 11 ∷ puts 4 41 ∷ []));
  jobs = [];
}
within_bytes = refl

abbrev three_dels : Messages Change
three_dels = dels 3 ∷ dels 3 ∷ dels 4 ∷ []

-- weights 50 and 27, of two messages and three: the left child is flushed
heavier_has_fewer : cut_of weighed one_waits (puts 2 21 ∷ three_dels) 1 Absorb ≡ record {
  holed = opened (child [] (hole_at (0 ∷ [])) (child (k 3) (whole (two 3 30 4 40)) childless)) three_dels;
  jobs = job (0 ∷ []) Absorb (two 1 10 2 20) (puts 1 11 ∷ puts 2 21 ∷ []) ∷ [];
}
heavier_has_fewer = refl

heavier_has_fewer_filled : together weighed one_waits (puts 2 21 ∷ three_dels) 1 Absorb ≡ absorb meaning weighed one_waits (puts 2 21 ∷ three_dels)
heavier_has_fewer_filled = refl

-- if messages are counted, the right one
more_messages : (cut_of shape one_waits (puts 2 21 ∷ three_dels) 1 Absorb).jobs ≡ job (1 ∷ []) Absorb (two 3 30 4 40) three_dels ∷ []
more_messages = refl
