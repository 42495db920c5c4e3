-- Worked trees: small trees after packets, computed.
use Rattle.std.specs.Prelude.{◌≡◌, ℕ, true, false, List, [], ◌∷◌, ℤ, pos}
use Rattle.std.proofs.Common.{refl}
use Rattle.std.specs.declared.option.Option.{Option}
use Rattle.std.specs.declared.option.Option.TheVariants.{None, Some}
use Rattle.bt_message.specs.Effects.{effect_of}
use Rattle.bt_message.specs.Meanings.{Meaning, meaning_of}
use Rattle.bt_message.specs.Payloads.{row_terms}
use Rattle.bt_message.specs.declared.measure.Measure.TheVariants as measures
use Rattle.bt_message.specs.declared.message.Message.{Message}
use Rattle.bt_message.specs.declared.message.Message.TheVariants.{Put, Del, Ups}
use Rattle.bt_row.specs.Ops as ops
use Rattle.bt_row.specs.declared.operations.op.Op.TheVariants.{Add}
use Rattle.bt_value.specs.declared.value.Value.{Value}
use Rattle.bt_value.specs.declared.value.Value.TheVariants.{Int}
use Rattle.bt_keycode.specs.Codes as codes
use Rattle.bt_keycode.specs.Keys.{Key}
use Rattle.bt_form.specs.Messages.{rows_after}
use Rattle.bt_form.specs.Deals.{sizes}
use Rattle.bt_form.specs.Plans.{planned}
use Rattle.bt_form.specs.Marks.{flush_marks}
use Rattle.bt_form.specs.declared.mode.Mode.TheVariants.{Absorb, Drain}
use Rattle.bt_form.specs.Trees.{Shape, Tree, leaf, inner, Nodes, none, node}
use Rattle.bt_form.specs.Flushes.{sunk, holds}
use Rattle.bt_flush.specs.Drains.{drained, packed, rebuilt}
use Rattle.bt_read.specs.inside.Lookups.{tree_value}
use Rattle.bt_node.proofs.offered.SampleTrees.{Change, adds, dels, entry, four_leaves, k, k_minus_1, meaning, merged, minus_10, puts, shape, split_leaf, three_high, two, two_leaves}

abbrev effect : Option ℤ → Change → Option ℤ
effect = effect_of merged

abbrev empty : Tree ℤ Change
empty = leaf []

-- ---- dealing and planning

five_by_four : sizes 5 4 ≡ 3 ∷ 2 ∷ []
five_by_four = refl

none_by_four : sizes 0 4 ≡ 0 ∷ []
none_by_four = refl

fullest_first : planned (4 ∷ 2 ∷ 2 ∷ []) 3 ≡ 0 ∷ 1 ∷ []
fullest_first = refl

ties_go_left : planned (1 ∷ 3 ∷ 3 ∷ 2 ∷ []) 4 ≡ 1 ∷ 2 ∷ []
ties_go_left = refl

nothing_to_flush : planned (0 ∷ 0 ∷ []) 3 ≡ []
nothing_to_flush = refl

planned_are_marked : flush_marks Absorb 4 (1 ∷ 3 ∷ 3 ∷ 2 ∷ []) ≡ false ∷ true ∷ true ∷ false ∷ []
planned_are_marked = refl

all_are_marked : flush_marks Drain 4 (1 ∷ 0 ∷ []) ≡ true ∷ true ∷ []
all_are_marked = refl

-- ---- flushing

-- four rows split a leaf
four_puts : sunk meaning shape empty (puts 1 10 ∷ puts 2 20 ∷ puts 3 30 ∷ puts 4 40 ∷ []) ≡ split_leaf
four_puts = refl

-- with 2 messages each, the left child is flushed, and the right one's stay pending
tie_flushes_left : sunk meaning shape split_leaf (puts 1 11 ∷ puts 2 21 ∷ puts 3 31 ∷ puts 4 41 ∷ [])
    ≡ inner (node [] (two 1 11 2 21) (node (k 3) (two 3 30 4 40) none)) (puts 3 31 ∷ puts 4 41 ∷ [])
tie_flushes_left = refl

-- with 1 and 3 messages, the right child takes its three
fullest_is_right : sunk meaning shape (sunk meaning shape split_leaf (puts 5 50 ∷ puts 6 60 ∷ puts 1 11 ∷ [])) (puts 7 70 ∷ []) ≡ four_leaves
fullest_is_right = refl

-- the first child is flushed and splits; five children become three and two, and the buffer is divided
first_child_splits : sunk meaning shape four_leaves (puts 8 80 ∷ puts 0 0 ∷ (k_minus_1, Put minus_10) ∷ puts 4 44 ∷ []) ≡ three_high
first_child_splits = refl

-- the root sends three messages left, and that node sends two on
two_levels : sunk meaning shape three_high (puts 3 33 ∷ puts 2 22 ∷ puts 10 100 ∷ puts 1 12 ∷ []) ≡ inner
    (node [] (inner (node [] (leaf ((k_minus_1, minus_10) ∷ entry 0 0 ∷ [])) (node (k 1) (two 1 12 2 22) (node (k 3) (two 3 30 4 40) none))) (puts 3 33 ∷ puts 4 44 ∷ []))
    (node (k 5) (inner (node [] (two 5 50 6 60) (node (k 7) (leaf (entry 7 70 ∷ [])) none)) (puts 8 80 ∷ []))
    none)) (puts 10 100 ∷ [])
two_levels = refl

-- room for one message
buffer_of_one : sunk meaning (record { fanout = 4; buffer = 1; leaf = 2; measure = measures.Messages }) split_leaf (puts 1 11 ∷ puts 4 41 ∷ [])
    ≡ inner (node [] (two 1 11 2 20) (node (k 3) (two 3 30 4 40) none)) (puts 4 41 ∷ [])
buffer_of_one = refl

-- all messages go to the right child
right_takes_all : sunk meaning shape split_leaf (puts 3 31 ∷ puts 4 41 ∷ puts 5 51 ∷ puts 6 61 ∷ [])
    ≡ inner (node [] (two 1 10 2 20) (node (k 3) (two 3 31 4 41) (node (k 5) (two 5 51 6 61) none))) []
right_takes_all = refl

-- ---- upserts

-- at capacity nothing moves, and no two messages are joined
abbrev upserts_wait : Tree ℤ Change
upserts_wait = inner two_leaves (adds 1 5 ∷ adds 1 5 ∷ puts 4 0 ∷ [])

exact_capacity : sunk meaning shape split_leaf (adds 1 5 ∷ adds 1 5 ∷ puts 4 0 ∷ []) ≡ upserts_wait
exact_capacity = refl

-- both are added to the old value
both_added : tree_value effect (k 1) upserts_wait ≡ Some (pos 20)
both_added = refl

upserts_held : holds effect upserts_wait ≡ entry 1 20 ∷ entry 2 20 ∷ entry 3 30 ∷ entry 4 0 ∷ []
upserts_held = refl

-- one more, and the three go down to the left child
three_go_down : sunk meaning shape upserts_wait (adds 2 7 ∷ []) ≡ inner (node [] (two 1 20 2 27) (node (k 3) (two 3 30 4 40) none)) (puts 4 0 ∷ [])
three_go_down = refl

-- upserts after a put and a del
after_others : rows_after effect (puts 1 10 ∷ dels 1 ∷ adds 1 5 ∷ adds 1 6 ∷ []) (entry 1 1 ∷ []) ≡ entry 1 11 ∷ []
after_others = refl

-- rows of a number and a quantity, and upserts that add to the quantity
abbrev quantity : ℕ → ℕ → List Value
quantity n v = Int (pos n) ∷ Int (pos v) ∷ []

abbrev row_at : ℕ → ℕ → Key × List Value
row_at n v = (k n, quantity n v)

abbrev row_change : ℕ → ℕ → Key × Message (List Value) ops.Change
row_change n v = (k n, Ups (record { base = quantity n 0; ops = Add 1 (pos v) ∷ [] }))

abbrev row_put : ℕ → ℕ → Key × Message (List Value) ops.Change
row_put n v = (k n, Put (quantity n v))

abbrev row_meaning : Meaning (List Value) (Message (List Value) ops.Change)
row_meaning = meaning_of row_terms

abbrev row_leaves : Nodes (List Value) (Message (List Value) ops.Change)
row_leaves = node [] (leaf (row_at 1 10 ∷ row_at 2 20 ∷ [])) (node (k 3) (leaf (row_at 3 30 ∷ row_at 4 40 ∷ [])) none)

row_puts : sunk row_meaning shape (leaf []) (row_put 1 10 ∷ row_put 2 20 ∷ row_put 3 30 ∷ row_put 4 40 ∷ []) ≡ inner row_leaves []
row_puts = refl

row_changes_wait : sunk row_meaning shape (inner row_leaves []) (row_change 1 5 ∷ row_change 1 5 ∷ row_put 4 0 ∷ [])
    ≡ inner row_leaves (row_change 1 5 ∷ row_change 1 5 ∷ row_put 4 0 ∷ [])
row_changes_wait = refl

row_changed : tree_value (effect_of ops.merged) (k 1) (inner row_leaves (row_change 1 5 ∷ row_change 1 5 ∷ row_put 4 0 ∷ [])) ≡ Some (quantity 1 20)
row_changed = refl

row_changes_held : holds (effect_of ops.merged) (inner row_leaves (row_change 1 5 ∷ row_change 1 5 ∷ row_put 4 0 ∷ []))
    ≡ row_at 1 20 ∷ row_at 2 20 ∷ row_at 3 30 ∷ row_at 4 0 ∷ []
row_changes_held = refl

-- if there is no row, the default row is changed
row_begun : tree_value (effect_of ops.merged) (k 9) (inner row_leaves (row_change 9 7 ∷ [])) ≡ Some (quantity 9 7)
row_begun = refl

-- ---- buffers measured in bytes: a put weighs 25, a del 9, an upsert that adds 19

abbrev weighed : ℕ → Shape
weighed bytes = record { fanout = 4; buffer = bytes; leaf = 2; measure = measures.Bytes }

abbrev row_del : ℕ → Key × Message (List Value) ops.Change
row_del n = (k n, Del)

-- a leaf of two rows
abbrev row_two : ℕ → ℕ → ℕ → ℕ → Tree (List Value) (Message (List Value) ops.Change)
row_two a x b y = leaf (row_at a x ∷ row_at b y ∷ [])

abbrev two_rows_each : Tree (List Value) (Message (List Value) ops.Change) → Tree (List Value) (Message (List Value) ops.Change) → Nodes (List Value) (Message (List Value) ops.Change)
two_rows_each left right = node [] left (node (k 3) right none)

abbrev within_bytes : Tree (List Value) (Message (List Value) ops.Change)
within_bytes = inner row_leaves (row_put 1 11 ∷ row_put 4 41 ∷ [])

weights_within : sunk row_meaning (weighed 60) (inner row_leaves []) (row_put 1 11 ∷ row_put 4 41 ∷ []) ≡ within_bytes
unfolding codes.eight_bytes
weights_within = refl

-- weights 25 and 44
heavier_is_right : sunk row_meaning (weighed 60) within_bytes (row_change 3 1 ∷ []) ≡ inner (two_rows_each (row_two 1 10 2 20) (row_two 3 31 4 41)) (row_put 1 11 ∷ [])
unfolding codes.eight_bytes
heavier_is_right = refl

-- weights 50 and 27, of two messages and three
heavier_has_fewer : sunk row_meaning (weighed 60) (inner (two_rows_each (row_two 1 10 2 20) (row_two 3 31 4 41)) (row_put 1 11 ∷ [])) (row_put 2 21 ∷ row_del 3 ∷ row_del 4 ∷ row_del 3 ∷ [])
    ≡ inner (two_rows_each (row_two 1 11 2 21) (row_two 3 31 4 41)) (row_del 3 ∷ row_del 3 ∷ row_del 4 ∷ [])
unfolding codes.eight_bytes
heavier_has_fewer = refl

-- equal weights: the left child first
ties_within : sunk row_meaning (weighed 50) (inner row_leaves []) (row_put 1 12 ∷ row_put 4 42 ∷ []) ≡ inner row_leaves (row_put 1 12 ∷ row_put 4 42 ∷ [])
unfolding codes.eight_bytes
ties_within = refl

ties_flush_left : sunk row_meaning (weighed 49) (inner row_leaves []) (row_put 1 12 ∷ row_put 4 42 ∷ []) ≡ inner (two_rows_each (row_two 1 12 2 20) (row_two 3 30 4 40)) (row_put 4 42 ∷ [])
unfolding codes.eight_bytes
ties_flush_left = refl

one_byte : sunk row_meaning (weighed 1) (inner row_leaves []) (row_put 4 41 ∷ []) ≡ inner (two_rows_each (row_two 1 10 2 20) (row_two 3 30 4 41)) []
unfolding codes.eight_bytes
one_byte = refl

-- ---- what a tree holds

three_high_holds : holds effect three_high
    ≡ (k_minus_1, minus_10) ∷ entry 0 0 ∷ entry 1 11 ∷ entry 2 20 ∷ entry 3 30 ∷ entry 4 44 ∷ entry 5 50 ∷ entry 6 60 ∷ entry 7 70 ∷ entry 8 80 ∷ []
three_high_holds = refl

-- key 4's message is pending in an inner node, above its leaf; key 9 has nothing
looked_up : tree_value effect (k 4) three_high ≡ Some (pos 44)
looked_up = refl

not_there : tree_value effect (k 9) three_high ≡ None
not_there = refl

-- ---- nothing is pending

-- both messages have gone down: a new value at key 4, and one more row in the last leaf
abbrev dry_three_high : Tree ℤ Change
dry_three_high = inner
    (node [] (inner (node [] (leaf ((k_minus_1, minus_10) ∷ entry 0 0 ∷ [])) (node (k 1) (two 1 11 2 20) (node (k 3) (two 3 30 4 44) none))) [])
    (node (k 5) (inner (node [] (two 5 50 6 60) (node (k 7) (two 7 70 8 80) none)) [])
    none)) []

three_high_drained : drained meaning shape three_high ≡ dry_three_high
three_high_drained = refl

three_high_rebuilt : rebuilt effect shape dry_three_high ≡ dry_three_high
three_high_rebuilt = refl

four_packed : packed shape (entry 1 10 ∷ entry 2 20 ∷ entry 3 30 ∷ entry 4 40 ∷ []) ≡ split_leaf
four_packed = refl

none_packed : packed shape [] ≡ empty
none_packed = refl

-- dels are pending for all rows of a leaf, and a put past the last row
abbrev dels_wait : Tree ℤ Change
dels_wait = inner two_leaves (dels 1 ∷ dels 2 ∷ puts 5 50 ∷ [])

-- the left leaf stays, empty, and three rows split the right one
dels_drained : drained meaning shape dels_wait ≡ inner (node [] (leaf []) (node (k 3) (two 3 30 4 40) (node (k 5) (leaf (entry 5 50 ∷ [])) none))) []
dels_drained = refl

-- packed again, the empty leaf is gone
dels_rebuilt : rebuilt effect shape dels_wait ≡ inner (node [] (two 3 30 4 40) (node (k 5) (leaf (entry 5 50 ∷ [])) none)) []
dels_rebuilt = refl
