-- Small trees that are worked out here and in other crates.
use Rattle.std.specs.Prelude.{ℕ, [], ◌∷◌, ℤ, pos, neg_ℤ, ◌+ℤ◌}
use Rattle.std.specs.declared.option.Option.{Option}
use Rattle.std.specs.declared.option.Option.TheVariants.{None, Some}
use Rattle.bt_message.specs.Meanings.{Meaning, meaning_of}
use Rattle.bt_message.specs.Terms.{Terms}
use Rattle.bt_message.specs.declared.measure.Measure.TheVariants as measures
use Rattle.bt_message.specs.declared.message.Message.{Message}
use Rattle.bt_message.specs.declared.message.Message.TheVariants.{Put, Del, Ups}
use Rattle.bt_keycode.specs.Keys.{Key}
use Rattle.bt_form.specs.Trees.{Shape, Tree, leaf, inner, Nodes, none, node}

-- an upsert adds to the value, or to none
abbrev pub merged : Option ℤ → ℤ → ℤ
merged None n = n
merged (Some old) n = old +ℤ n

-- a message of these trees
abbrev pub Change : Type 0
Change = Message ℤ ℤ

-- besides its key of eight bytes a put carries 16, and an upsert 10
abbrev pub terms : Terms ℤ ℤ
terms = record { merged = merged; payload = λ value. 16; delta_payload = λ delta. 10 }

abbrev pub meaning : Meaning ℤ Change
meaning = meaning_of terms

-- the code of a number from 0 to 255, and of -1
abbrev pub k : ℕ → Key
k n = 128 ∷ 0 ∷ 0 ∷ 0 ∷ 0 ∷ 0 ∷ 0 ∷ n ∷ []

abbrev pub k_minus_1 : Key
k_minus_1 = 127 ∷ 255 ∷ 255 ∷ 255 ∷ 255 ∷ 255 ∷ 255 ∷ 255 ∷ []

abbrev pub minus_10 : ℤ
minus_10 = neg_ℤ (pos 10)

-- messages to a number's key, and a leaf's row
abbrev pub puts : ℕ → ℕ → Key × Change
puts n v = (k n, Put (pos v))

abbrev pub adds : ℕ → ℕ → Key × Change
adds n v = (k n, Ups (pos v))

abbrev pub dels : ℕ → Key × Change
dels n = (k n, Del)

abbrev pub entry : ℕ → ℕ → Key × ℤ
entry n v = (k n, pos v)

abbrev pub two : ℕ → ℕ → ℕ → ℕ → Tree ℤ Change
two a x b y = leaf (entry a x ∷ entry b y ∷ [])

-- at most four children, three pending messages, two rows
abbrev pub shape : Shape
shape = record { fanout = 4; buffer = 3; leaf = 2; measure = measures.Messages }

abbrev pub two_leaves : Nodes ℤ Change
two_leaves = node [] (two 1 10 2 20) (node (k 3) (two 3 30 4 40) none)

-- without pending messages, or with a put
abbrev pub split_leaf : Tree ℤ Change
split_leaf = inner two_leaves []

abbrev pub one_waits : Tree ℤ Change
one_waits = inner two_leaves (puts 1 11 ∷ [])

abbrev pub four_leaves : Tree ℤ Change
four_leaves = inner
    (node [] (two 1 10 2 20) (node (k 3) (two 3 30 4 40) (node (k 5) (two 5 50 6 60) (node (k 7) (leaf (entry 7 70 ∷ [])) none))))
    (puts 1 11 ∷ [])

-- the children of a root with three leaves and two, each with a pending message
abbrev pub first_three : Tree ℤ Change
first_three = inner (node [] (leaf ((k_minus_1, minus_10) ∷ entry 0 0 ∷ [])) (node (k 1) (two 1 11 2 20) (node (k 3) (two 3 30 4 40) none))) (puts 4 44 ∷ [])

abbrev pub last_two : Tree ℤ Change
last_two = inner (node [] (two 5 50 6 60) (node (k 7) (leaf (entry 7 70 ∷ [])) none)) (puts 8 80 ∷ [])

abbrev pub three_high : Tree ℤ Change
three_high = inner (node [] first_three (node (k 5) last_two none)) []
