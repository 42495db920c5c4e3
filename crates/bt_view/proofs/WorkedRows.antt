-- Rows of an index, computed by the definitions themselves. Serves as a test of the definitions.
use Rattle.std.proofs.Common.{List, [], ◌∷◌, ℕ, ◌≡◌, refl, codes, pos}
use Rattle.std.specs.Prelude.{Ok, Err, Some, None}
use Rattle.bt_row.specs.Schemas.{Schema}
use Rattle.bt_value.specs.declared.refusal.Refusal.TheVariants.{BadField, Building, NoSuchColumn}
use Rattle.bt_value.specs.declared.value.Kind.TheVariants as kind
use Rattle.bt_value.specs.declared.value.Value.{Value}
use Rattle.bt_value.specs.declared.value.Value.TheVariants as value
use Rattle.bt_value.proofs.offered.OnLiterals.{values_on_literals}
use Rattle.bt_keycode.specs.Codes.{code_of, eight_bytes}
use Rattle.bt_message.specs.declared.measure.Measure.TheVariants as measures
use Rattle.bt_form.specs.Trees.{inner, leaf, node, none}
use Rattle.bt_fanout.specs.declared.cover.Cover.{Cover}
use Rattle.bt_fanout.specs.declared.cover.Cover.TheVariants.{UpTo, Whole}
use Rattle.bt_table.specs.Tables.{TableState, Intact, empty_table}
use Rattle.bt_view.specs.Groups.{sums}
use Rattle.bt_view.specs.RangeSums.{sums_between}
use Rattle.bt_view.specs.Ranges.{scan}
use Rattle.bt_view.specs.Usage.{usage_of}

-- a key, a number of each, and a place
abbrev stock : Schema
stock = record { columns = record { name = codes "id"; kind = kind.Int } ∷ record { name = codes "qty"; kind = kind.Int } ∷ record { name = codes "at"; kind = kind.Int } ∷ []; keys = 1 }

abbrev row : ℕ → ℕ → ℕ → List Value
row a b c = value.Int (pos a) ∷ value.Int (pos b) ∷ value.Int (pos c) ∷ []

abbrev at_key : ℕ → ℕ → List ℕ × List Value
at_key id qty = (code_of (value.Int (pos id) ∷ []), row id qty 7)

-- the rows 1,20,7 and 2,10,7 and 3,20,7, and an index on qty that includes the place
abbrev with_cover : Cover → TableState
with_cover cover = Intact (record (empty_table stock (record { fanout = 4; buffer = 3; leaf = 2; measure = measures.Messages })) {
  rows = at_key 1 20 ∷ at_key 2 10 ∷ at_key 3 20 ∷ [];
  indexes = record {
    name = codes "q";
    def = record { on = 1 ∷ []; include = 2 ∷ []; condition = None; keys = 1 };
    cover = cover;
    tree =
        (record { fanout = 4; buffer = 3; leaf = 2; measure = measures.Messages }, leaf []);
  } ∷ [];
})

-- the columns that it is ordered by, those of the key, and the included ones; in ascending order of qty, and then of the key
pub rows_of_index : scan (with_cover Whole) (codes "q") None None ≡ Ok (row 10 2 7 ∷ row 20 1 7 ∷ row 20 3 7 ∷ [])
unfolding eight_bytes values_on_literals
rows_of_index = refl

-- from a qty on, and before a qty and a key
pub range_of_index : scan (with_cover Whole) (codes "q") (Some (codes "20" ∷ [])) (Some (codes "20" ∷ codes "3" ∷ [])) ≡ Ok (row 20 1 7 ∷ [])
unfolding eight_bytes values_on_literals
range_of_index = refl

pub sums_of_index : sums (with_cover Whole) (codes "q") 1 (codes "id") None None
    ≡ Ok (record { group = value.Int (pos 10) ∷ []; count = 1; total = pos 2 } ∷ record { group = value.Int (pos 20) ∷ []; count = 2; total = pos 4 } ∷ [])
unfolding eight_bytes values_on_literals
sums_of_index = refl

-- from the key of a qty on
pub sums_of_keys : sums_between (with_cover Whole) (codes "q") 1 (codes "id") (record { from = Some (code_of (value.Int (pos 20) ∷ [])); to = None })
    ≡ Ok (record { group = value.Int (pos 20) ∷ []; count = 2; total = pos 4 } ∷ [])
unfolding eight_bytes values_on_literals
sums_of_keys = refl

-- all of these rows as one group, with the sum of a column; without a summed column it is their count, of no rows too
pub sum_of_range : sums_between (with_cover Whole) (codes "q") 0 (codes "id") (record { from = Some (code_of (value.Int (pos 20) ∷ [])); to = None })
    ≡ Ok (record { group = []; count = 2; total = pos 4 } ∷ [])
unfolding eight_bytes values_on_literals
sum_of_range = refl

pub count_of_range : sums_between (with_cover Whole) (codes "q") 0 [] (record { from = Some (code_of (value.Int (pos 20) ∷ [])); to = None })
    ≡ Ok (record { group = []; count = 2; total = pos 0 } ∷ [])
unfolding eight_bytes values_on_literals
count_of_range = refl

pub count_of_no_rows : sums_between (with_cover Whole) (codes "primary") 0 [] (record { from = Some (code_of (value.Int (pos 4) ∷ [])); to = None })
    ≡ Ok (record { group = []; count = 0; total = pos 0 } ∷ [])
unfolding eight_bytes values_on_literals
count_of_no_rows = refl

-- three rows in two leaves, and a message before them
pub usage_of_two_leaves : usage_of {V = ℕ} {M = ℕ} (inner (node [] (leaf ((1 ∷ [], 7) ∷ (2 ∷ [], 8) ∷ [])) (node (3 ∷ []) (leaf ((3 ∷ [], 9) ∷ [])) none)) ((2 ∷ [], 5) ∷ []))
    ≡ record { rows = 3; messages = 1; height = 2 }
usage_of_two_leaves = refl

-- a bad bound is refused before a building index, and that before a group of more columns than the key
pub wrong_bound : scan (with_cover (UpTo (code_of (value.Int (pos 3) ∷ [])))) (codes "q") None (Some (codes "x" ∷ [])) ≡ Err (BadField 2)
unfolding eight_bytes values_on_literals
wrong_bound = refl

pub still_building : sums (with_cover (UpTo (code_of (value.Int (pos 3) ∷ [])))) (codes "q") 3 (codes "id") None None ≡ Err Building
unfolding eight_bytes values_on_literals
still_building = refl

pub wide_group : sums (with_cover Whole) (codes "q") 3 (codes "id") None None ≡ Err NoSuchColumn
unfolding eight_bytes values_on_literals
wide_group = refl
