-- Worked loads, computed by the definitions. They test the definitions.
use Rattle.std.proofs.Common.{ℕ, List, [], ◌∷◌, ◌++◌, ◌≡◌, refl, codes}
use Rattle.std.specs.Prelude.{Ok, Err, pos}
use Rattle.std.specs.Char.{encode_utf8}
use Rattle.std.specs.Str.{chars, is_utf8}
use Rattle.bt_value.specs.declared.refusal.Refusal.TheVariants.{BadField, BadLength, BadSchema, DuplicateKey}
use Rattle.bt_row.specs.declared.rows.schema.Column.{Column}
use Rattle.bt_value.specs.declared.value.Kind.TheVariants as kind
use Rattle.bt_value.specs.declared.value.Value.{Value}
use Rattle.bt_value.specs.declared.value.Value.TheVariants as value
use Rattle.bt_value.proofs.offered.OnLiterals.{values_on_literals}
use Rattle.bt_keycode.specs.Keys.{Key}
use Rattle.bt_keycode.specs.Codes.{eight_bytes}
use Rattle.bt_load.specs.Loads.{text_rows}
use Rattle.bt_load.specs.Maps.{map_of}

-- a key and a name
abbrev columns : List Column
columns = record { name = codes "id"; kind = kind.Int } ∷ record { name = codes "name"; kind = kind.Text } ∷ []

abbrev row : ℕ → List ℕ → List Value
row n name = value.Int (pos n) ∷ value.Text name ∷ []

abbrev key : ℕ → Key
key n = 128 ∷ 0 ∷ 0 ∷ 0 ∷ 0 ∷ 0 ∷ 0 ∷ n ∷ []

abbrev mark : List ℕ
mark = 239 ∷ 187 ∷ 191 ∷ []

-- ---- texts

pub header_alone : text_rows columns (codes "id,name\n") ≡ Ok []
unfolding values_on_literals
header_alone = refl

pub three_rows : text_rows columns (codes "id,name\n2,\"x,y\"\n1,a\n3,b\n") ≡ Ok (row 2 (codes "x,y") ∷ row 1 (codes "a") ∷ row 3 (codes "b") ∷ [])
unfolding values_on_literals chars encode_utf8 is_utf8
three_rows = refl

pub header_differs : text_rows columns (codes "id,nam\n1,a\n") ≡ Err BadSchema
unfolding values_on_literals
header_differs = refl

-- the names in another order
pub header_turned : text_rows columns (codes "name,id\n1,a\n") ≡ Err BadSchema
unfolding values_on_literals
header_turned = refl

pub no_header : text_rows columns [] ≡ Err BadSchema
unfolding values_on_literals
no_header = refl

pub one_mark : text_rows columns (mark ++ codes "id,name\r\n1,a\r\n") ≡ Ok (row 1 (codes "a") ∷ [])
unfolding values_on_literals chars encode_utf8 is_utf8
one_mark = refl

pub two_marks : text_rows columns (mark ++ mark ++ codes "id,name\n1,a\n") ≡ Err BadSchema
unfolding values_on_literals
two_marks = refl

-- the smallest number and not the first record
pub least_number : text_rows columns (codes "id,name\n1\nx,b\n1,c\n") ≡ Err (BadField 2)
unfolding values_on_literals chars encode_utf8 is_utf8
least_number = refl

-- records are counted after the header
pub short_record : text_rows columns (codes "id,name\n1,a\n1,b\n1\n") ≡ Err (BadLength 3)
unfolding values_on_literals chars encode_utf8 is_utf8
short_record = refl

-- ---- keys

pub by_rising_key : map_of 1 (row 2 (codes "x,y") ∷ row 1 (codes "a") ∷ row 3 (codes "b") ∷ [])
    ≡ Ok ((key 1, row 1 (codes "a")) ∷ (key 2, row 2 (codes "x,y")) ∷ (key 3, row 3 (codes "b")) ∷ [])
unfolding eight_bytes
by_rising_key = refl

-- the later record of the two, and the first of several
pub first_repeat : map_of 1 (row 1 (codes "a") ∷ row 2 (codes "b") ∷ row 1 (codes "c") ∷ row 2 (codes "d") ∷ row 1 (codes "e") ∷ []) ≡ Err (DuplicateKey 3)
unfolding eight_bytes
first_repeat = refl

-- a key of both columns
pub longer_key : map_of 2 (row 1 (codes "b") ∷ row 1 (codes "a") ∷ []) ≡ Ok ((key 1 ++ codes "a" ++ (0 ∷ 1 ∷ []), row 1 (codes "a")) ∷ (key 1 ++ codes "b" ++ (0 ∷ 1 ∷ []), row 1 (codes "b")) ∷ [])
unfolding eight_bytes
longer_key = refl
