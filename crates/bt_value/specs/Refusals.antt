-- The table of refusals: number, name and item of each.
use Rattle.std.specs.Prelude.{ℕ, ◌==◌, Bool, List, [], ◌∷◌, codes, nat_lt, Option, Some, None, unwrap_or, if◌then◌else◌}
use Rattle.bt_value.specs.declared.refusal.Refusal.{Refusal}
use Rattle.bt_value.specs.declared.refusal.Refusal.TheVariants.{Syntax, Unfinished, NoTable, TableExists, BadSchema, BadField, BadLength, NoSuchTree, NameTaken}
use Rattle.bt_value.specs.declared.refusal.Refusal.TheVariants.{TooMany, Building, AlreadyComplete, NotEmpty, DuplicateKey, NoSuchColumn, NotInt, OutOfMemory}
use Rattle.bt_value.specs.declared.refusal.Refusal.TheVariants.{Failed, BadCrew, BadShape}

-- the number, 1 to 20
abbrev pub number_of : Refusal → ℕ
number_of Syntax = 1
number_of Unfinished = 2
number_of NoTable = 3
number_of TableExists = 4
number_of BadSchema = 5
number_of (BadField item) = 6
number_of (BadLength item) = 7
number_of NoSuchTree = 8
number_of NameTaken = 9
number_of TooMany = 10
number_of Building = 11
number_of AlreadyComplete = 12
number_of NotEmpty = 13
number_of (DuplicateKey item) = 14
number_of NoSuchColumn = 15
number_of NotInt = 16
number_of OutOfMemory = 17
number_of Failed = 18
number_of BadCrew = 19
number_of BadShape = 20

-- the name
abbrev pub name_of : Refusal → List ℕ
name_of Syntax = codes "Syntax"
name_of Unfinished = codes "Unfinished"
name_of NoTable = codes "NoTable"
name_of TableExists = codes "TableExists"
name_of BadSchema = codes "BadSchema"
name_of (BadField item) = codes "BadField"
name_of (BadLength item) = codes "BadLength"
name_of NoSuchTree = codes "NoSuchTree"
name_of NameTaken = codes "NameTaken"
name_of TooMany = codes "TooMany"
name_of Building = codes "Building"
name_of AlreadyComplete = codes "AlreadyComplete"
name_of NotEmpty = codes "NotEmpty"
name_of (DuplicateKey item) = codes "DuplicateKey"
name_of NoSuchColumn = codes "NoSuchColumn"
name_of NotInt = codes "NotInt"
name_of OutOfMemory = codes "OutOfMemory"
name_of Failed = codes "Failed"
name_of BadCrew = codes "BadCrew"
name_of BadShape = codes "BadShape"

-- the item at fault, if the refusal names one
abbrev pub item_of : Refusal → Option ℕ
item_of (BadField item) = Some item
item_of (BadLength item) = Some item
item_of (DuplicateKey item) = Some item
item_of other = None

-- whether this number is smaller than the other or, if the numbers are equal, this item
abbrev pub is_lower : Refusal → Refusal → Bool
is_lower a b = if number_of a == number_of b then nat_lt (unwrap_or (item_of a) 0) (unwrap_or (item_of b) 0) else nat_lt (number_of a) (number_of b)

-- which of two refusals is returned: the smaller, or the first if they are equal
abbrev pub lower : Refusal → Refusal → Refusal
lower a b = if is_lower b a then b else a

-- the least of a refusal found before, if there was one, and of others
abbrev pub lowest_from : Option Refusal → List Refusal → Option Refusal
lowest_from found [] = found
lowest_from None (refusal ∷ others) = lowest_from (Some refusal) others
lowest_from (Some found) (refusal ∷ others) = lowest_from (Some (lower found refusal)) others

-- which of the refusals that apply is returned, if any: the one with the smallest number and, of equal numbers, the smallest item
abbrev pub lowest : List Refusal → Option Refusal
lowest refusals = lowest_from None refusals
