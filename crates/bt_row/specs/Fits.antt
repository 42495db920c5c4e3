-- Columns that are a schema, operations that fit a schema, and the ranges of their arguments.
use Rattle.std.specs.Prelude.{ℕ, ◌≡◌, ◌∷◌, true, List, [], None}
use Rattle.bt_row.specs.Ops.{argument_of, fault_of}
use Rattle.bt_row.specs.Schemas.{Schema, is_schema}
use Rattle.bt_row.specs.declared.operations.op.Op.{Op}
use Rattle.bt_row.specs.declared.rows.schema.Column.{Column}
use Rattle.bt_value.specs.Values.{IsInRange}

-- the columns, with this many of them as the key, are a schema
abbrev pub IsSchema : List Column → ℕ → Type 0
IsSchema columns keys = is_schema columns keys ≡ true

-- an operation has no fault in a schema, as any item
abbrev pub OpFits : Schema → Op → Type 0
OpFits schema op = (item : ℕ) → fault_of schema item op ≡ None

-- each of them fits
abbrev pub OpsFit : Schema → List Op → Type 0
OpsFit schema [] = Unit {0}
OpsFit schema (op ∷ ops) = OpFits schema op × OpsFit schema ops

-- the argument of an operation is within the range of its kind
abbrev pub OpInRange : Op → Type 0
OpInRange op = IsInRange (argument_of op)

-- each of the arguments is
abbrev pub OpsInRange : List Op → Type 0
OpsInRange [] = Unit {0}
OpsInRange (op ∷ ops) = OpInRange op × OpsInRange ops
