-- The fault of the first of several operations, or changes, is that of all of them. Serves the loops that read them.
use Rattle.std.proofs.Common.{ℕ, zero, suc, ◌≡◌, ◌<◌, ◌++◌, ◌∷◌, List, [], Err, ap, arith}
use Rattle.bt_row.specs.Schemas.{Schema}
use Rattle.bt_row.specs.declared.operations.op.Op.{Op}
use Rattle.bt_batch.specs.Changes.{Changes}
use Rattle.bt_packed.specs.Changes.{change_at, changes_from, op_at, ops_from}
use Rattle.bt_packed.specs.Layout.{then_read}
use Rattle.bt_packed.specs.Pieces.{some_from}
use Rattle.bt_packed.specs.declared.fault.Fault.{Fault}

pub first_op : (schema : Schema) (item left : ℕ) (ops : List Op) (bytes : List ℕ) (fault : Fault) → 0 < left → op_at schema item bytes ≡ Err fault
    → ops_from schema item left ops bytes ≡ Err fault
first_op schema item zero ops bytes fault some is = absurd (omega (arith, some))
first_op schema item (suc more) ops bytes fault some is = ap (then_read (λ read. ops_from schema item more (ops ++ read.0 ∷ []) read.1)) is

pub first_change : (left : ℕ) (changes : Changes) (bytes : List ℕ) (fault : Fault) → 0 < left → change_at changes bytes ≡ Err fault → changes_from left (changes, bytes) ≡ Err fault
first_change zero changes bytes fault some is = absurd (omega (arith, some))
first_change (suc more) changes bytes fault some is = ap (then_read (changes_from more)) is

pub first_some : (left : ℕ) (changes : Changes) (bytes : List ℕ) (fault : Fault) → 0 < left → change_at changes bytes ≡ Err fault → some_from left (changes, bytes) ≡ Err fault
first_some zero changes bytes fault some is = absurd (omega (arith, some))
first_some (suc more) changes bytes fault some is = ap (then_read (some_from more)) is
