-- A record encodes the message of the values that it is read as: to read it and then to check the values gives the same. Serves a law on records and values.
use Rattle.std.proofs.Common.{ℕ, suc, arith, ◌+◌, ◌-◌, ◌*◌, ◌%◌, ◌≤◌, ◌<◌, ◌≡◌, ◌∙◌, ◌==◌, Bool, true, false, List, [], ◌∷◌}
use Rattle.std.proofs.Common.{refl, sym, ap, drop, length, nat_le, take, ◌&&◌, Option, Some, None, Result, Ok, Err, if◌then◌else◌}
use Rattle.std.proofs.lemmas.Bool.Decides.{nat_tests}
use Rattle.std.proofs.lemmas.List.{length-drop}
use Rattle.std.specs.Cmp.Lexicographic.{as_long}
use Rattle.std.specs.List.{cons_option, filter_map}
use Rattle.std.specs.Result.{result_err, result_ok}
use Rattle.bt_value.specs.Refusals.{lowest}
use Rattle.bt_value.specs.Results.{all_read, and_then, both_read, map_ok, unless}
use Rattle.bt_value.specs.Values.{fits_kind}
use Rattle.bt_value.specs.declared.refusal.Refusal.{Refusal}
use Rattle.bt_value.specs.declared.refusal.Refusal.TheVariants.{BadField, BadLength}
use Rattle.bt_value.specs.declared.value.Value.{Value}
use Rattle.bt_value.proofs.offered.Results.{both_ok, unless_ok}
use Rattle.bt_value.proofs.offered.Tests.{both_true, first_true, second_true}
use Rattle.bt_row.specs.Fits.{OpsFit}
use Rattle.bt_row.specs.Ops.{checked_ops, fault_of, is_upsert, key_as, most_ops, ops_as, ops_of, upsert_as}
use Rattle.bt_row.specs.Schemas.{Schema, checked_as, fit_columns, read_as}
use Rattle.bt_row.specs.declared.operations.op.Op.{Op}
use Rattle.bt_row.specs.declared.rows.schema.Column.{Column}
use Rattle.bt_row.proofs.offered.Fits.{read_fits, upsert_fits}
use Rattle.bt_rowtype.specs.declared.item.Item.TheVariants.{Put, Del, Ups}
use Rattle.bt_batch.specs.Batches.{del_of, put_of, read_key, read_message, ups_of}
use Rattle.bt_batch.specs.Changes.{both_checked, checked_del, checked_put, checked_ups}
use Rattle.bt_batch.proofs.Batches.{none_at_all}

-- ---- rows and keys

-- a row that fits passes its check
passes : (columns : List Column) (item : ℕ) (row : List Value) → fit_columns columns row ≡ true → checked_as columns item row ≡ Ok tt
passes columns item row fits =
    let long : length columns ≡ length row = as_long (λ (c : Column) (v : Value). fits_kind c.kind v) columns row fits in
    let same : (length row == length columns) ≡ true = grind (arith, nat_tests) in
    ap (λ b. if b then (if fit_columns columns row then Ok tt else Err (BadField item)) else Err (BadLength item)) same
    ∙ ap (λ b. if b then Ok tt else Err (BadField item)) fits

pub put_as_values : (schema : Schema) (item : ℕ) (fields : List (List ℕ))
    → read_message schema item (Put fields) ≡ and_then (checked_put schema item) (read_as schema.columns item fields)
put_as_values schema item fields = by_read (read_as schema.columns item fields) refl
  where
    by_read : (read : Result (List Value) Refusal) → read_as schema.columns item fields ≡ read
        → map_ok (put_of schema.keys) read ≡ and_then (checked_put schema item) read
    by_read (Ok row) is = sym (ap (map_ok (λ _. put_of schema.keys row)) (passes schema.columns item row (read_fits schema.columns item fields row is)))
    by_read (Err refusal) is = refl

pub del_as_values : (schema : Schema) (item : ℕ) (fields : List (List ℕ))
    → read_message schema item (Del fields) ≡ and_then (checked_del schema item) (read_key schema item fields)
del_as_values schema item fields = by_read (read_key schema item fields) refl
  where
    columns : List Column
    columns = take schema.keys schema.columns

    by_read : (read : Result (List Value) Refusal) → read_key schema item fields ≡ read → map_ok del_of read ≡ and_then (checked_del schema item) read
    by_read (Ok key) is = sym (ap (map_ok (λ _. del_of key)) (passes columns item key (read_fits columns item fields key is)))
    by_read (Err refusal) is = refl

-- ---- upserts

-- operations that fit have no fault
no_faults : (schema : Schema) (item : ℕ) (ops : List Op) → OpsFit schema ops → filter_map (fault_of schema item) ops ≡ []
no_faults schema item [] fit = refl
no_faults schema item (op ∷ ops) fit = ap (λ fault. cons_option fault (filter_map (fault_of schema item) ops)) (fit.0 item) ∙ no_faults schema item ops fit.1

-- the number of groups of three fields
group_count : (schema : Schema) (item : ℕ) (fields : List (List ℕ))
    → (3 * length (ops_of schema item fields) ≤ length fields) × (length fields < 3 * length (ops_of schema item fields) + 3)
group_count schema item [] = (omega arith, omega arith)
group_count schema item (word ∷ []) = (omega arith, omega arith)
group_count schema item (word ∷ name ∷ []) = (omega arith, omega arith)
group_count schema item (word ∷ name ∷ argument ∷ fields) =
    let others = group_count schema item fields in
    let low = others.0 in
    let high = others.1 in
    (omega (arith, low), omega (arith, high))

-- if none is refused, each is read
each_read : {T : Type 0} (reads : List (Result T Refusal)) → filter_map result_err reads ≡ [] → length (filter_map result_ok reads) ≡ length reads
each_read [] none = refl
each_read (Ok value ∷ reads) none = ap suc (each_read reads none)
each_read (Err refusal ∷ reads) none = absurd cc

-- what is read is all that was read
unrefused : {T : Type 0} (refusal : Option Refusal) (value answer : T) → unless refusal value ≡ Ok answer → refusal ≡ None
unrefused None value answer is = refl
unrefused (Some refusal) value answer is = absurd cc

-- the record of an upsert encodes 1 to 16 operations
op_count : (schema : Schema) (item : ℕ) (fields : List (List ℕ)) (ops : List Op) → is_upsert schema.keys (length fields) ≡ true
    → all_read (ops_of schema item (drop schema.keys fields)) ≡ Ok ops → (nat_le 1 (length ops) && nat_le (length ops) most_ops) ≡ true
op_count schema item fields ops long is =
    let rest = drop schema.keys fields in
    let reads = ops_of schema item rest in
    let none = none_at_all (filter_map result_err reads) (unrefused (lowest (filter_map result_err reads)) (filter_map result_ok reads) ops is) in
    let count : length ops ≡ length reads =
    sym (ap length (unless_ok (lowest (filter_map result_err reads)) (filter_map result_ok reads) ops is)) ∙ each_read reads none in
    let groups = group_count schema item rest in
    let few = groups.0 in
    let many = groups.1 in
    let others : length rest ≡ length fields - schema.keys = length-drop schema.keys fields in
    let bounds = first_true (nat_le (schema.keys + 3) (length fields) && nat_le (length fields) (schema.keys + 3 * most_ops))
    ((length fields - schema.keys) % 3 == 0) long in
    let low_test = first_true (nat_le (schema.keys + 3) (length fields)) (nat_le (length fields) (schema.keys + 3 * most_ops)) bounds in
    let high_test = second_true (nat_le (schema.keys + 3) (length fields)) (nat_le (length fields) (schema.keys + 3 * most_ops)) bounds in
    let low : schema.keys + 3 ≤ length fields = grind (arith, nat_tests) in
    let high : length fields ≤ schema.keys + 48 = grind (arith, nat_tests) in
    let one : 1 ≤ length ops = omega (arith, count, few, many, others, low, high) in
    let most : length ops ≤ 16 = omega (arith, count, few, many, others, low, high) in
    both_true (nat_le 1 (length ops)) (nat_le (length ops) most_ops) (grind (arith, nat_tests)) (grind (arith, nat_tests))

-- an upsert that is read has its fields, and operations in them
upsert_ops : (schema : Schema) (item : ℕ) (fields : List (List ℕ)) (key : List Value) (ops : List Op) → upsert_as schema item fields ≡ Ok (key, ops)
    → (is_upsert schema.keys (length fields) ≡ true) × (all_read (ops_of schema item (drop schema.keys fields)) ≡ Ok ops)
upsert_ops schema item fields key ops is = by_length (is_upsert schema.keys (length fields)) refl is
  where
    by_length : (long : Bool) → is_upsert schema.keys (length fields) ≡ long
        → (if long then both_read (key_as schema item fields) (ops_as schema item fields) else Err (BadLength item)) ≡ Ok (key, ops)
        → (is_upsert schema.keys (length fields) ≡ true) × (all_read (ops_of schema item (drop schema.keys fields)) ≡ Ok ops)
    by_length false here read = absurd cc
    by_length true here read = (
      here,
      sym (ap (λ b. if b then all_read (ops_of schema item (drop schema.keys fields)) else Err (BadLength item)) here)
          ∙ (both_ok (key_as schema item fields) (ops_as schema item fields) key ops read).1,
    )

-- operations that are read pass their check
ops_pass : (schema : Schema) (item : ℕ) (ops : List Op) → (nat_le 1 (length ops) && nat_le (length ops) most_ops) ≡ true → OpsFit schema ops
    → checked_ops schema item ops ≡ Ok tt
ops_pass schema item ops count fit =
    ap (λ b. if b then unless (lowest (filter_map (fault_of schema item) ops)) tt else Err (BadLength item)) count
    ∙ ap (λ faults. unless (lowest faults) tt) (no_faults schema item ops fit)

pub ups_as_values : (schema : Schema) (item : ℕ) (fields : List (List ℕ)) → read_message schema item (Ups fields)
    ≡ and_then (λ (upsert : List Value × List Op). checked_ups schema item upsert.0 upsert.1) (upsert_as schema item fields)
ups_as_values schema item fields = by_read (upsert_as schema item fields) refl
  where
    by_read : (read : Result (List Value × List Op) Refusal) → upsert_as schema item fields ≡ read
        → map_ok (ups_of schema) read ≡ and_then (λ (upsert : List Value × List Op). checked_ups schema item upsert.0 upsert.1) read
    by_read (Ok upsert) is =
        let fits = upsert_fits schema item fields upsert.0 upsert.1 is in
        let here = upsert_ops schema item fields upsert.0 upsert.1 is in
        let key = passes (take schema.keys schema.columns) item upsert.0 fits.0 in
        let ops = ops_pass schema item upsert.1 (op_count schema item fields upsert.1 here.0 here.1) fits.1 in
        sym (λ i. map_ok (λ _. ups_of schema (upsert.0, upsert.1)) (both_checked (key i) (ops i)))
    by_read (Err refusal) is = refl
