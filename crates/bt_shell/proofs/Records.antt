-- The records of a batch are read the same at any place in a batch. Serves the law of how batches are cut.
use Rattle.std.proofs.Common.{ℕ, ◌≡◌, ◌∙◌, ◌+◌, ◌==◌, Bool, true, false, List, [], ◌∷◌, ◌++◌, drop, length, map, take, refl, sym, ap, Option, Some, None, option_map, Result, Ok, Err, if◌then◌else◌}
use Rattle.std.specs.Cmp.Lexicographic.{pointwise}
use Rattle.std.specs.List.{cons_option, filter_map}
use Rattle.std.specs.Result.{result_err, result_ok}
use Rattle.bt_row.specs.Arithmetic.{arithmetic_of_word, op_making}
use Rattle.bt_value.specs.Ints.{int_of}
use Rattle.bt_value.specs.Results.{all_read, both_read, unless, or_refused, map_ok}
use Rattle.bt_row.specs.Ops.{at_column, is_upsert, key_as, making_of, making_of_kind, number_op_of, op_of, open_column, ops_as, ops_of, set_of, set_word, upsert_as}
use Rattle.bt_value.specs.Refusals.{lowest, lowest_from, lower}
use Rattle.bt_row.specs.Schemas.{Schema, read_as, values_of}
use Rattle.bt_value.specs.Values.{value_of}
use Rattle.bt_rowtype.specs.declared.item.Item.{Item}
use Rattle.bt_rowtype.specs.declared.item.Item.TheVariants.{Put, Del, Ups}
use Rattle.bt_value.specs.declared.refusal.Refusal.{Refusal}
use Rattle.bt_value.specs.declared.refusal.Refusal.TheVariants.{BadField, BadLength}
use Rattle.bt_row.specs.declared.rows.schema.Column.{Column}
use Rattle.bt_row.specs.declared.operations.op.Arithmetic.{Arithmetic}
use Rattle.bt_row.specs.declared.operations.op.Op.TheVariants.{Set}
use Rattle.bt_value.specs.declared.value.Kind.{Kind}
use Rattle.bt_value.specs.declared.value.Kind.TheVariants as kind
use Rattle.bt_value.specs.declared.value.Value.{Value}
use Rattle.bt_batch.specs.Batches.{KeyedMessage, del_of, messages_of, put_of, read_batch, read_message, ups_of}
use Rattle.bt_script.specs.Commands.{all_some}

-- ---- the value of a result

ok_of_refused : {T : Type 0} (r s : Refusal) (o : Option T) → result_ok (or_refused r o) ≡ result_ok (or_refused s o)
ok_of_refused r s None = refl
ok_of_refused r s (Some x) = refl

ok_of_map : {A B : Type 0} (f : A → B) (read : Result A Refusal) → result_ok (map_ok f read) ≡ option_map f (result_ok read)
ok_of_map f (Ok x) = refl
ok_of_map f (Err r) = refl

map_alike : {A B : Type 0} (f : A → B) (a b : Result A Refusal) → result_ok a ≡ result_ok b → result_ok (map_ok f a) ≡ result_ok (map_ok f b)
map_alike f a b same = ok_of_map f a ∙ ap (option_map f) same ∙ sym (ok_of_map f b)

both : {S T : Type 0} → Option S → Option T → Option (S × T)
both (Some x) (Some y) = Some (x, y)
both (Some x) None = None
both None (Some y) = None
both None None = None

ok_of_both : {S T : Type 0} (a : Result S Refusal) (b : Result T Refusal) → result_ok (both_read a b) ≡ both (result_ok a) (result_ok b)
unfolding both
ok_of_both (Ok x) (Ok y) = refl
ok_of_both (Ok x) (Err s) = refl
ok_of_both (Err r) (Ok y) = refl
ok_of_both (Err r) (Err s) = refl

ok_of_found : {T : Type 0} (found : Refusal) (others : List Refusal) (value : T) → result_ok (unless (lowest_from (Some found) others) value) ≡ None
ok_of_found found [] value = refl
ok_of_found found (other ∷ others) value = ok_of_found (lower found other) others value

ok_of_unless : {S T : Type 0} (f : S → T) (refusal : Option Refusal) (value : S) → result_ok (unless refusal (f value)) ≡ option_map f (result_ok (unless refusal value))
ok_of_unless f None value = refl
ok_of_unless f (Some r) value = refl

ok_of_all : {T : Type 0} (results : List (Result T Refusal)) → result_ok (all_read results) ≡ all_some (map result_ok results)
ok_of_all [] = refl
ok_of_all (Err r ∷ others) = ok_of_found r (filter_map result_err others) (filter_map result_ok others)
ok_of_all {T} (Ok x ∷ others) =
    let with_first : List T → List T = λ xs. x ∷ xs in
    ok_of_unless with_first (lowest (filter_map result_err others)) (filter_map result_ok others) ∙ ap (option_map with_first) (ok_of_all others)

-- ---- operations

set_alike : (i j : ℕ) (argument : List ℕ) (column : Option (ℕ × Kind)) → result_ok (at_column (set_of i argument) column) ≡ result_ok (at_column (set_of j argument) column)
set_alike i j argument None = refl
set_alike i j argument (Some column) = ok_of_refused (BadField i) (BadField j) (option_map (Set column.0) (value_of column.1 argument))

making_kind_alike : (arithmetic : Arithmetic) (i j : ℕ) (argument : List ℕ) (place : ℕ) (k : Kind)
    → result_ok (making_of_kind arithmetic i argument place k) ≡ result_ok (making_of_kind arithmetic j argument place k)
making_kind_alike arithmetic i j argument place kind.Int = ok_of_refused (BadField i) (BadField j) (option_map (op_making arithmetic place) (int_of argument))
making_kind_alike arithmetic i j argument place other = refl

number_alike : (i j : ℕ) (argument : List ℕ) (column : Option (ℕ × Kind)) (arithmetic : Option Arithmetic)
    → result_ok (number_op_of i argument column arithmetic) ≡ result_ok (number_op_of j argument column arithmetic)
number_alike i j argument column None = refl
number_alike i j argument None (Some arithmetic) = refl
number_alike i j argument (Some column) (Some arithmetic) = making_kind_alike arithmetic i j argument column.0 column.1

op_alike : (schema : Schema) (i j : ℕ) (word name argument : List ℕ) → result_ok (op_of schema i word name argument) ≡ result_ok (op_of schema j word name argument)
op_alike schema i j word name argument =
    let column = open_column schema name in
    let arithmetic = arithmetic_of_word word in
    elim (pointwise ◌==◌ word set_word) as (λ (b : Bool). result_ok (if b then at_column (set_of i argument) column else number_op_of i argument column arithmetic)
    ≡ result_ok (if b then at_column (set_of j argument) column else number_op_of j argument column arithmetic)) [
      | true ↦ set_alike i j argument column
      | false ↦ number_alike i j argument column arithmetic
    ]

ops_alike : (schema : Schema) (i j : ℕ) (fields : List (List ℕ)) → map result_ok (ops_of schema i fields) ≡ map result_ok (ops_of schema j fields)
ops_alike schema i j [] = refl
ops_alike schema i j (word ∷ []) = refl
ops_alike schema i j (word ∷ name ∷ []) = refl
ops_alike schema i j (word ∷ name ∷ argument ∷ fields) =
    ap (λ o. o ∷ map result_ok (ops_of schema i fields)) (op_alike schema i j word name argument) ∙ ap (λ os. result_ok (op_of schema j word name argument) ∷ os) (ops_alike schema i j fields)

-- ---- records

as_alike : (columns : List Column) (i j : ℕ) (fields : List (List ℕ)) → result_ok (read_as columns i fields) ≡ result_ok (read_as columns j fields)
as_alike columns i j fields =
    elim (length fields == length columns) as (λ (b : Bool). result_ok (if b then or_refused (BadField i) (values_of columns fields) else Err (BadLength i))
    ≡ result_ok (if b then or_refused (BadField j) (values_of columns fields) else Err (BadLength j))) [
      | true ↦ ok_of_refused (BadField i) (BadField j) (values_of columns fields)
      | false ↦ refl
    ]

ops_as_alike : (schema : Schema) (i j : ℕ) (fields : List (List ℕ)) → result_ok (ops_as schema i fields) ≡ result_ok (ops_as schema j fields)
ops_as_alike schema i j fields =
    let ops = drop schema.keys fields in
    elim (is_upsert schema.keys (length fields)) as (λ (b : Bool). result_ok (if b then all_read (ops_of schema i ops) else Err (BadLength i))
    ≡ result_ok (if b then all_read (ops_of schema j ops) else Err (BadLength j))) [
      | true ↦ ok_of_all (ops_of schema i ops) ∙ ap all_some (ops_alike schema i j ops) ∙ sym (ok_of_all (ops_of schema j ops))
      | false ↦ refl
    ]

upsert_alike : (schema : Schema) (i j : ℕ) (fields : List (List ℕ)) → result_ok (upsert_as schema i fields) ≡ result_ok (upsert_as schema j fields)
upsert_alike schema i j fields =
    elim (is_upsert schema.keys (length fields)) as (λ (b : Bool). result_ok (if b then both_read (key_as schema i fields) (ops_as schema i fields) else Err (BadLength i))
    ≡ result_ok (if b then both_read (key_as schema j fields) (ops_as schema j fields) else Err (BadLength j))) [
      | true ↦ (
          ok_of_both (key_as schema i fields) (ops_as schema i fields)
          ∙ ap (λ o. both o (result_ok (ops_as schema i fields))) (ok_of_refused (BadField i) (BadField j) (values_of (take schema.keys schema.columns) (take schema.keys fields)))
          ∙ ap (both (result_ok (key_as schema j fields))) (ops_as_alike schema i j fields)
          ∙ sym (ok_of_both (key_as schema j fields) (ops_as schema j fields)))
      | false ↦ refl
    ]

record_alike : (schema : Schema) (i j : ℕ) (item : Item) → result_ok (read_message schema i item) ≡ result_ok (read_message schema j item)
record_alike schema i j (Put fields) = map_alike (put_of schema.keys) (read_as schema.columns i fields) (read_as schema.columns j fields) (as_alike schema.columns i j fields)
record_alike schema i j (Del fields) =
    let columns = take schema.keys schema.columns in
    map_alike del_of (read_as columns i fields) (read_as columns j fields) (as_alike columns i j fields)
record_alike schema i j (Ups fields) = map_alike (ups_of schema) (upsert_as schema i fields) (upsert_as schema j fields) (upsert_alike schema i j fields)

records_alike : (schema : Schema) (i j : ℕ) (items : List Item) → filter_map result_ok (read_batch schema i items) ≡ filter_map result_ok (read_batch schema j items)
records_alike schema i j [] = refl
records_alike schema i j (item ∷ items) =
    ap (λ o. cons_option o (filter_map result_ok (read_batch schema (i + 1) items))) (record_alike schema i j item)
    ∙ ap (cons_option (result_ok (read_message schema j item))) (records_alike schema (i + 1) (j + 1) items)

-- ---- batches one after the other

cons-append : {X : Type 0} (o : Option X) (xs ys : List X) → cons_option o (xs ++ ys) ≡ cons_option o xs ++ ys
cons-append None xs ys = refl
cons-append (Some x) xs ys = refl

messages-from : (schema : Schema) (i : ℕ) (first second : List Item)
    → filter_map result_ok (read_batch schema i (first ++ second)) ≡ filter_map result_ok (read_batch schema i first) ++ messages_of schema second
messages-from schema i [] second = records_alike schema i 1 second
messages-from schema i (item ∷ first) second =
    ap (cons_option (result_ok (read_message schema i item))) (messages-from schema (i + 1) first second)
    ∙ cons-append (result_ok (read_message schema i item)) (filter_map result_ok (read_batch schema (i + 1) first)) (messages_of schema second)

pub messages_of-append : (schema : Schema) (first second : List Item) → messages_of schema (first ++ second) ≡ messages_of schema first ++ messages_of schema second
messages_of-append schema first second = messages-from schema 1 first second
