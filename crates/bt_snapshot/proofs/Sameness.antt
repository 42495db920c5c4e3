-- Definitions are equal if the tests say so.
use Rattle.std.proofs.Common.{◌≡◌, ◌∙◌, ◌==◌, ◌&&◌, Bool, true, List, [], ◌∷◌, map, Option, None, Some, ap, refl, subst, sym, true≢false}
use Rattle.std.proofs.lemmas.Bool.{eqb-true}
use Rattle.std.specs.Cmp.Lexicographic.{pointwise, same_text}
use Rattle.bt_value.proofs.offered.Kinds.{same_kind-sound}
use Rattle.bt_value.proofs.offered.SameValues.{same_values-sound}
use Rattle.bt_value.proofs.offered.Tests.{first_true, second_true}
use Rattle.bt_value.specs.Values.{same_kind, same_values}
use Rattle.bt_value.specs.declared.value.Value.{Value}
use Rattle.bt_row.specs.Schemas.{Schema}
use Rattle.bt_row.specs.declared.rows.filter.Test.{Test}
use Rattle.bt_row.specs.declared.rows.filter.Test.TheVariants as test
use Rattle.bt_row.specs.declared.rows.schema.Column.{Column}
use Rattle.bt_message.specs.declared.measure.Measure.{Measure}
use Rattle.bt_message.specs.declared.measure.Measure.TheVariants as measure
use Rattle.bt_form.specs.Messages.{Rows}
use Rattle.bt_form.specs.Trees.{Shape}
use Rattle.bt_fanout.specs.Entries.{Definition}
use Rattle.bt_fanout.specs.declared.definition.Condition.{Condition}
use Rattle.bt_table.specs.Indexes.{Index}
use Rattle.bt_table.specs.Standing.{AreSoundIndexes, IsConsistent, IsSoundTable}
use Rattle.bt_table.specs.Tables.{Intact, PlainTable, TableState}
use Rattle.bt_snapshot.specs.Snapshots.{definitions_of, named_definition}
use Rattle.bt_snapshot.specs.inside.Compacting.{HaveSameDefinitions}
use Rattle.bt_snapshot.specs.inside.Sameness.{same_column, same_condition, same_conditions, same_definition, same_index, same_measure, same_schema, same_shape, same_table, same_test}

-- ---- columns and shapes

pointwise-sound : {A : Type 0} (same : A → A → Bool) → ((a b : A) → same a b ≡ true → a ≡ b) → (first second : List A) → pointwise same first second ≡ true → first ≡ second
pointwise-sound same sound [] [] is = refl
pointwise-sound same sound [] (b ∷ second) is = absurd (true≢false (sym is))
pointwise-sound same sound (a ∷ first) [] is = absurd (true≢false (sym is))
pointwise-sound same sound (a ∷ first) (b ∷ second) is =
    let one = sound a b (first_true (same a b) (pointwise same first second) is) in
    let others = pointwise-sound same sound first second (second_true (same a b) (pointwise same first second) is) in
    λ i. one i ∷ others i

same_column-sound : (a b : Column) → same_column a b ≡ true → a ≡ b
same_column-sound a b is =
    let name = same_text a.name b.name (sym (first_true (pointwise ◌==◌ a.name b.name) (same_kind a.kind b.kind) is)) in
    let kind = same_kind-sound a.kind b.kind (second_true (pointwise ◌==◌ a.name b.name) (same_kind a.kind b.kind) is) in
    λ i. record { name = name i; kind = kind i }

same_schema-sound : (a b : Schema) → same_schema a b ≡ true → a ≡ b
same_schema-sound a b is =
    let keys = eqb-true a.keys b.keys (first_true (a.keys == b.keys) (pointwise same_column a.columns b.columns) is) in
    let columns = pointwise-sound same_column same_column-sound a.columns b.columns (second_true (a.keys == b.keys) (pointwise same_column a.columns b.columns) is) in
    λ i. record { columns = columns i; keys = keys i }

same_measure-sound : (a b : Measure) → same_measure a b ≡ true → a ≡ b
same_measure-sound measure.Messages measure.Messages is = refl
same_measure-sound measure.Bytes measure.Bytes is = refl
same_measure-sound a b is = absurd cc

same_shape-sound : (a b : Shape) → same_shape a b ≡ true → a ≡ b
same_shape-sound a b is = by_tests (a.fanout == b.fanout) (a.buffer == b.buffer) (a.leaf == b.leaf) (same_measure a.measure b.measure) refl refl refl refl is
  where
    by_tests : (f g l m : Bool) → (a.fanout == b.fanout) ≡ f → (a.buffer == b.buffer) ≡ g → (a.leaf == b.leaf) ≡ l → same_measure a.measure b.measure ≡ m → (f && g && l && m) ≡ true → a ≡ b
    by_tests true true true true f g l m all =
        let fanout = eqb-true a.fanout b.fanout f in
        let buffer = eqb-true a.buffer b.buffer g in
        let leaf = eqb-true a.leaf b.leaf l in
        let measure = same_measure-sound a.measure b.measure m in
        λ i. record { fanout = fanout i; buffer = buffer i; leaf = leaf i; measure = measure i }
    by_tests f g l m x y z w all = absurd cc

-- ---- indexes

same_test-sound : (a b : Test) → same_test a b ≡ true → a ≡ b
same_test-sound test.Equal test.Equal is = refl
same_test-sound test.Less test.Less is = refl
same_test-sound test.AtLeast test.AtLeast is = refl
same_test-sound a b is = absurd cc

-- the only value of a list
only : (a b : Value) → a ∷ [] ≡ b ∷ [] → a ≡ b
only a b is = cc

same_condition-sound : (a b : Condition) → same_condition a b ≡ true → a ≡ b
same_condition-sound a b is = by_tests (a.place == b.place) (same_test a.test b.test) (same_values (a.constant ∷ []) (b.constant ∷ [])) refl refl refl is
  where
    by_tests : (p t v : Bool) → (a.place == b.place) ≡ p → same_test a.test b.test ≡ t → same_values (a.constant ∷ []) (b.constant ∷ []) ≡ v → (p && t && v) ≡ true → a ≡ b
    by_tests true true true p t v all =
        let place = eqb-true a.place b.place p in
        let test = same_test-sound a.test b.test t in
        let constant = only a.constant b.constant (same_values-sound (a.constant ∷ []) (b.constant ∷ []) v) in
        λ i. record { place = place i; test = test i; constant = constant i }
    by_tests p t v x y z all = absurd cc

same_conditions-sound : (a b : Option Condition) → same_conditions a b ≡ true → a ≡ b
same_conditions-sound None None is = refl
same_conditions-sound (Some a) (Some b) is = ap Some (same_condition-sound a b is)
same_conditions-sound None (Some b) is = absurd (true≢false (sym is))
same_conditions-sound (Some a) None is = absurd (true≢false (sym is))

same_definition-sound : (a b : Definition) → a.keys ≡ b.keys → same_definition a b ≡ true → a ≡ b
same_definition-sound a b keys is = by_tests (pointwise ◌==◌ a.on b.on) (pointwise ◌==◌ a.include b.include) (same_conditions a.condition b.condition) refl refl refl is
  where
    by_tests : (o n c : Bool) → pointwise ◌==◌ a.on b.on ≡ o → pointwise ◌==◌ a.include b.include ≡ n → same_conditions a.condition b.condition ≡ c → (o && n && c) ≡ true → a ≡ b
    by_tests true true true o n c all =
        let on = same_text a.on b.on (sym o) in
        let include = same_text a.include b.include (sym n) in
        let condition = same_conditions-sound a.condition b.condition c in
        λ i. record { on = on i; include = include i; condition = condition i; keys = keys i }
    by_tests o n c x y z all = absurd cc

-- indexes of tables with the same number of key columns have the same names and definitions
same_indexes-sound : (schema other : Schema) (shape form : Shape) (rows more : Rows (List Value)) (first second : List Index) → schema.keys ≡ other.keys → AreSoundIndexes schema shape rows first →
    AreSoundIndexes other form more second → pointwise same_index first second ≡ true → map named_definition first ≡ map named_definition second
same_indexes-sound schema other shape form rows more [] [] keys sound also is = refl
same_indexes-sound schema other shape form rows more [] (b ∷ second) keys sound also is = absurd (true≢false (sym is))
same_indexes-sound schema other shape form rows more (a ∷ first) [] keys sound also is = absurd (true≢false (sym is))
same_indexes-sound schema other shape form rows more (a ∷ first) (b ∷ second) keys sound also is =
    let one = first_true (same_index a b) (pointwise same_index first second) is in
    let name = same_text a.name b.name (sym (first_true (pointwise ◌==◌ a.name b.name) (same_definition a.def b.def) one)) in
    let def = same_definition-sound a.def b.def (sound.0.keys ∙ keys ∙ sym also.0.keys) (second_true (pointwise ◌==◌ a.name b.name) (same_definition a.def b.def) one) in
    let others = same_indexes-sound schema other shape form rows more first second keys sound.1 also.1 (second_true (same_index a b) (pointwise same_index first second) is) in
    λ i. (name i, def i) ∷ others i

-- ---- tables

same_table-sound : (a b : PlainTable) → IsSoundTable a → IsSoundTable b → same_table a b ≡ true → definitions_of a ≡ definitions_of b
same_table-sound a b sound also is = by_tests (same_schema a.schema b.schema) (same_shape a.shape b.shape) (pointwise same_index a.indexes b.indexes) refl refl refl is
  where
    by_tests : (c s x : Bool) → same_schema a.schema b.schema ≡ c → same_shape a.shape b.shape ≡ s → pointwise same_index a.indexes b.indexes ≡ x → (c && s && x) ≡ true →
        definitions_of a ≡ definitions_of b
    by_tests true true true c s x all =
        let schema = same_schema-sound a.schema b.schema c in
        let shape = same_shape-sound a.shape b.shape s in
        let keys = ap (λ (t : Schema). t.keys) schema in
        let indexes = same_indexes-sound a.schema b.schema a.shape b.shape a.rows b.rows a.indexes b.indexes keys sound.indexes also.indexes x in
        λ i. (schema i, shape i, indexes i)
    by_tests c s x d e f all = absurd cc

-- two tables that are as two plain ones have the same definitions
pub same_definitions : (old new : TableState) (first second : PlainTable) → IsConsistent old → IsConsistent new → old ≡ Intact first → new ≡ Intact second →
    same_table second first ≡ true → HaveSameDefinitions old new
same_definitions old new first second consistent also is are same =
    let sound = IsConsistent.sound (subst IsConsistent is consistent) in
    let sound_also = IsConsistent.sound (subst IsConsistent are also) in
    subst (λ (s : TableState). HaveSameDefinitions s new) (sym is)
    (subst (λ (s : TableState). HaveSameDefinitions (Intact first) s) (sym are) (same_table-sound second first sound_also sound same))
