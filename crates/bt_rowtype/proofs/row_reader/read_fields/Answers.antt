use Rattle.std.proofs.Common.{◌≢◌, ◌∙◌, ◌+◌, ◌++◌, ◌∷◌, [], List, sym, ap, length, take, drop, Err}
use Rattle.bt_value.specs.Results.{or_refused}
use Rattle.bt_value.specs.Values.{value_of}
use Rattle.bt_row.specs.Schemas.{values_of}
use Rattle.bt_value.specs.declared.refusal.Refusal.TheVariants.{BadField, OutOfMemory}
use Rattle.bt_value.specs.declared.value.Value.{Value}
use Rattle.std.specs.Prelude.{option_map}
use Rattle.bt_rowtype.proofs.Columnwise.{following, first_more, first_none}
use Rattle.bt_value.proofs.offered.Results.{none_read, some_read, option_none, option_some}
use Rattle.bt_value.proofs.offered.Exits.{answers_on_err}
use Rattle.bt_rowtype.proofs.row_reader.read_fields.Goals as goal

pub returns-in_err-push_field : goal.returns-in_err-push_field
returns-in_err-push_field c =
    let columns = c.args.columns.now in
    let fields = c.args.fields.now in
    let column = c.index-columns-place.result in
    let bad = BadField c.args.item in
    let row = c.loop-place.row in
    let e = c.in_err-push_field.field-0.0 in
    let spelled = value_of column.kind c.get.result.now in
    answers_on_err _ c.from_residual-in_err-push_field.result e c.from_residual-in_err-push_field.ensures.1
    (λ (memory : e ≢ OutOfMemory).
    let none = none_read bad e (option_map (λ (v : Value). row ++ v ∷ []) spelled) (c.in_err-push_field.ensures memory) in
    ap (or_refused bad)
    (c.loop-place.invariant ∙ first_none columns fields c.loop-place.place column row c.get.result.now c.loop-place-test.true c.requires
    (sym c.index-columns-place.is) c.get.ensures (option_none (λ (v : Value). row ++ v ∷ []) spelled none.0))
    ∙ ap Err none.1)

pub loop-place-preserved : goal.loop-place-preserved
loop-place-preserved c =
    let columns = c.args.columns.now in
    let fields = c.args.fields.now in
    let place = c.loop-place.place in
    let column = c.index-columns-place.result in
    let row = c.loop-place.row in
    let more = λ (v : Value). row ++ v ∷ [] in
    let spelled = value_of column.kind c.get.result.now in
    let value = option_some more spelled c.push_field.new.row (some_read (BadField c.args.item) (option_map more spelled) c.push_field.new.row c.in_ok-push_field.ensures) in
    c.loop-place.invariant ∙ first_more columns fields place column row value.0 c.get.result.now c.loop-place-test.true c.requires (sym c.index-columns-place.is) c.get.ensures value.1
    ∙ ap (λ (prefix : List Value). following prefix (values_of (drop (place + 1) columns) (drop (place + 1) (take (length columns) fields)))) value.2
