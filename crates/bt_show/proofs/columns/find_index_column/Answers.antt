use Rattle.std.proofs.Common.{◌≡◌, ◌∙◌, ◌<◌, ◌+◌, IfSome, None, Some, ap, arith, length, map, rules, subst, sym, take}
use Rattle.bt_row.specs.Ops.{named_from}
use Rattle.bt_show.specs.Ranges.{column_in}
use Rattle.bt_show.proofs.IndexColumns.{found_included, found_key, found_on, found_within, keys_long, later}
use Rattle.bt_show.proofs.columns.find_index_column.Goals as goal

pub returns-in-Some : goal.returns-in-Some
returns-in-Some c =
    let is : named_from 0 c.args.name.now (map (column_in c.args.schema.now.columns) c.args.def.now.on) ≡ Some c.in-Some.found = search rules in
    sym (found_on c.args.name.now c.args.schema.now c.args.def.now c.in-Some.found is)

pub overflow_add-result : goal.overflow_add-result
overflow_add-result c =
    let keys = c.key_columns-keys.result.now in
    let is : named_from 0 c.args.name.now keys ≡ Some (c.in-Some-find_column.place, c.in-Some-find_column.kind) = search rules in
    let within : c.in-Some-find_column.place < 0 + length keys = subst (λ o. IfSome o (λ f. f.0 < 0 + length keys)) is (found_within c.args.name.now 0 keys) in
    omega (arith, within)

pub returns-in-Some-find_column : goal.returns-in-Some-find_column
returns-in-Some-find_column c =
    let schema = c.args.schema.now in
    let def = c.args.def.now in
    let name = c.args.name.now in
    let none : named_from 0 name (map (column_in schema.columns) def.on) ≡ None = search rules in
    let is : named_from 0 name (take schema.keys schema.columns) ≡ Some (c.in-Some-find_column.place, c.in-Some-find_column.kind) = search rules in
    ap (λ n. Some (n + c.in-Some-find_column.place, c.in-Some-find_column.kind)) (ap length c.on-on.ensures)
    ∙ sym (found_key name schema def c.in-Some-find_column.place c.in-Some-find_column.kind none is)

pub returns-in_err-place : goal.returns-in_err-place
returns-in_err-place c =
    let schema = c.args.schema.now in
    let def = c.args.def.now in
    let name = c.args.name.now in
    let none : named_from 0 name (map (column_in schema.columns) def.on) ≡ None = search rules in
    let neither : named_from 0 name (take schema.keys schema.columns) ≡ None = search rules in
    let nowhere : named_from 0 name (map (column_in schema.columns) def.include) ≡ None = search rules in
    let result : c.from_residual.result ≡ None = search rules in
    result ∙ sym (found_included name schema def c.key_columns-keys.ensures.within none neither ∙ ap (later (length def.on + schema.keys)) nowhere)

pub returns : goal.returns
returns c =
    let schema = c.args.schema.now in
    let def = c.args.def.now in
    let name = c.args.name.now in
    let place = c.in_ok-place.place in
    let kind = c.in_ok-place.kind in
    let few = c.key_columns-keys.ensures.within in
    let none : named_from 0 name (map (column_in schema.columns) def.on) ≡ None = search rules in
    let neither : named_from 0 name (take schema.keys schema.columns) ≡ None = search rules in
    let is : named_from 0 name (map (column_in schema.columns) def.include) ≡ Some (place, kind) = search rules in
    let counted : length c.on-on.result.now + length c.key_columns-keys.result.now ≡ length def.on + schema.keys =
    omega (arith, ap length c.on-on.ensures, ap length c.key_columns-keys.ensures.value, keys_long schema few) in
    ap (λ n. Some (n + place, kind)) counted ∙ sym (found_included name schema def few none neither ∙ ap (later (length def.on + schema.keys)) is)
