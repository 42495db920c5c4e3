use Rattle.std.proofs.Common.{◌≡◌, ◌∙◌, ◌++◌, ap, arith, map, rules, sym, take, take_all}
use Rattle.bt_show.specs.Ranges.{column_in}
use Rattle.bt_show.proofs.IndexColumns.{kinds_are}
use Rattle.bt_show.proofs.columns.index_kinds.Goals as goal

pub returns : goal.returns
returns c =
    let schema = c.args.schema.now in
    let keys = c.key_columns-column-items.result.now in
    let on : c.in_ok-kinds.kinds.items ≡ map (λ place. (column_in schema.columns place).kind) c.args.def.now.on = search rules in
    let all : take c.loop-column.column-index keys ≡ keys = take_all c.loop-column.column-index keys (omega arith) in
    c.loop-column.invariant ∙ (λ i. on i ++ map (λ c. c.kind) (all i))
    ∙ ap (λ columns. map (λ place. (column_in schema.columns place).kind) c.args.def.now.on ++ map (λ c. c.kind) columns)
    c.key_columns-column-items.ensures.value
    ∙ sym (kinds_are schema c.args.def.now c.key_columns-column-items.ensures.within)
