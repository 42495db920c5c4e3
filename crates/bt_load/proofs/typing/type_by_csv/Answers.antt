use Rattle.std.proofs.Common.{◌≡◌, ◌+◌, ◌<◌, ◌∙◌, [], drop, length, rules, slice_index_or, subst, sym, take, true}
use Rattle.std.proofs.lemmas.Bool.{false≢true}
use Rattle.bt_load.specs.Steps.{IsRowOrNone}
use Rattle.bt_load.proofs.Lefts.{row_of_first, taken_at}
use Rattle.bt_load.proofs.typing.type_by_csv.Goals.{then-reads+in-Ok-true, then-reads+in_default, then-reads+in_default-2, else-reads, then-reads-2, else-reads-2}
use Rattle.bt_load.proofs.typing.type_by_csv.Goals as goal

pub loop-offset-preserved : goal.loop-offset-preserved
loop-offset-preserved c =
    let columns = c.args.schema.now.columns in
    let records = c.args.records.now in
    let place = c.args.start + c.loop-offset.offset in
    let within : place < length records = search rules in
    let read : c.if-reads.reads ≡ true → (c.if-reads.fields ≡ take (length columns + 1) (slice_index_or records place [])) × (c.if-reads.reader ≡ drop (place + 1) records) = λ is.
    elim c.if-reads.branch [
      | then-reads+in-Ok-true w ↦
          let next = w.in-Ok-true.ensures.found w.in-Ok-true.field-0-test in
          let at = taken_at records c.loop-offset.reader w.next.new.self place next.0 within (c.loop-offset.invariant.here w.if-reads.true) next.1 in
          (w.fields-is ∙ next.2 ∙ (λ i. take (length (c.columns.ensures i) + 1) (at.0 i)), w.reader-is ∙ at.1)
      | then-reads+in_default w ↦ absurd (false≢true (sym w.reads-is ∙ is))
      | then-reads+in_default-2 w ↦ absurd (false≢true (sym w.reads-is ∙ is))
      | else-reads w ↦ absurd (false≢true (sym w.if-reads.false ∙ sym w.reads-is ∙ is))
    ] in
    let row : IsRowOrNone columns (slice_index_or records place []) c.if-reads-2.row = elim c.if-reads-2.branch [
      | then-reads-2 w ↦ subst (IsRowOrNone columns (slice_index_or records place [])) (sym w.row-is)
          (row_of_first columns (slice_index_or records place []) c.if-reads.fields _ (read w.if-reads-2.true).0 w.fields_row_or_none-row.ensures)
      | else-reads-2 w ↦ λ some. absurd (some (w.row-is ∙ w.new-row.ensures))
    ] in
    search rules
