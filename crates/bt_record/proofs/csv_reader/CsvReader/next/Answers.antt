use Rattle.std.proofs.Common.{◌≡◌, ◌∙◌, ap, drop, rules, sym}
use Rattle.std.proofs.lemmas.Bool.{false≢true}
use Rattle.csv.specs.Records.{fields_of}
use Rattle.bt_record.specs.inside.CsvReads.{records_left}
use Rattle.bt_record.proofs.CsvReads.{bytes_of, took, took_none}
use Rattle.bt_record.proofs.csv_reader.CsvReader.next.Goals.{then-found+in_ok-copy_fields, else-found}
use Rattle.bt_record.proofs.csv_reader.CsvReader.next.Goals as goal

pub returns-in_err-copy_fields-clause-err : goal.returns-in_err-copy_fields-clause-err
returns-in_err-copy_fields-clause-err c =
    let read = took c.self.inside.reader c.read_byte_record.new.self c.read_byte_record.result c.in-Ok.found _
    (record { each = c.self.invariant; is = c.in-Ok.is; failed = c.read_byte_record.ensures.failed; reads = c.in-Ok.ensures.reads }) c.if-found.true in
    let next : records_left bytes_of c.read_byte_record.new.self ≡ drop 1 c.args.self.now = ap (drop 1) (sym read ∙ c.self.view_is) in
    search rules

pub returns-clause-found : goal.returns-clause-found
returns-clause-found c is =
    let read = took c.self.inside.reader c.read_byte_record.new.self c.read_byte_record.result c.in-Ok.found _
    (record { each = c.self.invariant; is = c.in-Ok.is; failed = c.read_byte_record.ensures.failed; reads = c.in-Ok.ensures.reads }) is in
    elim c.if-found.branch [
      | then-found+in_ok-copy_fields w ↦ (fields_of c.read_byte_record.new.row, sym c.self.view_is ∙ read, w.fields-is ∙ w.in_ok-copy_fields.ensures)
      | else-found w ↦ absurd (false≢true (sym w.if-found.false ∙ is))
    ]

pub returns-clause-none : goal.returns-clause-none
returns-clause-none c is =
    sym c.self.view_is ∙ took_none c.self.inside.reader c.read_byte_record.new.self c.read_byte_record.result c.in-Ok.found _
    (record { each = c.self.invariant; is = c.in-Ok.is; failed = c.read_byte_record.ensures.failed; reads = c.in-Ok.ensures.reads }) is
