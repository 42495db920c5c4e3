use Rattle.std.proofs.Common.{◌∙◌, ap}
use Rattle.csv.specs.Reading.{default_config, records}
use Rattle.bt_record.specs.inside.CsvReads.{records_after}
use Rattle.bt_record.proofs.Marks.{strip_none}
use Rattle.bt_record.proofs.csv_reader.CsvReader.new.Goals as goal

pub returns : goal.returns
returns c =
    let given = c.from_reader-reader.ensures in
    (λ i. records_after (given.state i) (given.source i)) ∙ ap (records default_config) (strip_none c.args.text.now c.requires)
