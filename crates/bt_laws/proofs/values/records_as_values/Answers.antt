use Rattle.bt_batch.proofs.offered.RecordsAsValues.{del_as_values, put_as_values, ups_as_values}
use Rattle.bt_laws.proofs.values.records_as_values.Goals as goal

pub returns-clause-puts : goal.returns-clause-puts
returns-clause-puts c = put_as_values

pub returns-clause-dels : goal.returns-clause-dels
returns-clause-dels c = del_as_values

pub returns-clause-upserts : goal.returns-clause-upserts
returns-clause-upserts c = ups_as_values
