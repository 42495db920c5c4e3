use Rattle.bt_message.specs.Meanings.{meaning_of}
use Rattle.bt_laws.proofs.FlushBounds.{few, few_in_all, large}
use Rattle.bt_laws.proofs.flushes.flush_sizes.Goals as goal

pub returns-clause-large : goal.returns-clause-large
returns-clause-large g c = λ shape flush children. large (meaning_of g.V.Merge.terms) shape flush children

pub returns-clause-few : goal.returns-clause-few
returns-clause-few g c = λ shape tree packets has. few (meaning_of g.V.Merge.terms) shape tree packets has

pub returns-clause-in_all : goal.returns-clause-in_all
returns-clause-in_all g c = λ shape tree packets has. few_in_all (meaning_of g.V.Merge.terms) shape tree packets has
