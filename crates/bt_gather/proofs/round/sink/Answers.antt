use Rattle.std.proofs.Common.{◌∙◌}
use Rattle.bt_message.specs.Meanings.{meaning_of}
use Rattle.bt_gather.proofs.PieceShares.{trees-outcome}
use Rattle.bt_gather.proofs.SunkTrees.{all-sunk-fit, all-sunk-hold}
use Rattle.bt_gather.proofs.round.sink.Goals as goal

pub returns-clause-rows : goal.returns-clause-rows
returns-clause-rows g c =
    c.in_ok-rows-2.ensures
    ∙ (trees-outcome (meaning_of g.R.Merge.terms) c.in_ok-rows.rows.trees.items c.in_ok-rows.rows.jobs.items _ c.in_ok-rows.ensures.jobs
    c.in_ok-row_pieces.row_pieces.items c.in_ok-row_pieces.ensures.rows).1

pub returns-clause-entries : goal.returns-clause-entries
returns-clause-entries g c =
    c.in_ok-entries-2.ensures
    ∙ (trees-outcome (meaning_of g.E.Merge.terms) c.in_ok-entries.entries.trees.items c.in_ok-entries.entries.jobs.items _ c.in_ok-entries.ensures.jobs
    c.in_ok-row_pieces.entry_pieces.items c.in_ok-row_pieces.ensures.entries).1

pub returns-clause-fit : goal.returns-clause-fit
returns-clause-fit g c = (
  all-sunk-fit (meaning_of g.R.Merge.terms) c.args.rows.items c.in_ok-rows.ensures.fit c.in_ok-rows-2.rows.items (returns-clause-rows g c),
  all-sunk-fit (meaning_of g.E.Merge.terms) c.args.entries.items c.in_ok-entries.ensures.fit c.in_ok-entries-2.entries.items (returns-clause-entries g c),
)

pub returns-clause-hold : goal.returns-clause-hold
returns-clause-hold g c = (
  all-sunk-hold (meaning_of g.R.Merge.terms) c.args.rows.items c.in_ok-rows.ensures.fit c.in_ok-rows-2.rows.items (returns-clause-rows g c),
  all-sunk-hold (meaning_of g.E.Merge.terms) c.args.entries.items c.in_ok-entries.ensures.fit c.in_ok-entries-2.entries.items (returns-clause-entries g c),
)
