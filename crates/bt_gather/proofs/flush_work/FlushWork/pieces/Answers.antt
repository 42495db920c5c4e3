use Rattle.std.proofs.Common.{◌∙◌, ap, arith, length}
use Rattle.std.proofs.lemmas.List.{length-map}
use Rattle.bt_message.specs.Meanings.{meaning_of}
use Rattle.bt_gather.specs.inside.Eithers.{either_map}
use Rattle.bt_gather.specs.inside.RoundJobs.{IsRunnable, piece_of}
use Rattle.bt_gather.proofs.Eithers.{all-hold, own-items}
use Rattle.bt_gather.proofs.flush_work.FlushWork.pieces.Goals as goal

pub job_values-requires-clause-accepts : goal.job_values-requires-clause-accepts
job_values-requires-clause-accepts g c κs within = all-hold IsRunnable IsRunnable c.args.rows.items c.args.entries.items c.requires.rows c.requires.entries c.in_ok-jobs.jobs.items c.in_ok-jobs.ensures

pub two_lists-requires : goal.two_lists-requires
two_lists-requires g c =
    let row = piece_of (meaning_of g.R.Merge.terms) in
    let entry = piece_of (meaning_of g.E.Merge.terms) in
    let own = own-items row entry c.args.rows.items c.args.entries.items c.in_ok-jobs.jobs.items c.in_ok-jobs.ensures c.in_ok-pieces.pieces.items
    (c.in_ok-pieces.ensures.values (either_map row entry) (λ job d e. e)) in
    record {
      rows = (c.in_ok-row_room.ensures.items, omega (arith, ap length own.rows, length-map c.args.rows.items row, c.len.ensures, c.args.rows.ok.0, c.in_ok-row_room.ensures.capacity));
      entries = (
        c.in_ok-entry_room.ensures.items,
        omega
            (arith, ap length own.entries, length-map c.args.entries.items entry, c.len-2.ensures, c.args.entries.ok.0, c.in_ok-entry_room.ensures.capacity),
      );
    }

pub returns : goal.returns
returns g c =
    let row = piece_of (meaning_of g.R.Merge.terms) in
    let entry = piece_of (meaning_of g.E.Merge.terms) in
    let own = own-items row entry c.args.rows.items c.args.entries.items c.in_ok-jobs.jobs.items c.in_ok-jobs.ensures c.in_ok-pieces.pieces.items
    (c.in_ok-pieces.ensures.values (either_map row entry) (λ job d e. e)) in
    record {
      rows = c.two_lists.ensures.rows ∙ own.rows;
      entries = c.two_lists.ensures.entries ∙ own.entries;
    }
