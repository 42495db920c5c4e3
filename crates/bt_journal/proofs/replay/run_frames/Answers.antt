use Rattle.std.proofs.Common.{◌≡◌, ◌+◌, ℕ, drop, sym, ◌∙◌, ap, arith}
use Rattle.bt_journal.specs.Frames.{frame_size, next_seed, all_at, extent, seed_after}
use Rattle.bt_journal.specs.Stores.{after_all}
use Rattle.bt_journal.proofs.FrameLists.{fits, goes_on, ends}
use Rattle.bt_journal.proofs.replay.run_frames.Goals as goal

pub overflow_add-at-in-Some : goal.overflow_add-at-in-Some
overflow_add-at-in-Some g c = omega (arith, fits c.frames.next c.frames.at c.args.bytes.now c.in-Some.payload.now c.in-Some.ensures, c.frames.invariant.within)

pub frames-smaller : goal.frames-smaller
frames-smaller g c = omega (arith, fits c.frames.next c.frames.at c.args.bytes.now c.in-Some.payload.now c.in-Some.ensures, c.frames.invariant.within)

pub frames-preserved : goal.frames-preserved
unfolding extent seed_after
frames-preserved g c =
    let payload = c.in-Some.payload.now in
    let bytes = c.args.bytes.now in
    let found = fits c.frames.next c.frames.at bytes payload c.in-Some.ensures in
    let step = goes_on c.frames.next c.frames.at bytes payload c.in-Some.ensures in
    let rest = drop (c.frames.at + frame_size payload) bytes in
    let same : all_at c.next_seed-next.result rest ≡ all_at (next_seed c.frames.next payload) rest = ap (λ (seed : ℕ). all_at seed rest) c.next_seed-next.ensures in
    let more : extent (all_at c.frames.next (drop c.frames.at bytes)) ≡ frame_size payload + extent (all_at (next_seed c.frames.next payload) rest) = ap extent step in
    record {
      within = omega (arith, found, c.frames.invariant.within);
      rest = ap (after_all g.M.Machine.after c.run.new.self) same
          ∙ ap (λ (m : g.row.M.Denot). after_all g.M.Machine.after m (all_at (next_seed c.frames.next payload) rest)) c.in_ok-run.ensures.after
          ∙ sym (ap (after_all g.M.Machine.after c.frames.machine) step)
          ∙ c.frames.invariant.rest;
      end = omega (arith, more, ap extent same, c.frames.invariant.end);
      seed = ap (seed_after c.next_seed-next.result) same
          ∙ ap (λ (seed : ℕ). seed_after seed (all_at (next_seed c.frames.next payload) rest)) c.next_seed-next.ensures
          ∙ sym (ap (seed_after c.frames.next) step)
          ∙ c.frames.invariant.seed;
    }

pub returns-clause-state : goal.returns-clause-state
returns-clause-state g c = sym (ap (after_all g.M.Machine.after c.frames.machine) (ends c.frames.next c.frames.at c.args.bytes.now c.in_default.ensures)) ∙ c.frames.invariant.rest

pub returns-clause-end : goal.returns-clause-end
unfolding extent
returns-clause-end g c =
    let none : extent (all_at c.frames.next (drop c.frames.at c.args.bytes.now)) ≡ 0 = ap extent (ends c.frames.next c.frames.at c.args.bytes.now c.in_default.ensures) in
    omega (arith, none, c.frames.invariant.end)

pub returns-clause-seed : goal.returns-clause-seed
unfolding seed_after
returns-clause-seed g c = sym (ap (seed_after c.frames.next) (ends c.frames.next c.frames.at c.args.bytes.now c.in_default.ensures)) ∙ c.frames.invariant.seed
