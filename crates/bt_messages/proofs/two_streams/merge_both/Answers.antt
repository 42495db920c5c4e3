use Rattle.std.proofs.Common.{◌++◌, arith}
use Rattle.bt_value.specs.Lists.{concatenation}
use Rattle.bt_messages.proofs.PacketMerges.{fewer_left, moved_count, moved_sorted, some_left}
use Rattle.bt_messages.proofs.RunLists.{run_sorted, whole_runs}
use Rattle.bt_messages.proofs.offered.Placed.{sorted-with_messages}
use Rattle.bt_messages.proofs.two_streams.merge_both.Goals as goal

pub room_for_one-requires-clause-sorted : goal.room_for_one-requires-clause-sorted
room_for_one-requires-clause-sorted g c =
    run_sorted (concatenation c.loop-runs.runs.items) c.loop-runs.run.items _ _ c.loop-runs.invariant.wanted
    (sorted-with_messages c.args.newer.now c.args.older.now c.len.ensures.sorted)

pub loop-runs-smaller-in-Some : goal.loop-runs-smaller-in-Some
loop-runs-smaller-in-Some g c = fewer_left c.loop-runs.older c.loop-runs.newer c.pop_first.new.older c.pop_first.new.newer c.in-Some.entry c.in-Some.ensures

pub loop-runs-smaller : goal.loop-runs-smaller
loop-runs-smaller g c = absurd (some_left c.loop-runs.older c.loop-runs.newer (c.are_both.ensures.both c.loop-runs-test.true) c.in_default.ensures)

pub loop-runs-preserved : goal.loop-runs-preserved
loop-runs-preserved g c = absurd (some_left c.loop-runs.older c.loop-runs.newer (c.are_both.ensures.both c.loop-runs-test.true) c.in_default.ensures)

pub add_run-requires-clause-sorted : goal.add_run-requires-clause-sorted
add_run-requires-clause-sorted g c = run_sorted (concatenation c.loop-runs.runs.items) c.loop-runs.run.items _ _ c.loop-runs.invariant.wanted
    (sorted-with_messages c.args.newer.now c.args.older.now c.len.ensures.sorted)

pub overflow_sub-count : goal.overflow_sub-count
overflow_sub-count g c =
    omega (
      arith,
      moved_count (concatenation c.loop-runs.runs.items ++ c.loop-runs.run.items) c.loop-runs.older c.loop-runs.newer c.args.older.now c.args.newer.now c.loop-runs.invariant.wanted,
      c.len.ensures.len,
      c.len-2.ensures.len,
      c.len-3.ensures.len,
      c.len-4.ensures.len,
    )

pub from_runs-requires : goal.from_runs-requires
from_runs-requires g c =
    let moved = concatenation c.loop-runs.runs.items ++ c.loop-runs.run.items in
    let counted = moved_count moved c.loop-runs.older c.loop-runs.newer c.args.older.now c.args.newer.now c.loop-runs.invariant.wanted in
    let sorted = moved_sorted moved c.loop-runs.older c.loop-runs.newer c.args.older.now c.args.newer.now c.loop-runs.invariant.wanted c.len.ensures.sorted in
    whole_runs c.new.result c.add_run.new.runs.items moved _ c.new.ensures c.in_ok-add_run.ensures.some sorted c.in_ok-add_run.ensures.concatenation
    (omega (arith, counted, c.len.ensures.len, c.len-2.ensures.len, c.len-3.ensures.len, c.len-4.ensures.len)) (omega (arith, c.requires, c.len.ensures.len, c.len-2.ensures.len))
