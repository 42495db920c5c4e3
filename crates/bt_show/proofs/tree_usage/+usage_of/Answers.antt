use Rattle.std.proofs.Common.{arith, rules, ◌-◌, ◌^◌, ◌≤◌, length, ap}
use Rattle.bt_form.specs.Walks.{children_of, messages_of, rows_of}
use Rattle.bt_show.specs.Usage.{leaf_rows, pending}
use Rattle.bt_show.proofs.Drawings.{child_below, highest_last, highest_next}
use Rattle.bt_show.proofs.Totals.{pending_listed, rows_listed, total_last, total_next}
use Rattle.bt_show.proofs.tree_usage.+usage_of.Goals as goal

pub usage_of-below-requires : goal.usage_of-below-requires
usage_of-below-requires g t c κs within = (omega (arith, child_below c.args.walk.now c.child-child.result c.loop-place.place c.child-child.ensures, c.decreases), within)

pub loop-place-preserved : goal.loop-place-preserved
loop-place-preserved g t c =
    let children = children_of c.args.walk.now in
    let place = c.loop-place.place in
    let child = c.child-child.result in
    let below = c.usage_of-below.ensures in (
      total_next leaf_rows children place child (length (rows_of c.args.walk.now)) (2 ^ 64 - 1) c.loop-place.rows c.saturating_add-rows.result c.usage_of-below.result.rows
          c.child-child.ensures c.loop-place.invariant.0 (ap (λ u. u.rows) below) c.saturating_add-rows.ensures,
      total_next pending children place child (length (messages_of c.args.walk.now)) (2 ^ 64 - 1) c.loop-place.messages c.saturating_add-messages.result c.usage_of-below.result.messages
          c.child-child.ensures c.loop-place.invariant.1 (ap (λ u. u.messages) below) c.saturating_add-messages.ensures,
      highest_next children place child (2 ^ 64 - 1) c.loop-place.highest c.max-highest.result c.usage_of-below.result.height
          c.child-child.ensures c.loop-place.invariant.2 (ap (λ u. u.height) below) c.max-highest.ensures,
    )

pub returns : goal.returns
returns g t c =
    let tree = c.args.walk.now in
    let past = c.loop-place-test.false in
    let all = c.child_count-place-end.ensures in
    let seen : length (children_of tree) ≤ c.loop-place.place = omega (arith, past, all) in
    let rows = total_last leaf_rows (children_of tree) c.loop-place.place (length (rows_of tree)) (leaf_rows tree) (2 ^ 64 - 1) c.loop-place.rows seen
    c.loop-place.invariant.0 (rows_listed tree) in
    let messages = total_last pending (children_of tree) c.loop-place.place (length (messages_of tree)) (pending tree) (2 ^ 64 - 1) c.loop-place.messages seen
    c.loop-place.invariant.1 (pending_listed tree) in
    let high = highest_last tree c.loop-place.place (2 ^ 64 - 1) c.loop-place.highest c.saturating_add.result seen c.loop-place.invariant.2 c.saturating_add.ensures in
    search (rules, rows, messages, high)
