use Rattle.std.proofs.Common.{rules, ◌≡◌, ◌∙◌, ◌<◌, ◌-◌, ap, get_or, of_z, to_z}
use Rattle.std.specs.Int.{w128}
use Rattle.bt_show.specs.inside.Neighbours.{with_more}
use Rattle.bt_show.proofs.offered.LastGroup.{begin_last, bounded-set, counted_last, last-bounded}
use Rattle.bt_show.proofs.groups.count_in_last.Goals as goal

pub count_rows-requires-clause-own : goal.count_rows-requires-clause-own
count_rows-requires-clause-own c =
    let groups = c.args.groups.now in
    let last = c.in-Some.last.now in
    let some : 0 < groups.len = search rules in
    let is : last ≡ get_or groups.items (groups.len - 1) last = search rules in
    (last-bounded groups.items _ last (begin_last groups.items groups.len last groups.ok.0 some is) c.requires).1

pub returns-clause-groups : goal.returns-clause-groups
returns-clause-groups c = λ values own.
    let groups = c.args.groups.now in
    let last = c.in-Some.last.now in
    let some : 0 < groups.len = search rules in
    let is : last ≡ get_or groups.items (groups.len - 1) last = search rules in
    let number : c.args.number ≡ to_z w128 (of_z w128 c.from.result) = search rules in
    counted_last groups.items groups.len last groups.ok.0 some is values c.args.number c.count_rows.result c.count_rows.new.sum own
    (λ over. ap (with_more last 1) number ∙ c.count_rows.ensures.over over)
    (λ fits. ap (with_more last 1) number ∙ c.count_rows.ensures.counted fits)

pub returns-clause-bounded : goal.returns-clause-bounded
returns-clause-bounded c = bounded-set c.args.groups.now.items (c.args.groups.now.len - 1) c.count_rows.new.sum c.requires c.count_rows.ensures.bounded
