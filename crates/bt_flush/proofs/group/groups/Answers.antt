use Rattle.std.proofs.Common.{◌∙◌, [], ap, arith, refl}
use Rattle.bt_form.specs.Deals.{even}
use Rattle.bt_form.specs.Flushes.{pivot_first}
use Rattle.bt_flush.proofs.lemmas.code.GroupLoops.{all_left, first_made, group_made, groups_done, groups_of, next_few, next_fits, next_some, rest_left}
use Rattle.bt_flush.proofs.group.groups.Goals as goal

pub next_group-requires-clause-some : goal.next_group-requires-clause-some
next_group-requires-clause-some g c =
    let cs = c.into_iter-rest.result in
    let left = all_left c.len-count.result c.args.many cs c.args.children c.requires.some c.requires.enough c.len-count.ensures c.into_iter-rest.ensures c.requires.divided c.requires.few in
    next_some c.size_at.result _ _ cs c.size_at.ensures left

pub next_group-requires-clause-few : goal.next_group-requires-clause-few
next_group-requires-clause-few g c =
    let cs = c.into_iter-rest.result in
    let left = all_left c.len-count.result c.args.many cs c.args.children c.requires.some c.requires.enough c.len-count.ensures c.into_iter-rest.ensures c.requires.divided c.requires.few in
    next_few c.size_at.result _ _ cs c.size_at.ensures left

pub next_group-requires-clause-enough : goal.next_group-requires-clause-enough
next_group-requires-clause-enough g c =
    let cs = c.into_iter-rest.result in
    let left = all_left c.len-count.result c.args.many cs c.args.children c.requires.some c.requires.enough c.len-count.ensures c.into_iter-rest.ensures c.requires.divided c.requires.few in
    next_fits c.size_at.result _ _ cs c.size_at.ensures left

pub loop-place-init : goal.loop-place-init
loop-place-init g c =
    let cs = c.into_iter-rest.result in
    let left = all_left c.len-count.result c.args.many cs c.args.children c.requires.some c.requires.enough c.len-count.ensures c.into_iter-rest.ensures c.requires.divided c.requires.few in
    let here = c.in_ok-first.ensures in
    record {
      made = first_made c.size_at.result _ _ cs c.size_at.ensures left _ _ _ _ here.node here.rest c.in_ok-siblings.ensures
          ∙ ap (λ ds. pivot_first [] (groups_of (even c.len-count.result c.args.many) ds)) c.into_iter-rest.ensures
          ∙ ap (λ j. pivot_first [] (groups_of (even j c.args.many) c.args.children)) c.len-count.ensures;
      left = rest_left c.size_at.result _ _ cs c.size_at.ensures left _ here.rest;
    }

pub next_group-requires-in-loop-place-clause-some : goal.next_group-requires-in-loop-place-clause-some
next_group-requires-in-loop-place-clause-some g c = next_some c.size_at-in-loop-place.result _ _ c.loop-place.rest c.size_at-in-loop-place.ensures c.loop-place.invariant.left

pub next_group-requires-in-loop-place-clause-few : goal.next_group-requires-in-loop-place-clause-few
next_group-requires-in-loop-place-clause-few g c = next_few c.size_at-in-loop-place.result _ _ c.loop-place.rest c.size_at-in-loop-place.ensures c.loop-place.invariant.left

pub next_group-requires-in-loop-place-clause-enough : goal.next_group-requires-in-loop-place-clause-enough
next_group-requires-in-loop-place-clause-enough g c = next_fits c.size_at-in-loop-place.result _ _ c.loop-place.rest c.size_at-in-loop-place.ensures c.loop-place.invariant.left

pub next_group-requires-in-loop-place-clause-divided : goal.next_group-requires-in-loop-place-clause-divided
next_group-requires-in-loop-place-clause-divided g c = c.loop-place.invariant.left.divided

pub loop-place-preserved : goal.loop-place-preserved
loop-place-preserved g c =
    let size = c.size_at-in-loop-place in
    let here = c.in_ok-pivot.ensures in
    record {
      made = group_made size.result _ _ c.loop-place.rest size.ensures c.loop-place.invariant.left c.loop-place.siblings _ _ _ _ here.node here.rest c.in_ok-push.ensures ∙ c.loop-place.invariant.made;
      left = rest_left size.result _ _ c.loop-place.rest size.ensures c.loop-place.invariant.left _ here.rest;
    }

pub returns : goal.returns
returns g c = groups_done c.len-count.result c.args.many c.loop-place.place c.loop-place.siblings _ c.loop-place.rest c.requires.some
    (omega (arith, c.loop-place-test.false)) c.loop-place.invariant.made

pub same-siblings : goal.same-siblings
same-siblings g c = refl

pub same-rest-in-loop-place : goal.same-rest-in-loop-place
same-rest-in-loop-place g c = refl

pub same-siblings-in-loop-place : goal.same-siblings-in-loop-place
same-siblings-in-loop-place g c = refl
