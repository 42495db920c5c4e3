use Rattle.std.proofs.Common.{rules, arith, length, subst, sym, Some, None}
use Rattle.std.proofs.lemmas.List.Sorted.{length_permutation}
use Rattle.std.specs.List.Sorted.{IsPermutation}
use Rattle.bt_load.specs.Steps.{AreAtTheirPlaces}
use Rattle.bt_load.specs.inside.Sorts.{IsFirstRepeat, placed_from}
use Rattle.bt_load.proofs.Repeats.{at_their_places, length-placed_from, repeat_refused, repeat_within, rises}
use Rattle.bt_load.proofs.placed.ordered_keys.Goals as goal

pub sort-requires-clause-places : goal.sort-requires-clause-places
sort-requires-clause-places g c = subst AreAtTheirPlaces (sym c.in_ok-placed.ensures) (at_their_places c.args.keys c.args.rows.now)

pub overflow_add-result : goal.overflow_add-result
overflow_add-result g c =
    let sorted = c.sort.new.placed.items in
    let moved : IsPermutation (placed_from c.args.keys 0 c.args.rows.now) sorted = subst (λ ps. IsPermutation ps sorted) c.in_ok-placed.ensures c.sort.ensures.permutation in
    let found : IsFirstRepeat sorted (length sorted) (Some c.in-Some.place) = search rules in
    let within = repeat_within c.args.keys c.args.rows.now sorted moved c.sort.ensures.sorted c.in-Some.place found in
    let long = length_permutation (placed_from c.args.keys 0 c.args.rows.now) sorted moved in
    let same = length-placed_from c.args.keys 0 c.args.rows.now in
    let vec = c.sort.new.placed.ok in
    let small = c.sort.new.placed.small in
    omega (arith, within, long, same, vec.0, vec.1, small)

pub returns-in-Some-clause-refused : goal.returns-in-Some-clause-refused
returns-in-Some-clause-refused g c =
    let sorted = c.sort.new.placed.items in
    let moved : IsPermutation (placed_from c.args.keys 0 c.args.rows.now) sorted = subst (λ ps. IsPermutation ps sorted) c.in_ok-placed.ensures c.sort.ensures.permutation in
    let found : IsFirstRepeat sorted (length sorted) (Some c.in-Some.place) = search rules in
    λ other. repeat_refused c.args.keys c.args.rows.now sorted moved c.sort.ensures.sorted c.in-Some.place found

pub returns-in-None-clause-rising : goal.returns-in-None-clause-rising
returns-in-None-clause-rising g c =
    let sorted = c.sort.new.placed.items in
    let found : IsFirstRepeat sorted (length sorted) None = search rules in
    rises sorted c.sort.ensures.sorted found
