use Rattle.std.proofs.Common.{rules, ◌≡◌, ◌∙◌, ◌<◌, ◌==◌, ◌++◌, ◌∷◌, [], Bool, List, None, Some, ap, arith, false, length, set, subst, sym, true, ℕ}
use Rattle.std.proofs.lemmas.Bool.Decides.{nat_tests}
use Rattle.bt_value.specs.Values.{same_values}
use Rattle.bt_show.specs.inside.GroupParts.{none_then}
use Rattle.bt_show.specs.inside.Neighbours.{AreBounded, groups_then, with_more}
use Rattle.bt_show.specs.declared.groups.Sum.{Sum}
use Rattle.bt_show.proofs.offered.LastGroup.{bounded-append, bounded-set, last-bounded, last_other, last_over, last_same}
use Rattle.bt_show.proofs.groups.add_groups.Goals as goal

some_are : (following : List Sum) (n : ℕ) (b : Bool) → b ≡ false → b ≡ (n == 0) → n ≡ length following → 0 < length following
some_are following n b e f l = grind (arith, nat_tests)

none_are : (groups following : List Sum) (n : ℕ) (b : Bool) → b ≡ true → b ≡ (n == 0) → n ≡ length following → groups_then groups following ≡ Some groups
none_are groups [] n b e f l = none_then groups
none_are groups (t ∷ ts) n b e f l = absurd (grind (arith, nat_tests))

pub returns-then-is_empty-clause-groups : goal.returns-then-is_empty-clause-groups
returns-then-is_empty-clause-groups c =
    none_are c.args.groups.now.items c.args.following.items c.args.following.len c.is_empty.result c.if-is_empty.true c.is_empty.ensures (omega (arith, c.args.following.ok))

pub count_rows-requires-clause-own : goal.count_rows-requires-clause-own
count_rows-requires-clause-own c = (last-bounded c.args.groups.now.items c.pop.new.self.items c.in-Some.last c.in-Some.ensures.items c.requires.groups).1

pub returns-then-not-count_rows-clause-bounded : goal.returns-then-not-count_rows-clause-bounded
returns-then-not-count_rows-clause-bounded c = (last-bounded c.args.groups.now.items c.pop.new.self.items c.in-Some.last c.in-Some.ensures.items c.requires.groups).0

pub returns-in_err-append-2-clause-bounded : goal.returns-in_err-append-2-clause-bounded
returns-in_err-append-2-clause-bounded c =
    let same : c.append-then-same_values.new.self.items ≡ c.pop.new.self.items = search rules in
    subst AreBounded (sym same) (last-bounded c.args.groups.now.items c.pop.new.self.items c.in-Some.last c.in-Some.ensures.items c.requires.groups).0

pub returns-then-not-count_rows-clause-groups : goal.returns-then-not-count_rows-clause-groups
returns-then-not-count_rows-clause-groups c =
    let within : 0 < length c.args.following.items =
    some_are c.args.following.items c.args.following.len c.is_empty.result c.if-is_empty.false c.is_empty.ensures (omega (arith, c.args.following.ok)) in
    let last = c.in-Some.last in
    let first = c.index-first.result.now in
    let is : same_values last.group first.group ≡ true = search rules in
    let over : with_more last first.count first.total ≡ None = search rules in
    last_over c.args.groups.now.items c.pop.new.self.items last c.args.following.items first (record { begin = c.in-Some.ensures.items; some = within; one = c.index-first.ensures }) is over

pub returns-then-same_values-clause-groups : goal.returns-then-same_values-clause-groups
returns-then-same_values-clause-groups c =
    let within : 0 < length c.args.following.items =
    some_are c.args.following.items c.args.following.len c.is_empty.result c.if-is_empty.false c.is_empty.ensures (omega (arith, c.args.following.ok)) in
    let last = c.in-Some.last in
    let first = c.index-first.result.now in
    let both = c.count_rows.new.sum in
    let is : same_values last.group first.group ≡ true = search rules in
    let fits : with_more last first.count first.total ≡ Some both = search rules in
    let came : c.append-then-same_values.new.self.items ≡ c.pop.new.self.items ++ set c.args.following.items 0 both = search rules in
    last_same c.args.groups.now.items c.pop.new.self.items last c.args.following.items first both (record {
      begin = c.in-Some.ensures.items;
      some = within;
      one =
          c.index-first.ensures;
    }) is fits ∙ ap Some (sym came)

pub returns-then-same_values-clause-bounded : goal.returns-then-same_values-clause-bounded
returns-then-same_values-clause-bounded c =
    let both = c.count_rows.new.sum in
    let before = (last-bounded c.args.groups.now.items c.pop.new.self.items c.in-Some.last c.in-Some.ensures.items c.requires.groups).0 in
    let came : c.append-then-same_values.new.self.items ≡ c.pop.new.self.items ++ set c.args.following.items 0 both = search rules in
    subst AreBounded (sym came)
    (bounded-append c.pop.new.self.items (set c.args.following.items 0 both) before (bounded-set c.args.following.items 0 both c.requires.following c.count_rows.ensures.bounded))

pub returns-clause-groups : goal.returns-clause-groups
returns-clause-groups c =
    let within : 0 < length c.args.following.items =
    some_are c.args.following.items c.args.following.len c.is_empty.result c.if-is_empty.false c.is_empty.ensures (omega (arith, c.args.following.ok)) in
    let last = c.in-Some.last in
    let first = c.index-first.result.now in
    let is : same_values last.group first.group ≡ false = search rules in
    last_other c.args.groups.now.items c.pop.new.self.items last c.args.following.items first (record { begin = c.in-Some.ensures.items; some = within; one = c.index-first.ensures }) is
    ∙ ap (λ groups. Some (groups ++ c.args.following.items)) (sym c.in_ok-push.ensures.items)
    ∙ ap Some (sym c.in_ok-append-3.ensures.items)

pub returns-clause-bounded : goal.returns-clause-bounded
returns-clause-bounded c =
    let all : AreBounded c.push.new.self.items = subst AreBounded (c.in-Some.ensures.items ∙ sym c.in_ok-push.ensures.items) c.requires.groups in
    subst AreBounded (sym c.in_ok-append-3.ensures.items) (bounded-append c.push.new.self.items c.args.following.items all c.requires.following)
