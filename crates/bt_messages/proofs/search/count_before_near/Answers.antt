use Rattle.std.proofs.Common.{◌≡◌, ◌≤◌, ◌-◌, true, false, arith, drop, length, length-take, refl, rules, subst, sym, take}
use Rattle.std.proofs.lemmas.List.Sorted.{IsPartitionPoint-from_clause}
use Rattle.bt_keycode.specs.Keys.{AllFrom, is_before}
use Rattle.bt_messages.specs.inside.Brackets.{IsBracket}
use Rattle.bt_messages.proofs.Cuts.{parted}
use Rattle.bt_messages.proofs.DoublingSteps.{before_place, found_place, from_place, none_left, slice_sorted}
use Rattle.bt_messages.proofs.search.count_before_near.Goals as goal
use Rattle.bt_messages.proofs.search.count_before_near.Goals.{then-place-entries+then-eq, else-place-entries}
use Rattle.bt_messages.proofs.search.count_before_near.Goals.{else-place-entries-via-then-place-entries+else-eq, else-place-entries-via-else-place-entries}

pub bracket_above-requires-clause-bracket : goal.bracket_above-requires-clause-bracket
bracket_above-requires-clause-bracket g c =
    let at = c.index-entries-place in
    let sorted = c.requires.sorted in
    let here : is_before at.result.0 c.args.key.now ≡ true = search rules in
    record {
      order = omega (arith, c.if-place-entries.true);
      within = omega arith;
      before = before_place c.args.key.now c.args.place _ c.args.entries.now at.result sorted c.if-place-entries.true at.is here (omega arith);
      from = none_left c.args.key.now (length c.args.entries.now) c.args.entries.now (omega arith);
    }

pub bracket_below-requires-clause-bracket : goal.bracket_below-requires-clause-bracket
bracket_below-requires-clause-bracket g c =
    let key = c.args.key.now in
    let entries = c.args.entries.now in
    let rest : AllFrom key (drop c.min.result entries) = elim c.else-place-entries.branch [
      | else-place-entries-via-then-place-entries+else-eq w ↦
          let on : is_before w.index-entries-place.result.0 key ≡ false = search rules in
          let is : c.min.result ≡ c.args.place = omega (arith, c.min.ensures, w.if-place-entries.true) in
          let at = w.index-entries-place in
          let past = from_place key c.args.place entries at.result c.requires.sorted w.if-place-entries.true at.is on in
          subst (λ n. AllFrom key (drop n entries)) (sym is) past
      | else-place-entries-via-else-place-entries w ↦ none_left key c.min.result entries (omega (arith, c.min.ensures, w.if-place-entries.false))
    ] in
    record { order = omega arith; within = omega (arith, c.min.ensures); before = tt; from = rest }

pub returns : goal.returns
returns g c =
    let key = c.args.key.now in
    let entries = c.args.entries.now in
    let low = c.if-place-entries.low.0 in
    let high = c.if-place-entries.low.1 in
    let bracket : IsBracket key low high entries = elim c.if-place-entries.branch [
      | then-place-entries+then-eq w ↦ subst (λ p. IsBracket key p.0 p.1 entries) (sym w.low-is) w.bracket_above.ensures
      | else-place-entries w ↦ subst (λ p. IsBracket key p.0 p.1 entries) (sym w.low-is) w.bracket_below.ensures
    ] in
    let slice = take (high - low) (drop low entries) in
    let few : c.partition_point.result ≤ high - low = omega (arith, c.partition_point.ensures.bound, length-take (high - low) (drop low entries)) in
    let sorted = slice_sorted low (high - low) entries c.requires.sorted in
    let partitioned = c.partition_point.ensures.partitioned in
    let point = IsPartitionPoint-from_clause (λ m. is_before m.0 key) _ _ partitioned (parted key slice sorted) (λ a r q called. search rules) in
    let parts = found_place key low high c.partition_point.result entries slice bracket refl few point in
    record { bound = omega (arith, few, bracket.order, bracket.within); before = parts.0; from = parts.1 }
