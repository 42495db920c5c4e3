-- Groups after others: the last of the first ones and the first of the following ones. Serves the code that groups rows.
use Rattle.std.proofs.Common.{◌≡◌, ◌<◌, ◌-◌, ◌+◌, ℕ, zero, suc, ℤ, Bool, true, false, if◌then◌else◌, List, [], ◌∷◌, ◌++◌, Some}
use Rattle.std.proofs.Common.{None, option_map, get_or, set, take, length, append_assoc, refl, sym, subst, ap, ◌∙◌, arith}
use Rattle.std.proofs.lemmas.List.{length-set, take_more, take_more_set}
use Rattle.std.proofs.Math.Seq.{take-length}
use Rattle.bt_value.specs.Values.{same_values}
use Rattle.bt_value.specs.declared.value.Value.{Value}
use Rattle.bt_value.proofs.offered.SameValues.{same_values-complete, same_values-sound}
use Rattle.bt_show.specs.inside.Fronts.{IsLastOf}
use Rattle.bt_show.specs.inside.Neighbours.{AreBounded, Groups, IsBounded, groups_then, with_more}
use Rattle.bt_show.specs.declared.groups.Sum.{Sum}
use Rattle.bt_show.proofs.Fronts.{same_last}

-- those before the last stay
pub last_then : (sums : List Sum) (last : Sum) (following : List Sum) → groups_then (sums ++ last ∷ []) following ≡ option_map (λ groups. sums ++ groups) (groups_then (last ∷ []) following)
last_then [] last following = elim (groups_then (last ∷ []) following) as (λ z. z ≡ option_map (λ groups. groups) z) [ None ↦ refl | Some x ↦ refl ]
last_then (s ∷ []) last following = refl
last_then (s ∷ r ∷ sums) last following =
    ap (option_map (λ groups. s ∷ groups)) (last_then (r ∷ sums) last following)
    ∙ elim (groups_then (last ∷ []) following) as (λ z. option_map (λ groups. s ∷ groups) (option_map (λ groups. r ∷ (sums ++ groups)) z)
    ≡ option_map (λ groups. s ∷ r ∷ (sums ++ groups)) z) [ None ↦ refl | Some x ↦ refl ]

-- Groups with their last one, and the groups after them with their first one.
pub record AreFollowing (groups sums : List Sum) (last : Sum) (following : List Sum) (first : Sum) : Type 0 where
  pub begin : groups ≡ sums ++ last ∷ []
  pub some : 0 < length following
  pub one : first ≡ get_or following 0 first

abbrev by_test : Bool → Sum → Sum → List Sum → Groups
by_test same last first others = if same then option_map (λ both. both ∷ others) (with_more last first.count first.total) else Some (last ∷ first ∷ others)

module _ (groups sums : List Sum) (last : Sum) where
  opened : (same : Bool) (first : Sum) (others : List Sum) → groups ≡ sums ++ last ∷ [] → same_values last.group first.group ≡ same
      → groups_then groups (first ∷ others) ≡ option_map (λ groups. sums ++ groups) (by_test same last first others)
  opened same first others begin is =
      ap (λ all. groups_then all (first ∷ others)) begin ∙ last_then sums last (first ∷ others) ∙ ap (λ same. option_map (λ groups. sums ++ groups) (by_test same last first others)) is

  -- both are the same group, which would have too many rows
  pub last_over : (following : List Sum) (first : Sum) → AreFollowing groups sums last following first → same_values last.group first.group ≡ true
      → with_more last first.count first.total ≡ None → groups_then groups following ≡ None
  last_over [] first are is over = absurd (omega (arith, are.some))
  last_over (t ∷ ts) first are is over =
      opened true t ts are.begin (ap (λ (x : Sum). same_values last.group x.group) (sym are.one) ∙ is)
      ∙ ap (λ both. option_map (λ groups. sums ++ groups) (option_map (λ both. both ∷ ts) both)) (ap (λ (x : Sum). with_more last x.count x.total) (sym are.one) ∙ over)

  -- both are the same group
  pub last_same : (following : List Sum) (first both : Sum) → AreFollowing groups sums last following first → same_values last.group first.group ≡ true
      → with_more last first.count first.total ≡ Some both
      → groups_then groups following ≡ Some (sums ++ set following 0 both)
  last_same [] first both are is fits = absurd (omega (arith, are.some))
  last_same (t ∷ ts) first both are is fits =
      opened true t ts are.begin (ap (λ (x : Sum). same_values last.group x.group) (sym are.one) ∙ is)
      ∙ ap (λ both. option_map (λ groups. sums ++ groups) (option_map (λ both. both ∷ ts) both)) (ap (λ (x : Sum). with_more last x.count x.total) (sym are.one) ∙ fits)

  -- they are different groups
  pub last_other : (following : List Sum) (first : Sum) → AreFollowing groups sums last following first → same_values last.group first.group ≡ false
      → groups_then groups following ≡ Some ((sums ++ last ∷ []) ++ following)
  last_other [] first are is = absurd (omega (arith, are.some))
  last_other (t ∷ ts) first are is =
      opened false t ts are.begin (ap (λ (x : Sum). same_values last.group x.group) (sym are.one) ∙ is) ∙ ap Some (sym (append_assoc sums (last ∷ []) (t ∷ ts)))

-- ---- the last of groups, by its place

module _ (groups : List Sum) (n : ℕ) (last : Sum) (long : n ≡ length groups) (some : 0 < n) where
  below : n - 1 < length groups
  below = omega (arith, long, some)

  up_to : n ≡ n - 1 + 1
  up_to = omega (arith, some)

  -- those before it, and itself
  pub begin_last : last ≡ get_or groups (n - 1) last → groups ≡ take (n - 1) groups ++ last ∷ []
  begin_last is =
      sym (take-length groups) ∙ ap (λ k. take k groups) (sym long ∙ up_to)
      ∙ take_more groups (n - 1) last below ∙ ap (λ (s : Sum). take (n - 1) groups ++ s ∷ []) (sym is)

  -- those before it, and another one in its place
  pub set_last : set groups (n - 1) last ≡ take (n - 1) groups ++ last ∷ []
  set_last =
      sym (take-length (set groups (n - 1) last)) ∙ ap (λ k. take k (set groups (n - 1) last)) (length-set groups (n - 1) last ∙ sym long ∙ up_to)
      ∙ take_more_set groups (n - 1) last below

module _ (groups : List Sum) (n : ℕ) (last : Sum) (long : n ≡ length groups) (some : 0 < n) (is : last ≡ get_or groups (n - 1) last) where
  begin : groups ≡ take (n - 1) groups ++ last ∷ []
  begin = begin_last groups n last long some is

  -- a row of its values is of it
  pub of_last : (values : List Value) → same_values last.group values ≡ true → IsLastOf values (Some groups)
  of_last values same = (take (n - 1) groups, last, (begin, same_values-sound last.group values same))

  -- a group of other values comes after it
  pub after_last : (own : Sum) → same_values last.group own.group ≡ false → groups_then groups (own ∷ []) ≡ Some (groups ++ own ∷ [])
  after_last own other =
      last_other groups (take (n - 1) groups) last (own ∷ []) own (record { begin = begin; some = omega arith; one = refl }) other
      ∙ ap (λ all. Some (all ++ own ∷ [])) (sym begin)

  -- one more row is counted to it, unless it has too many
  pub counted_last : (values : List Value) (number : ℤ) (fits : Bool) (both : Sum) → IsLastOf values (Some groups)
      → (fits ≡ false → with_more last 1 number ≡ None) → (fits ≡ true → with_more last 1 number ≡ Some both)
      → groups_then groups (record { group = values; count = 1; total = number } ∷ []) ≡ (if fits then Some (set groups (n - 1) both) else None)
  counted_last values number fits both own over counted = by_fit fits over counted
    where
      one : Sum
      one = record { group = values; count = 1; total = number }

      are : AreFollowing groups (take (n - 1) groups) last (one ∷ []) one
      are = record { begin = begin; some = omega arith; one = refl }

      same : same_values last.group values ≡ true
      same = same_values-complete last.group values (same_last groups (take (n - 1) groups) last values begin own)

      by_fit : (fits : Bool) → (fits ≡ false → with_more last 1 number ≡ None) → (fits ≡ true → with_more last 1 number ≡ Some both)
          → groups_then groups (one ∷ []) ≡ (if fits then Some (set groups (n - 1) both) else None)
      by_fit true over counted =
          last_same groups (take (n - 1) groups) last (one ∷ []) one both are same (counted refl) ∙ ap Some (sym (set_last groups n both long some))
      by_fit false over counted = last_over groups (take (n - 1) groups) last (one ∷ []) one are same (over refl)

-- ---- totals

pub bounded-append : (sums more : List Sum) → AreBounded sums → AreBounded more → AreBounded (sums ++ more)
bounded-append [] more all others = others
bounded-append (s ∷ sums) more all others = (all.0, bounded-append sums more all.1 others)

pub bounded-parts : (sums more : List Sum) → AreBounded (sums ++ more) → AreBounded sums × AreBounded more
bounded-parts [] more all = (tt, all)
bounded-parts (s ∷ sums) more all = ((all.0, (bounded-parts sums more all.1).0), (bounded-parts sums more all.1).1)

pub bounded-set : (sums : List Sum) (place : ℕ) (one : Sum) → AreBounded sums → IsBounded one.count one.total → AreBounded (set sums place one)
bounded-set [] place one all own = tt
bounded-set (s ∷ sums) zero one all own = (own, all.1)
bounded-set (s ∷ sums) (suc place) one all own = (all.0, bounded-set sums place one all.1 own)

pub last-bounded : (groups sums : List Sum) (last : Sum) → groups ≡ sums ++ last ∷ [] → AreBounded groups → AreBounded sums × IsBounded last.count last.total
last-bounded groups sums last begin all = let parts = bounded-parts sums (last ∷ []) (subst AreBounded begin all) in (parts.0, parts.1.0)
