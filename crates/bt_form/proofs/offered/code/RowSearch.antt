-- What is found for a key among sorted rows from it on.
use Rattle.std.proofs.Common.{◌≡◌, ◌-◌, ℕ, zero, suc, Equal, not, cond, List, [], ◌∷◌, ap, drop, length, subst, sym, take, ◌∙◌}
use Rattle.std.proofs.lemmas.List.{take_rest}
use Rattle.std.specs.FinMap.{find, nat_cmp-IsAntisymmetric, slice_cmp-IsAntisymmetric}
use Rattle.std.specs.FinMap.Entries.{find-where_key}
use Rattle.std.specs.declared.option.Option.TheVariants.{None}
use Rattle.bt_keycode.specs.Keys.{IsSorted, Key, is_before, key_cmp}
use Rattle.bt_form.specs.Messages.{from}
use Rattle.bt_keycode.proofs.offered.Order.{not_before_itself}

module _ {X : Type 0} where
  sorted_drop : (n : ℕ) (xs : List (Key × X)) → IsSorted xs → IsSorted (drop n xs)
  sorted_drop zero xs sorted = sorted
  sorted_drop (suc n) [] sorted = tt
  sorted_drop (suc n) (x ∷ xs) sorted = sorted_drop n xs sorted.1

  pub sorted_rest : (n : ℕ) (xs : List (Key × X)) → IsSorted xs → IsSorted (take (length xs - n) (drop n xs))
  sorted_rest n xs sorted = subst (IsSorted {X = X}) (sym (take_rest xs n)) (sorted_drop n xs sorted)

  -- the entries from a place on, where the key's are
  pub later_entries : (k : Key) (n : ℕ) {xs all : List (Key × X)} → xs ≡ all → drop n xs ≡ from k xs → take (length xs - n) (drop n xs) ≡ from k all
  later_entries k n {xs} is e = take_rest xs n ∙ e ∙ ap (from k) is

  -- what is found among those from a key on is found among all
  pub found_from : (k : Key) (xs later : List (Key × X)) → later ≡ from k xs → find key_cmp k later ≡ find key_cmp k xs
  found_from k xs later is =
      let same : (j : Key) → key_cmp k j ≡ Equal → not (is_before j k) ≡ not (is_before k k) =
      λ j tied. ap (λ i. not (is_before i k)) (sym (slice_cmp-IsAntisymmetric nat_cmp-IsAntisymmetric k j tied)) in
      ap (find key_cmp k) is ∙ find-where_key key_cmp (λ j. not (is_before j k)) k same xs ∙ ap (λ b. cond (not b) (find key_cmp k xs) None) (not_before_itself k)
