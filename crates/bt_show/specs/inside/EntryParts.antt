-- If a visitor gets the same from rows in two parts as in one, it does so from the entries that show these rows.
use Rattle.std.proofs.Common.{◌≡◌, ◌∙◌, List, [], ◌∷◌, ◌++◌, Option, Some, None, refl, sym, ap, fold}
use Rattle.std.proofs.lemmas.List.Elements.{filter_map-append}
use Rattle.std.specs.List.{cons_option}
use Rattle.bt_value.specs.declared.value.Kind.{Kind}
use Rattle.bt_value.specs.declared.value.Value.{Value}
use Rattle.bt_keycode.specs.Keys.{Key}
use Rattle.bt_show.specs.inside.Entries.{and_entry, pair_of_entry, rows_of_entries, after_entry, with_pair}

module _ {S : Type 0} (visited : S → Key × List Value → S) where
  -- the kinds stay
  pub with_kinds : (kinds : List Kind) (visitor : S) (entries : List (Key × List Value))
      → ◌≡◌ {A = List Kind × S} (fold (after_entry visited) (kinds, visitor) entries) (kinds, fold (and_entry visited kinds) visitor entries)
  with_kinds kinds visitor [] = refl
  with_kinds kinds visitor (e ∷ es) = with_kinds kinds (and_entry visited kinds visitor e) es

  -- a fold over entries is one over the rows that they show
  pub fold-rows : (kinds : List Kind) (visitor : S) (entries : List (Key × List Value)) → fold (and_entry visited kinds) visitor entries ≡ fold visited visitor (rows_of_entries kinds entries)
  fold-rows kinds visitor [] = refl
  fold-rows kinds visitor (e ∷ es) = by_row (pair_of_entry kinds e) (λ s. fold-rows kinds s es)
    where
      by_row : (row : Option (Key × List Value)) → ((s : S) → fold (and_entry visited kinds) s es ≡ fold visited s (rows_of_entries kinds es))
          → fold (and_entry visited kinds) (with_pair visited visitor row) es ≡ fold visited visitor (cons_option row (rows_of_entries kinds es))
      by_row None more = more visitor
      by_row (Some row) more = more (visited visitor row)

  pub shown : (r : List Kind × S) (entries : List (Key × List Value)) → ◌≡◌ {A = List Kind × S} (fold (after_entry visited) r entries) (r.0, fold visited r.1 (rows_of_entries r.0 entries))
  shown r entries = with_kinds r.0 r.1 entries ∙ ap (λ (s : S). (r.0, s)) (fold-rows r.0 r.1 entries)

  module _ (forked : S → S) (joined : S → S → S)
      (as_one : (visitor : S) (rows following : List (Key × List Value))
      → joined (fold visited visitor rows) (fold visited (forked visitor) following) ≡ fold visited visitor (rows ++ following)) where
    pub entries_as_one : (r : List Kind × S) (entries following : List (Key × List Value))
        → ◌≡◌ {A = List Kind × S} (
          (fold (after_entry visited) r entries).0,
          joined (fold (after_entry visited) r entries).1
              (fold (after_entry visited) (r.0, forked r.1) following).1,
        ) (fold (after_entry visited) r (entries ++ following))
    entries_as_one r entries following =
        ap (λ (s : List Kind × S). (s.0, joined s.1 (fold (after_entry visited) (r.0, forked r.1) following).1)) (shown r entries)
        ∙ ap (λ (s : List Kind × S). (r.0, joined (fold visited r.1 (rows_of_entries r.0 entries)) s.1)) (shown (r.0, forked r.1) following)
        ∙ ap (λ (s : S). (r.0, s)) (as_one r.1 (rows_of_entries r.0 entries) (rows_of_entries r.0 following) ∙ ap (fold visited r.1) (sym (filter_map-append (pair_of_entry r.0) entries following)))
        ∙ sym (shown r (entries ++ following))
