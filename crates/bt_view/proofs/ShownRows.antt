-- A visitor of rows after the entries that show them. Serves scans of an index.
use Rattle.std.proofs.Common.{◌≡◌, List, fold}
use Rattle.bt_value.specs.declared.value.Kind.{Kind}
use Rattle.bt_value.specs.declared.value.Value.{Value}
use Rattle.bt_keycode.specs.Keys.{Key}
use Rattle.bt_form.specs.Messages.{Rows}
use Rattle.bt_show.specs.inside.Entries.{after_entry, rows_of_entries}
use Rattle.bt_view.specs.inside.Shown.{rows_shown}
use Rattle.bt_view.specs.declared.shown.Shown.{Shown}
use Rattle.bt_show.proofs.offered.SelectedRows.{gone-along}

pub gone-through : {S : Type 0} (visited : S → Key × List Value → S) (rows : Shown) (visitor : S) (kinds : List Kind) (entries : Rows (List Value)) (old new
    : List Kind × S) → rows_shown rows ≡ rows_of_entries kinds entries
    → ◌≡◌ {A = List Kind × S} old (kinds, visitor) → ◌≡◌ {A = List Kind × S} new (fold (after_entry visited) old entries) → new.1 ≡ fold visited visitor (rows_shown rows)
gone-through {S} visited rows visitor kinds entries old new shows begins is = gone-along visited (rows_shown rows) visitor kinds entries old new shows begins is
