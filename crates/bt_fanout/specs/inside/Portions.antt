-- The entries of rows that are read in portions.
use Rattle.std.proofs.Common.{append-nil, append_assoc, sym, ap, ◌∙◌}
use Rattle.std.specs.Prelude.{◌≡◌, List, [], ◌∷◌, ◌++◌, fold}
use Rattle.bt_value.specs.declared.value.Value.{Value}
use Rattle.bt_keycode.specs.Keys.{Key}
use Rattle.bt_message.specs.Effects.{Rows}
use Rattle.bt_message.specs.Messages.{Messages}
use Rattle.bt_fanout.specs.Covers.{put_of_entry, puts_of}
use Rattle.bt_fanout.specs.Effects.{EntryMessage}
use Rattle.bt_fanout.specs.Entries.{Definition}
use Rattle.bt_fanout.specs.inside.RowEntries.{entry_within}

-- a definition, and messages of entries
abbrev pub Puts : Type 0
Puts = Definition × Messages EntryMessage

-- with that of the entry of one more row
abbrev pub puts_after_row : Puts → Key × List Value → Puts
puts_after_row puts row = (puts.0, puts.1 ++ put_of_entry (entry_within puts.0 row.0 row.1))

pub puts_are : (puts : Puts) (rows : Rows (List Value)) → ◌≡◌ {A = Puts} (fold puts_after_row puts rows) (puts.0, puts.1 ++ puts_of (entry_within puts.0) rows)
puts_are puts [] = ap (λ (ms : Messages EntryMessage). (puts.0, ms)) (sym (append-nil puts.1))
puts_are puts (r ∷ rows) =
    puts_are (puts_after_row puts r) rows
    ∙ ap (λ (ms : Messages EntryMessage). (puts.0, ms)) (append_assoc puts.1 (put_of_entry (entry_within puts.0 r.0 r.1)) (puts_of (entry_within puts.0) rows))

-- a portion after another one
pub puts_as_one : (puts : Puts) (rows later : Rows (List Value)) →
    ◌≡◌ {A = Puts} ((fold puts_after_row puts rows).0, (fold puts_after_row puts rows).1 ++ (fold puts_after_row (puts.0, []) later).1) (fold puts_after_row puts (rows ++ later))
puts_as_one puts [] later =
    ap (λ (p : Puts). (puts.0, puts.1 ++ p.1)) (puts_are (puts.0, []) later) ∙ sym (puts_are puts later)
puts_as_one puts (r ∷ rows) later = puts_as_one (puts_after_row puts r) rows later
