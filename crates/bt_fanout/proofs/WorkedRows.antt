-- Index messages, computed.
use Rattle.std.proofs.Common.{◌≡◌, ℕ, ◌<◌, List, [], ◌∷◌, ◌++◌, Some, None, arith, fold, length, refl, pos}
use Rattle.bt_row.specs.declared.rows.filter.Test.TheVariants as test
use Rattle.bt_value.specs.declared.value.Kind.{Kind}
use Rattle.bt_value.specs.declared.value.Kind.TheVariants as kind
use Rattle.bt_value.specs.declared.value.Value.{Value}
use Rattle.bt_value.specs.declared.value.Value.TheVariants as value
use Rattle.bt_keycode.specs.Codes.{code_of, eight_bytes}
use Rattle.bt_message.specs.Effects.{Rows, rows_after}
use Rattle.bt_message.specs.Messages.{Messages, messages_between, sorted_batch}
use Rattle.bt_message.specs.declared.message.Message.TheVariants.{Put, Del}
use Rattle.bt_fanout.specs.Covers.{cover_after, is_covered, next_rows, puts_of}
use Rattle.bt_fanout.specs.Effects.{EntryMessage, RowMessage, entry_effect, row_effect, effects_of, sent_for_all}
use Rattle.bt_fanout.specs.Entries.{Definition, StandsUnder, SuitsKinds, entry_of, same_values}
use Rattle.bt_fanout.specs.Promises.{index_of}
use Rattle.bt_fanout.specs.Selections.{EachStands, index_messages}
use Rattle.bt_fanout.specs.inside.Readings.{none_read, read_row, rows_between}
use Rattle.bt_fanout.specs.declared.cover.Cover.{Cover}
use Rattle.bt_fanout.specs.declared.cover.Cover.TheVariants.{Nothing, UpTo, Whole}
use Rattle.bt_fanout.proofs.offered.Suiting.{all_more, all_none}

abbrev k : ℕ → List ℕ
k n = code_of (value.Int (pos n) ∷ [])

abbrev row : ℕ → ℕ → List Value
row id qty = value.Int (pos id) ∷ value.Int (pos qty) ∷ []

-- 1,10 2,20 3,30
abbrev rows : Rows (List Value)
rows = (k 1, row 1 10) ∷ (k 2, row 2 20) ∷ (k 3, row 3 30) ∷ []

-- put 1,11, del 2, put 3,30, put 4,40
abbrev batch : Messages RowMessage
batch = (k 1, Put (row 1 11)) ∷ (k 2, Del) ∷ (k 3, Put (row 3 30)) ∷ (k 4, Put (row 4 40)) ∷ []

-- on qty
abbrev on_qty : Definition
on_qty = record { on = 1 ∷ []; include = []; condition = None; keys = 1 }

-- on id include qty
abbrev on_id : Definition
on_id = record { on = 0 ∷ []; include = 1 ∷ []; condition = None; keys = 1 }

abbrev packet : Definition → Cover → Messages EntryMessage
packet def cover = sorted_batch (index_messages (entry_of def) same_values row_effect (is_covered cover) batch rows)

whole : packet on_qty Whole ≡ (k 10 ++ k 1, Del) ∷ (k 11 ++ k 1, Put []) ∷ (k 20 ++ k 2, Del) ∷ (k 40 ++ k 4, Put []) ∷ []
unfolding eight_bytes
whole = refl

up_to_two : packet on_qty (UpTo (k 2)) ≡ (k 10 ++ k 1, Del) ∷ (k 11 ++ k 1, Put []) ∷ (k 20 ++ k 2, Del) ∷ []
unfolding eight_bytes
up_to_two = refl

nothing : packet on_qty Nothing ≡ []
unfolding eight_bytes
nothing = refl

included : packet on_id Whole ≡ (k 1 ++ k 1, Put (value.Int (pos 11) ∷ [])) ∷ (k 2 ++ k 2, Del) ∷ (k 4 ++ k 4, Put (value.Int (pos 40) ∷ [])) ∷ []
unfolding eight_bytes
included = refl

-- the same from effects
from_effects : sent_for_all on_qty (UpTo (k 2)) (effects_of batch rows) ≡ (k 10 ++ k 1, Del) ∷ (k 11 ++ k 1, Put []) ∷ (k 20 ++ k 2, Del) ∷ []
unfolding eight_bytes
from_effects = refl

-- what the law says about them
turned : rows_after entry_effect (packet on_qty (UpTo (k 2))) (index_of on_qty (UpTo (k 2)) rows) ≡ index_of on_qty (UpTo (k 2)) (rows_after row_effect batch rows)
unfolding eight_bytes
turned = refl

-- the first step of building reads two rows
built : cover_after 2 Nothing rows ≡ UpTo (k 2)
unfolding eight_bytes
built = refl

sent : puts_of {D = List Value} (entry_of on_qty) (next_rows 2 Nothing rows) ≡ (k 10 ++ k 1, Put []) ∷ (k 20 ++ k 2, Put []) ∷ []
unfolding eight_bytes
sent = refl

-- the next one finds fewer
complete : cover_after 2 (UpTo (k 2)) rows ≡ Whole
unfolding eight_bytes
complete = refl

-- the same if it is to read five rows; a step that is to read exactly the row that is left doesn't complete the index, and the next one reads nothing and does
abbrev after_two : Rows (List Value)
after_two = (k 3, row 3 30) ∷ []

reads_one : next_rows 5 (UpTo (k 2)) rows ≡ after_two
unfolding eight_bytes
reads_one = refl

whole_then : cover_after 5 (UpTo (k 2)) rows ≡ Whole
unfolding eight_bytes
whole_then = refl

reads_last : next_rows 1 (UpTo (k 2)) rows ≡ after_two
unfolding eight_bytes
reads_last = refl

not_whole : cover_after 1 (UpTo (k 2)) rows ≡ UpTo (k 3)
unfolding eight_bytes
not_whole = refl

reads_none : next_rows 1 (UpTo (k 3)) rows ≡ []
unfolding eight_bytes
reads_none = refl

whole_at_last : cover_after 1 (UpTo (k 3)) rows ≡ Whole
unfolding eight_bytes
whole_at_last = refl

-- a step of no rows leaves the cover as it is, and so does each step of a complete index, which reads nothing
no_rows : (cover_after 0 Nothing rows ≡ Nothing) × (cover_after 0 (UpTo (k 2)) rows ≡ UpTo (k 2)) × (next_rows 5 Whole rows ≡ []) × (cover_after 5 Whole rows ≡ Whole)
unfolding eight_bytes
no_rows = (refl, refl, refl, refl)

-- and is what lies between the cover before it and the cover after it
between_them : rows_between (UpTo (k 1)) (cover_after 1 (UpTo (k 1)) rows) rows ≡ (k 2, row 2 20) ∷ []
unfolding eight_bytes
between_them = refl

-- the rows after the second one are those from its next key on
following : messages_between (Some (k 2 ++ 0 ∷ [])) None rows ≡ after_two
unfolding eight_bytes
following = refl

-- on qty where qty >= 15
abbrev from_15 : Definition
from_15 = record { on = 1 ∷ []; include = []; condition = Some (record { place = 1; test = test.AtLeast; constant = value.Int (pos 15) }); keys = 1 }

-- one by one: the first row has no entry and still moves the cover, the second one has an entry
one_by_one : fold read_row (none_read 1, (from_15, [])) (next_rows 1 Nothing rows) ≡ (record { left = 0; last = Some (k 1) }, (from_15, []))
unfolding eight_bytes
one_by_one = refl

two_by_one : fold read_row (none_read 3, (from_15, [])) (next_rows 2 Nothing rows) ≡ (record { left = 1; last = None }, (from_15, (k 20 ++ k 2, Put []) ∷ []))
unfolding eight_bytes
two_by_one = refl

-- the rows meet the premises of the law, before and after
abbrev kinds : List Kind
kinds = kind.Int ∷ kind.Int ∷ []

stand : EachStands (StandsUnder on_qty kinds) rows
unfolding eight_bytes
stand = (record { of_kinds = refl; under = refl }, (record { of_kinds = refl; under = refl }, (record { of_kinds = refl; under = refl }, tt)))

stand_after : EachStands (StandsUnder on_qty kinds) (rows_after row_effect batch rows)
unfolding eight_bytes
stand_after = (record { of_kinds = refl; under = refl }, (record { of_kinds = refl; under = refl }, (record { of_kinds = refl; under = refl }, tt)))

suits : SuitsKinds on_qty kinds
suits = record {
  within = record { on = all_more (λ place. place < length kinds) 1 [] (omega arith) (all_none (λ place. place < length kinds)); include = all_none (λ place. place < length kinds); condition = tt };
  constant = tt;
  keys = omega arith;
}
