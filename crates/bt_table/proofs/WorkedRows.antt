-- Worked calls, computed by the definitions themselves. Serves as a test of the definitions.
use Rattle.std.proofs.Common.{ℕ, List, [], ◌∷◌, ◌≡◌, true, false, refl, codes}
use Rattle.std.specs.Prelude.{Result, Ok, Err, Some, None, map, pos, ◌+◌}
use Rattle.bt_row.specs.Schemas.{Schema}
use Rattle.bt_value.specs.declared.refusal.Refusal.{Refusal}
use Rattle.bt_value.specs.declared.refusal.Refusal.TheVariants.{AlreadyComplete, BadField, BadLength, Building, Failed, NoSuchTree, TooMany}
use Rattle.bt_value.specs.declared.value.Kind.TheVariants as kind
use Rattle.bt_value.specs.declared.value.Value.TheVariants as value
use Rattle.bt_value.proofs.offered.OnLiterals.{values_on_literals}
use Rattle.bt_keycode.specs.Codes.{eight_bytes}
use Rattle.bt_message.specs.declared.measure.Measure.TheVariants as measures
use Rattle.bt_rowtype.specs.declared.item.Item.TheVariants.{Put, Del, Ups}
use Rattle.bt_gang.specs.Numbers.{below}
use Rattle.bt_value.specs.Results.{map_ok}
use Rattle.bt_fanout.specs.Entries.{Definition}
use Rattle.bt_table.specs.Calls.{Call, Apply, BuildStep, CreateIndex, Get, Load, step, tree_named}
use Rattle.bt_table.specs.Tables.{TableState, Intact, Lost, empty_table}
use Rattle.bt_table.specs.declared.reply.Reply.{Reply}
use Rattle.bt_table.specs.declared.reply.Reply.TheVariants.{Batch, Built, Created, Row}

-- a key, and a number of each
abbrev stock : Schema
stock = record { columns = record { name = codes "id"; kind = kind.Int } ∷ record { name = codes "qty"; kind = kind.Int } ∷ []; keys = 1 }

abbrev empty : TableState
empty = Intact (empty_table stock (record { fanout = 4; buffer = 3; leaf = 2; measure = measures.Messages }))

-- the reply to a call
abbrev reply_of : TableState → Call → Result Reply Refusal
reply_of state call = map_ok (λ (after : TableState × Reply). after.1) (step state call)

abbrev left_by : TableState → Result (TableState × Reply) Refusal → TableState
left_by state (Ok after) = after.0
left_by state (Err refusal) = state

-- the state after several calls, one after the other
abbrev after : TableState → List Call → TableState
after state [] = state
after state (call ∷ calls) = after (left_by state (step state call)) calls

-- two puts of a key, a put and a del of another one, and an upsert
abbrev batch : Call
batch = Apply (Put (codes "3" ∷ codes "30" ∷ []) ∷ Put (codes "3" ∷ codes "31" ∷ []) ∷ Put (codes "1" ∷ codes "10" ∷ []) ∷ Del (codes "1" ∷ []) ∷ Ups
    (codes "9" ∷ codes "add" ∷ codes "qty" ∷ codes "5" ∷ []) ∷ [])

pub batch_reply : reply_of empty batch ≡ Ok (Batch 5 [])
unfolding eight_bytes values_on_literals
batch_reply = refl

pub newer_put : reply_of (after empty (batch ∷ [])) (Get (codes "3" ∷ [])) ≡ Ok (Row (Some (value.Int (pos 3) ∷ value.Int (pos 31) ∷ [])))
unfolding eight_bytes values_on_literals
newer_put = refl

pub deleted : reply_of (after empty (batch ∷ [])) (Get (codes "1" ∷ [])) ≡ Ok (Row None)
unfolding eight_bytes values_on_literals
deleted = refl

pub new_key : reply_of (after empty (batch ∷ [])) (Get (codes "9" ∷ [])) ≡ Ok (Row (Some (value.Int (pos 9) ∷ value.Int (pos 5) ∷ [])))
unfolding eight_bytes values_on_literals
new_key = refl

-- the lowest refusal with the smallest item, and then the table does not change
abbrev faulty : Call
faulty = Apply (Put (codes "1" ∷ []) ∷ Put (codes "5" ∷ codes "50" ∷ []) ∷ Put (codes "7" ∷ codes "x" ∷ []) ∷ Put (codes "y" ∷ codes "1" ∷ []) ∷ [])

pub lowest_refusal : reply_of empty faulty ≡ Err (BadField 3)
unfolding eight_bytes values_on_literals
lowest_refusal = refl

pub refused_changes_nothing : reply_of (after empty (batch ∷ faulty ∷ [])) (Get (codes "5" ∷ [])) ≡ Ok (Row None)
unfolding eight_bytes values_on_literals
refused_changes_nothing = refl

pub key_of_two_fields : reply_of empty (Get (codes "1" ∷ codes "2" ∷ [])) ≡ Err (BadLength 1)
unfolding eight_bytes values_on_literals
key_of_two_fields = refl

-- a lost table refuses each call as `Failed`, even if other refusals apply too
pub lost_first : reply_of Lost faulty ≡ Err Failed
lost_first = refl

pub lost_name : tree_named Lost (codes "second") ≡ Err Failed
lost_name = refl

pub other_name : tree_named empty (codes "second") ≡ Err NoSuchTree
other_name = refl

-- ---- steps of building

-- three rows, and an index of their numbers
abbrev three : Call
three = Apply (Put (codes "1" ∷ codes "10" ∷ []) ∷ Put (codes "2" ∷ codes "20" ∷ []) ∷ Put (codes "3" ∷ codes "30" ∷ []) ∷ [])

abbrev q : List ℕ
q = codes "q"

abbrev numbers : Definition
numbers = record { on = 1 ∷ []; include = []; condition = None; keys = 1 }

-- the reply to a call after three rows, a new index and these calls
abbrev answered : List Call → Call → Result Reply Refusal
answered calls call = reply_of (after empty (three ∷ CreateIndex q numbers ∷ calls)) call

pub first_step : answered [] (BuildStep q 2) ≡ Ok (Built q 2 false)
unfolding eight_bytes values_on_literals
first_step = refl

-- a step that reads exactly the rows that are left does not complete the index, and the next one does
pub exact_step : answered [] (BuildStep q 3) ≡ Ok (Built q 3 false)
unfolding eight_bytes values_on_literals
exact_step = refl

pub last_step : answered (BuildStep q 3 ∷ []) (BuildStep q 1) ≡ Ok (Built q 0 true)
unfolding eight_bytes values_on_literals
last_step = refl

pub no_step : answered [] (BuildStep q 0) ≡ Ok (Built q 0 false)
unfolding eight_bytes values_on_literals
no_step = refl

pub complete : answered (BuildStep q 9 ∷ []) (BuildStep q 0) ≡ Err AlreadyComplete
unfolding eight_bytes values_on_literals
complete = refl

pub no_index : answered [] (BuildStep (codes "primary") 1) ≡ Err NoSuchTree
unfolding eight_bytes values_on_literals
no_index = refl

-- a batch sends messages for rows up to the last one that was read: that of key 2 is deleted there, that of key 3 has another number and is read later
pub by_cover : answered (BuildStep q 2 ∷ []) (Apply (Del (codes "2" ∷ []) ∷ Put (codes "3" ∷ codes "31" ∷ []) ∷ [])) ≡ Ok (Batch 2 (record { name = q; count = 1 } ∷ []))
unfolding eight_bytes values_on_literals
by_cover = refl

-- a load follows complete indexes; it is refused if one is building
pub load_beside : answered [] (Load (codes "id,qty\n")) ≡ Err Building
unfolding eight_bytes values_on_literals
load_beside = refl

-- ---- the limit of indexes

-- n indexes, each named by a letter
abbrev creations : ℕ → List Call
creations n = map (λ letter. CreateIndex ((97 + letter) ∷ []) numbers) (below n)

pub sixteenth_index : reply_of (after empty (creations 15)) (CreateIndex q numbers) ≡ Ok (Created q)
unfolding eight_bytes values_on_literals
sixteenth_index = refl

pub seventeenth_index : reply_of (after empty (creations 16)) (CreateIndex q numbers) ≡ Err TooMany
unfolding eight_bytes values_on_literals
seventeenth_index = refl
