-- Messages of worked batches and their effects on rows, computed from the definitions.
use Rattle.std.proofs.Common.{◌≡◌, ℕ, ◌+◌, List, [], ◌∷◌, Option, Some, None, length, map, refl}
use Rattle.bt_messages.specs.Bins.{added, parts}
use Rattle.bt_message.specs.Effects.{effect_of, rows_after}
use Rattle.bt_message.specs.Messages.{messages_between, messages_outside, sorted_batch, with_messages}
use Rattle.bt_message.specs.Terms.{Terms}
use Rattle.bt_message.specs.Weights.{load, weigh_of}
use Rattle.bt_message.specs.declared.measure.Measure.TheVariants.{Bytes, Messages}
use Rattle.bt_message.specs.declared.message.Message.{Message}
use Rattle.bt_message.specs.declared.message.Message.TheVariants.{Put, Del, Ups}

key : ℕ → List ℕ
key n = n ∷ []

put_at : ℕ → ℕ → List ℕ × Message ℕ ℕ
put_at n value = (key n, Put value)

del_at : ℕ → List ℕ × Message ℕ ℕ
del_at n = (key n, Del)

-- here an upsert adds to the value, or to 100 if there is none
add_at : ℕ → ℕ → List ℕ × Message ℕ ℕ
add_at n more = (key n, Ups more)

merged : Option ℕ → ℕ → ℕ
merged None more = 100 + more
merged (Some old) more = old + more

batch : sorted_batch (put_at 2 7 ∷ del_at 1 ∷ del_at 2 ∷ []) ≡ del_at 1 ∷ put_at 2 7 ∷ del_at 2 ∷ []
unfolding key put_at del_at
batch = refl

with_newer : with_messages (put_at 0 5 ∷ del_at 1 ∷ []) (put_at 1 6 ∷ []) ≡ put_at 0 5 ∷ put_at 1 6 ∷ del_at 1 ∷ []
unfolding key put_at del_at
with_newer = refl

taken : messages_between (Some (key 1)) None (put_at 0 5 ∷ put_at 1 6 ∷ del_at 1 ∷ []) ≡ put_at 1 6 ∷ del_at 1 ∷ []
unfolding key put_at del_at
taken = refl

left : messages_outside (Some (key 1)) None (put_at 0 5 ∷ put_at 1 6 ∷ del_at 1 ∷ []) ≡ put_at 0 5 ∷ []
unfolding key put_at del_at
left = refl

after : rows_after (effect_of merged) (put_at 3 30 ∷ put_at 1 10 ∷ put_at 3 31 ∷ del_at 1 ∷ del_at 7 ∷ []) [] ≡ (key 3, 31) ∷ []
unfolding key put_at del_at
after = refl

upserted : rows_after (effect_of merged) (put_at 3 30 ∷ add_at 3 1 ∷ add_at 3 1 ∷ add_at 4 2 ∷ []) [] ≡ (key 3, 32) ∷ (key 4, 102) ∷ []
unfolding key put_at add_at merged
upserted = refl

-- two upserts of a key stay two messages
apart : with_messages (add_at 1 6 ∷ []) (add_at 1 5 ∷ []) ≡ add_at 1 5 ∷ add_at 1 6 ∷ []
unfolding key add_at
apart = refl

-- ---- bins

-- puts on 1, 4, 4 and 9
packet : List (List ℕ × Message ℕ ℕ)
packet = put_at 1 10 ∷ put_at 4 40 ∷ put_at 4 41 ∷ put_at 9 90 ∷ []

counts : map length (added (key 3 ∷ key 5 ∷ []) packet ([] ∷ [] ∷ [] ∷ [])) ≡ 1 ∷ 2 ∷ 1 ∷ []
unfolding key put_at packet
counts = refl

-- an older message of a key stays before a newer one
older_first : added (key 3 ∷ []) (put_at 4 41 ∷ []) ([] ∷ (put_at 4 40 ∷ del_at 5 ∷ []) ∷ []) ≡ [] ∷ (put_at 4 40 ∷ put_at 4 41 ∷ del_at 5 ∷ []) ∷ []
unfolding key put_at del_at
older_first = refl

-- a message at a pivot goes after it
at_pivot : parts (key 4 ∷ []) packet ≡ (put_at 1 10 ∷ []) ∷ (put_at 4 40 ∷ put_at 4 41 ∷ put_at 9 90 ∷ []) ∷ []
unfolding key put_at packet
at_pivot = refl

-- here a put carries as many bytes as its value says, and an upsert twice as many
terms : Terms ℕ ℕ
terms = record { merged = merged; payload = λ n. n; delta_payload = λ n. n + n }

counted : load (weigh_of terms) Messages (put_at 0 5 ∷ del_at 1 ∷ add_at 2 4 ∷ []) ≡ 3
unfolding key put_at del_at add_at terms
counted = refl

weighed : load (weigh_of terms) Bytes (put_at 0 5 ∷ del_at 1 ∷ add_at 2 4 ∷ []) ≡ 7 + 2 + 10
unfolding key put_at del_at add_at terms
weighed = refl

limited : weigh_of terms (put_at 0 99999999) ≡ 16777215
unfolding key put_at terms
limited = refl
