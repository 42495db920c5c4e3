-- The load of messages that are put together or divided, for any weights and either measure.
use Rattle.std.proofs.Common.{◌≡◌, ℕ, ◌<◌, ◌≤◌, ◌+◌, ◌*◌, true, false, if◌then◌else◌, List, [], ◌∷◌, ◌++◌, drop, length, refl, arith}
use Rattle.std.proofs.lemmas.List.{length-append, length-drop}
use Rattle.bt_keycode.specs.Keys.{Key, is_before}
use Rattle.bt_message.specs.Messages.{Messages, with_message, with_messages}
use Rattle.bt_messages.specs.Parts.{total}
use Rattle.bt_messages.specs.Shares.{AreShares, counts}
use Rattle.bt_message.specs.Terms.{Terms}
use Rattle.bt_message.specs.Weights.{load, weigh_of, weight}
use Rattle.bt_message.specs.declared.measure.Measure.{Measure}
use Rattle.bt_message.specs.declared.measure.Measure.TheVariants as measures
use Rattle.bt_message.specs.declared.message.Message.{Message}
use Rattle.bt_messages.specs.declared.share.Share.{Share}

weight-append : {X : Type 0} (weigh : X → ℕ) (xs ys : List X) → weight weigh (xs ++ ys) ≡ weight weigh xs + weight weigh ys
weight-append weigh [] ys = omega arith
weight-append weigh (x ∷ xs) ys = omega (arith, weight-append weigh xs ys)

-- no message weighs more than this
weight-most : {X : Type 0} (weigh : X → ℕ) (most : ℕ) (xs : List X) → ((x : X) → weigh x ≤ most) → weight weigh xs ≤ length xs * most
weight-most weigh most [] below = omega arith
weight-most weigh most (x ∷ xs) below = omega (arith, below x, weight-most weigh most xs below)

module _ {X : Type 0} (weigh : X → ℕ) where
  pub load-none : (measure : Measure) → load weigh measure [] ≡ 0
  load-none measures.Messages = refl
  load-none measures.Bytes = refl

  pub load-append : (measure : Measure) (xs ys : List X) → load weigh measure (xs ++ ys) ≡ load weigh measure xs + load weigh measure ys
  load-append measures.Messages xs ys = length-append xs ys
  load-append measures.Bytes xs ys = weight-append weigh xs ys

  pub load-more : (measure : Measure) (x : X) (xs : List X) → load weigh measure (x ∷ xs) ≡ load weigh measure (x ∷ []) + load weigh measure xs
  load-more measure x xs = load-append measure (x ∷ []) xs

  -- shares of messages are no more than the messages
  pub shares-within : (ms : List X) (ss : List Share) → AreShares weigh ms ss → total (counts ss) ≤ length ms
  shares-within ms [] h = omega arith
  shares-within ms (s ∷ ss) h = omega (arith, h.0.0, shares-within (drop s.count ms) ss h.1, length-drop s.count ms)

module _ {M : Type 0} (weigh : Key × M → ℕ) (measure : Measure) where
  load-with_message : (m : Key × M) (es : Messages M) → load weigh measure (with_message m es) ≡ load weigh measure (m ∷ []) + load weigh measure es
  load-with_message m [] = omega (arith, load-none weigh measure)
  load-with_message m (e ∷ es) =
      elim (is_before m.0 e.0) as (λ t. load weigh measure (if t then m ∷ e ∷ es else e ∷ with_message m es) ≡ load weigh measure (m ∷ []) + load weigh measure (e ∷ es)) [
        | true ↦ load-more weigh measure m (e ∷ es)
        | false ↦ omega (arith, load-more weigh measure e (with_message m es), load-more weigh measure e es, load-with_message m es)
      ]

  -- newer messages among older ones
  pub load-with_messages : (ms es : Messages M) → load weigh measure (with_messages ms es) ≡ load weigh measure ms + load weigh measure es
  load-with_messages [] es = omega (arith, load-none weigh measure)
  load-with_messages (m ∷ ms) es = omega (arith, load-with_messages ms (with_message m es), load-with_message m es, load-more weigh measure m ms)

module _ {V D : Type 0} (terms : Terms V D) where
  -- no message weighs more than the largest weight
  one_most : (m : Key × Message V D) → weigh_of terms m ≤ 16777215
  one_most m = omega arith

  -- the messages of a list in the code weigh less than 2 ^ 87
  pub weight-small : (ms : Messages (Message V D)) → length ms < 9223372036854775808 → weight (weigh_of terms) ms < 154742504910672534362390528
  weight-small ms l = omega (arith, weight-most (weigh_of terms) 16777215 ms one_most, l)
