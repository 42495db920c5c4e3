-- How an inner node takes messages.
use Rattle.std.specs.Prelude.{◌≡◌, ◌≤◌, ℕ, List, drop, false, length, take, true}
use Rattle.bt_keycode.specs.Keys.{Key}
use Rattle.bt_value.specs.Lists.{concatenation}
use Rattle.bt_messages.specs.Bins.{parts}
use Rattle.bt_messages.specs.Parts.{parted, total}
use Rattle.bt_messages.specs.Shares.{AreShares, counts}
use Rattle.bt_message.specs.declared.message.Message.{Message}
use Rattle.bt_form.specs.Children.{with_pending}
use Rattle.bt_form.specs.Fits.{IsLed}
use Rattle.bt_form.specs.Flushes.{loads, shared}
use Rattle.bt_form.specs.Marks.{flush_marks, has_room}
use Rattle.bt_form.specs.Messages.{Messages, load, with_messages}
use Rattle.bt_form.specs.Trees.{Shape, Siblings, Tree, inner, nodes, pivots_of}
use Rattle.bt_form.specs.declared.mode.Mode.{Mode}
use Rattle.bt_flush.specs.declared.opening.Opened as code
use Rattle.bt_flush.specs.declared.opening.Step.{Step}
use Rattle.bt_flush.specs.declared.opening.Step.TheVariants.{Stays, Opens}

module _ {V D : Type 0} (weigh : Key × Message V D → ℕ) (mode : Mode) (shape : Shape) (xs : Siblings V (Message V D)) (bins : List (Messages (Message V D))) where
  -- the buffer of the node has room for all messages, and holds them
  pub record IsKept (all : Messages (Message V D)) (t : Tree V (Message V D)) : Type 0 where
    pub node : t ≡ inner (nodes xs) all
    pub led : IsLed xs
    pub few : length xs ≤ shape.fanout
    pub room : has_room mode shape (load weigh shape.measure all) ≡ true

  -- the children, each with its bin, its share of the incoming messages, and whether its pending messages go down
  pub record IsOpened (stream : Messages (Message V D)) (count : ℕ) (opened : code.Opened V D) : Type 0 where
    pub led : IsLed xs
    pub children : opened.children ≡ with_pending xs bins
    pub shares : parted (counts opened.shares.items) stream ≡ parts (pivots_of xs) (take count stream)
    pub total : total (counts opened.shares.items) ≡ count
    pub weighed : AreShares weigh stream opened.shares.items
    pub marks : opened.marks.items ≡ flush_marks mode shape.buffer (loads weigh shape (shared xs (with_messages (take count stream) (concatenation bins))))
    pub full : length xs ≤ shape.fanout → has_room mode shape (load weigh shape.measure (with_messages (take count stream) (concatenation bins))) ≡ false

  -- the result of taking the first messages of a stream into the node, and what is left of the stream
  abbrev pub IsStep : Messages (Message V D) → ℕ → Messages (Message V D) → Step V D → Type 0
  IsStep stream count left (Stays node) = (left ≡ drop count stream) × IsKept (with_messages (take count stream) (concatenation bins)) node
  IsStep stream count left (Opens opened) = (left ≡ stream) × IsOpened stream count opened
