-- What a flush keeps: the siblings lie where the node lay, have its height, and have its values after the packet.
use Rattle.std.proofs.Common.{◌≡◌, ℕ, zero, suc, ◌<◌, ◌≤◌, List, [], ◌∷◌, length, sym, ap, subst, ◌∙◌, arith}
use Rattle.std.specs.FinMap.{find}
use Rattle.std.specs.declared.option.Option.{Option}
use Rattle.bt_keycode.specs.Keys.{Key, key_cmp, AllWithin}
use Rattle.bt_form.specs.Messages.{Meaning, Rows, Messages, rows_after, value_after, with_messages}
use Rattle.bt_form.specs.Deals.{deal}
use Rattle.bt_form.specs.declared.mode.Mode.{Mode}
use Rattle.bt_form.specs.Trees.{Shape, leaf, inner, Nodes, Siblings, children}
use Rattle.bt_form.specs.Flushes.{Child, Flush, shared, flushed_in, gathered, grouped, leaves, flush_at, holds, nodes_hold, all_hold}
use Rattle.bt_form.specs.Fits.{IsLed, Lies, SiblingsLie}
use Rattle.bt_form.proofs.offered.deals.Parts.{NonEmpty, joined-deal}
use Rattle.bt_form.proofs.offered.rows.RowsAfter.{rows_after-lie}
use Rattle.bt_form.proofs.offered.rows.Values.{find-rows}
use Rattle.bt_form.proofs.offered.rows.Buffers.{within-with_messages, value-with_messages}
use Rattle.bt_messages.proofs.offered.Placed.{sorted-with_messages}
use Rattle.bt_form.proofs.offered.plans.OnePass.{names}
use Rattle.bt_form.proofs.offered.lookups.Outside.{nodes_hold-children}
use Rattle.bt_form.proofs.offered.flushes.Children.{ChildrenLie, all_pending, seen_in, value-below-seen}
use Rattle.bt_form.proofs.offered.flushes.Shares.{length-shared, value-shared, below-shared, shared-lie}
use Rattle.bt_form.proofs.offered.flushes.Groups.{some-of, some_length, led-map, led-full, leaves-lie, leaves-led, leaves-hold, grouped-lie, find-grouped}
use Rattle.bt_form.proofs.offered.flushes.Passes.{Kept, Keeps, slots, flushed-slots, names-slots, after_pass-lie, after_pass-long, seen-after_pass}

-- the siblings into which a list of children is grouped
pub record Grouped {V M : Type 0} (effect : Option V → M → Option V) (levels : ℕ) (s : Shape) (low high : Option Key) (cs : List (Child V M)) : Type 0 where
  pub lie : SiblingsLie (suc levels) low high (grouped s cs)
  pub led : IsLed (grouped s cs)
  pub finds : (q : Key) → find key_cmp q (all_hold effect (grouped s cs)) ≡ seen_in effect q cs

pub groups : {V M : Type 0} (effect : Option V → M → Option V) (levels : ℕ) (s : Shape) (low high : Option Key) (cs : List (Child V M)) → 0 < s.fanout
    → 1 ≤ length cs → ChildrenLie levels low high cs →
    Grouped effect levels s low high cs
groups effect levels s low high [] l n p = absurd (omega (arith, n))
groups effect levels s low high (c ∷ cs) l n p = record {
  lie = grouped-lie levels s low high c cs l p;
  led = led-map gathered (deal s.fanout (c ∷ cs)) (some-of _ c cs (joined-deal s.fanout (c ∷ cs)));
  finds = λ q. find-grouped effect levels s q low high c cs l p;
}

-- a node and a packet in their places, and a flush that keeps the values of its children
pub record TakesPacket {V M : Type 0} (effect : Option V → M → Option V) (levels : ℕ) (f : Flush V M) (low high : Option Key) (ns : Nodes V M) (b p : Messages M) : Type 0 where
  pub keeps : Keeps effect levels f
  pub lies : Lies (suc levels) low high (inner ns b)
  pub within : AllWithin low high p

value-shared-all : {V M : Type 0} (effect : Option V → M → Option V) (q : Key) (xs : Siblings V M) (b : Messages M) (o : Option V) → NonEmpty xs
    → value_after effect q (all_pending (shared xs b)) o ≡ value_after effect q b o
value-shared-all effect q [] b o n = absurd n
value-shared-all effect q (x ∷ xs) b o n = value-shared effect q x xs b o

module _ {V M : Type 0} (meaning : Meaning V M) (s : Shape) (leaf_some : 0 < s.leaf) (fanout_some : 0 < s.fanout) where
  -- the children of a node that takes a packet, each with its share
  abbrev pub start : Nodes V M → Messages M → Messages M → List (Child V M)
  start ns b p = shared (children ns) (with_messages p b)

  pub start-lies : (levels : ℕ) (low high : Option Key) (ns : Nodes V M) (b p : Messages M) → Lies (suc levels) low high (inner ns b) → AllWithin low high p
      → ChildrenLie levels low high (start ns b p)
  start-lies levels low high ns b p lies within =
      shared-lie levels low high (children ns) (with_messages p b) lies.2 (within-with_messages low high p b within lies.0) (sorted-with_messages p b lies.1)

  -- a leaf's rows after a packet, dealt
  leaf-keeps : (low high : Option Key) (rs : Rows V) (p : Messages M) → Lies {M = M} zero low high (leaf rs) → AllWithin low high p →
      Kept meaning.effect zero low high (leaf rs) p (leaves s (rows_after meaning.effect p rs))
  leaf-keeps low high rs p lies within = record {
    lie = leaves-lie M s low high (rows_after meaning.effect p rs) leaf_some (rows_after-lie meaning.effect low high p rs within lies);
    led = leaves-led M s (rows_after meaning.effect p rs) leaf_some;
    finds = λ q. ap (find key_cmp q) (leaves-hold meaning.effect s (rows_after meaning.effect p rs)) ∙ find-rows meaning.effect q p rs;
  }

  module _ (mode : Mode) (levels : ℕ) (f : Flush V M) (low high : Option Key) (ns : Nodes V M) (b p : Messages M) (takes : TakesPacket meaning.effect levels f low high ns b p) where
    -- the children after the flush
    abbrev pub end : List (Child V M)
    end = flushed_in meaning.weigh s mode f (start ns b p)

    pub slots-lie : ChildrenLie levels low high (names (slots meaning.weigh s mode (start ns b p)))
    slots-lie = subst (ChildrenLie levels low high) (sym (names-slots meaning.weigh s mode (start ns b p))) (start-lies levels low high ns b p takes.lies takes.within)

    end-lies : ChildrenLie levels low high end
    end-lies = subst (ChildrenLie levels low high) (sym (flushed-slots meaning.weigh s mode f (start ns b p))) (after_pass-lie meaning.effect levels f takes.keeps low high _ slots-lie)

    -- there are no fewer of them
    pub end-long : length (children ns) ≤ length end
    end-long = omega (
      arith,
      after_pass-long meaning.effect levels f takes.keeps low high _ slots-lie,
      ap length (names-slots meaning.weigh s mode (start ns b p)),
      ap length (flushed-slots meaning.weigh s mode f (start ns b p)),
      length-shared (children ns) (with_messages p b),
    )

    seen-end : (q : Key) → seen_in meaning.effect q end ≡ seen_in meaning.effect q (start ns b p)
    seen-end q =
        ap (seen_in meaning.effect q) (flushed-slots meaning.weigh s mode f (start ns b p))
        ∙ seen-after_pass meaning.effect levels f takes.keeps q low high _ slots-lie
        ∙ ap (seen_in meaning.effect q) (names-slots meaning.weigh s mode (start ns b p))

    found : (q : Key) → seen_in meaning.effect q end ≡ value_after meaning.effect q p (find key_cmp q (holds meaning.effect (inner ns b)))
    found q =
        let all = with_messages p b in
        seen-end q
        ∙ sym (value-below-seen meaning.effect levels q low high (start ns b p) (start-lies levels low high ns b p takes.lies takes.within))
        ∙ value-shared-all meaning.effect q (children ns) all _ (led-full _ takes.lies.3)
        ∙ ap (λ rs. value_after meaning.effect q all (find key_cmp q rs)) (below-shared meaning.effect (children ns) all ∙ sym (nodes_hold-children meaning.effect ns))
        ∙ value-with_messages meaning.effect q p b _ takes.lies.1
        ∙ ap (value_after meaning.effect q p) (sym (find-rows meaning.effect q b (nodes_hold meaning.effect ns)))

    -- they are dealt
    node-keeps : Kept meaning.effect (suc levels) low high (inner ns b) p (grouped s end)
    node-keeps =
        let some : 1 ≤ length end = omega (arith, end-long, some_length (children ns) (led-full _ takes.lies.3)) in
        let g = groups meaning.effect levels s low high end fanout_some some end-lies in
        record { lie = g.lie; led = g.led; finds = λ q. g.finds q ∙ found q }

  pub flush_at-keeps : (mode : Mode) (levels : ℕ) → Keeps meaning.effect levels (flush_at meaning mode (suc levels) s)
  flush_at-keeps mode zero low high (leaf rs) p lies within = leaf-keeps low high rs p lies within
  flush_at-keeps mode zero low high (inner ns b) p lies within = absurd lies
  flush_at-keeps mode (suc levels) low high (leaf rs) p lies within = absurd lies
  flush_at-keeps mode (suc levels) low high (inner ns b) p lies within =
      node-keeps mode levels (flush_at meaning mode (suc levels) s) low high ns b p (record { keeps = flush_at-keeps mode levels; lies = lies; within = within })
