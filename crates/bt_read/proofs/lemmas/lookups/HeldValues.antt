-- The value along one path is the value in the whole map.
use Rattle.std.proofs.Common.{◌≡◌, ℕ, zero, suc, cond, refl, sym, ap, ◌∙◌, append-nil, inl, inr}
use Rattle.std.specs.FinMap.{find}
use Rattle.std.specs.declared.option.Option.{Option}
use Rattle.std.specs.declared.option.Option.TheVariants.{Some}
use Rattle.bt_keycode.specs.Keys.{Key, key_cmp}
use Rattle.bt_form.specs.Messages.{value_after}
use Rattle.bt_form.specs.Trees.{Tree, leaf, inner, Nodes, none, node, children}
use Rattle.bt_form.specs.Flushes.{holds, nodes_hold, all_hold}
use Rattle.bt_form.specs.Fits.{Lies, SiblingsLie}
use Rattle.bt_read.specs.inside.Lookups.{tree_value, value_below}
use Rattle.bt_keycode.proofs.offered.Order.{sides}
use Rattle.bt_form.proofs.offered.rows.Values.{find-append, find-rows, or_else, or_else-None}
use Rattle.bt_form.proofs.offered.lookups.Outside.{Outside, nodes_hold-children, tree-outside, all-outside}

module _ {V M : Type 0} (effect : Option V → M → Option V) (q : Key) where
  abbrev Found : ℕ → Type 0
  Found levels = (low high : Option Key) (t : Tree V M) → Lies levels low high t → tree_value effect q t ≡ find key_cmp q (holds effect t)

  found-below : (levels : ℕ) → Found levels → (low high : Option Key) (ns : Nodes V M) → SiblingsLie levels low high (children ns)
      → value_below effect q ns ≡ find key_cmp q (all_hold effect (children ns))
  found-below levels each low high none b = refl
  found-below levels each low high (node p t none) b = each low high t b ∙ ap (find key_cmp q) (sym (append-nil (holds effect t)))
  found-below levels each low high (node p t (node j u ns)) b =
      let rest = children (node j u ns) in
      elim (sides q j) [
        | inl left ↦
            let out : Outside (Some j) high q = inl left in
            ap (λ c. cond c (tree_value effect q t) (value_below effect q (node j u ns))) left
            ∙ each low (Some j) t b.2
            ∙ sym (find-append q (holds effect t) (all_hold effect rest)
            ∙ ap (or_else (find key_cmp q (holds effect t))) (all-outside effect levels q (Some j) high rest b.3 out)
            ∙ or_else-None (find key_cmp q (holds effect t)))
        | inr right ↦
            let out : Outside low (Some j) q = inr right in
            ap (λ c. cond c (tree_value effect q t) (value_below effect q (node j u ns))) right
            ∙ found-below levels each (Some j) high (node j u ns) b.3
            ∙ sym (find-append q (holds effect t) (all_hold effect rest) ∙ ap (λ z. or_else z (find key_cmp q (all_hold effect rest))) (tree-outside effect levels q low (Some j) t b.2 out))
      ]

  found : (levels : ℕ) → Found levels
  found zero low high (leaf rs) l = refl
  found zero low high (inner ns b) l = absurd l
  found (suc levels) low high (leaf rs) l = absurd l
  found (suc levels) low high (inner ns b) l =
      ap (value_after effect q b) (found-below levels (found levels) low high ns l.2)
      ∙ ap (λ rows. value_after effect q b (find key_cmp q rows)) (sym (nodes_hold-children effect ns))
      ∙ sym (find-rows effect q b (nodes_hold effect ns))

-- below an inner node, the value is in the child to which the key belongs
pub value_below-held : {V M : Type 0} (effect : Option V → M → Option V) (levels : ℕ) (low high : Option Key) (ns : Nodes V M) (k : Key) → SiblingsLie levels low high (children ns) →
    value_below effect k ns ≡ find key_cmp k (all_hold effect (children ns))
value_below-held effect levels low high ns k lie = found-below effect k levels (found effect k levels) low high ns lie

-- the value along one path is the one in the map that the tree represents
pub tree_value-held : {V M : Type 0} (effect : Option V → M → Option V) (levels : ℕ) (low high : Option Key) (t : Tree V M) (k : Key) → Lies levels low high t →
    tree_value effect k t ≡ find key_cmp k (holds effect t)
tree_value-held effect levels low high t k lies = found effect k levels low high t lies
