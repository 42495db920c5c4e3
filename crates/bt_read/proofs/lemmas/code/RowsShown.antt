-- The rows of an inner node, shown child by child, each with the messages above it.
use Rattle.std.proofs.Common.{◌≡◌, ◌<◌, ℕ, true, false, T, List, [], ◌∷◌, ◌++◌, append_assoc, append-nil, fold, get_or, length, map, sym, ap, subst, ◌∙◌}
use Rattle.std.specs.FinMap.{find, is_sorted}
use Rattle.std.specs.declared.option.Option.{Option}
use Rattle.std.specs.declared.option.Option.TheVariants.{None, Some}
use Rattle.bt_keycode.specs.Keys.{AllWithin, IsSorted, Key, is_before_lower, is_before_upper, is_between, key_cmp}
use Rattle.bt_message.specs.Messages.{messages_outside as outside}
use Rattle.bt_message.specs.declared.message.Message.{Message}
use Rattle.bt_form.specs.Fits.{IsInOrder, SiblingsLie}
use Rattle.bt_form.specs.Flushes.{all_hold, holds}
use Rattle.bt_read.specs.inside.Lookups.{pivots_up_to, tree_value}
use Rattle.bt_form.specs.Messages.{Messages, Rows, between, rows_after, value_after, with_messages}
use Rattle.bt_form.specs.Trees.{Tree, children, nodes}
use Rattle.bt_form.proofs.offered.flushes.Groups.{children-nodes}
use Rattle.bt_form.proofs.offered.flushes.RowsKept.{holds-lie}
use Rattle.bt_read.proofs.lemmas.lookups.HeldValues.{tree_value-held, value_below-held}
use Rattle.bt_form.proofs.offered.lookups.Outside.{nodes_hold-children}
use Rattle.bt_form.proofs.offered.rows.Between.{all-between, between_below, between_from, between-sorted, in_order, rows-between, same-between, split-between, value-inside}
use Rattle.bt_form.proofs.offered.rows.Buffers.{value-with_messages}
use Rattle.bt_form.proofs.offered.rows.RowsAfter.{rows-sorted, rows_after-sorted}
use Rattle.bt_keycode.proofs.offered.Truths.{true_t}
use Rattle.bt_form.proofs.offered.rows.Values.{find-rows}
use Rattle.bt_read.proofs.lemmas.code.LookupPath.{IsChildAt, child_at, value_after-later}
use Rattle.bt_read.proofs.offered.RowsOfChildren.{child_in_order, siblings_lie}

module _ {V D : Type 0} (effect : Option V → Message V D → Option V) where
  -- the rows of a tree in order are sorted
  held-sorted : (t : Tree V (Message V D)) → IsInOrder t → T (is_sorted key_cmp (holds effect t))
  held-sorted t order = rows-sorted order.1 order.2 _ (holds-lie effect order.0 order.1 order.2 t order.3)

  after-sorted : (ms : Messages (Message V D)) (t : Tree V (Message V D)) → IsInOrder t → T (is_sorted key_cmp (rows_after effect ms (holds effect t)))
  after-sorted ms t order = rows_after-sorted effect ms (holds effect t) (held-sorted t order)

  -- at a leaf: messages between the bounds change only rows between them
  pub leaf_part : (from to : Option Key) (ms : Messages (Message V D)) (t : Tree V (Message V D)) (rows part : Rows V) → AllWithin from to ms → IsInOrder t
      → holds effect t ≡ rows → part ≡ between from to rows →
      rows_after effect ms part ≡ between from to (rows_after effect ms (holds effect t))
  leaf_part from to ms t rows part within order same is =
      ap (rows_after effect ms) (is ∙ ap (between from to) (sym same))
      ∙ ap (λ zs. rows_after effect zs (between from to (holds effect t))) (sym (all-between from to ms within))
      ∙ rows-between effect from to ms (holds effect t) (held-sorted t order)

  -- the messages to a child between its bounds: those above it among the newer ones, and those of its own bin
  pub record AreMessagesTo (ps : List Key) (place : ℕ) (low high : Option Key) (buffer newer merged : Messages (Message V D)) : Type 0 where
    pub above : Messages (Message V D)
    pub own : Messages (Message V D)
    pub belongs : (q : Key) → is_between low high q ≡ true → place ≡ pivots_up_to q ps
    pub own_does : (q : Key) → is_between low high q ≡ true → (old : Option V) → value_after effect q own old ≡ value_after effect q buffer old
    pub own_sorted : IsSorted own
    pub above_is : above ≡ between None high newer
    pub merged_is : merged ≡ with_messages above own

  module _ {t child : Tree V (Message V D)} {buffer : Messages (Message V D)} {ps : List Key} {place : ℕ} (c : IsChildAt t child buffer ps place) (order : IsInOrder t) (there
      : place < length c.trees) where
    held_above : holds effect t ≡ rows_after effect buffer (all_hold effect c.siblings)
    held_above = ap (holds effect) c.node_is ∙ ap (rows_after effect buffer) (nodes_hold-children effect (nodes c.siblings) ∙ ap (all_hold effect) (children-nodes c.siblings))

    child-order : IsInOrder child
    child-order = child_in_order t c.siblings buffer c.node_is c.trees c.trees_are place child there c.at order

    -- a key that belongs to a child has the same value there as in all children
    child_has : (q : Key) → place ≡ pivots_up_to q ps → find key_cmp q (holds effect child) ≡ find key_cmp q (all_hold effect c.siblings)
    child_has q is =
        let xs = c.siblings in
        let side = siblings_lie t xs buffer c.node_is order in
        let lie : SiblingsLie side.0 side.1 side.2 (children (nodes xs)) = subst (SiblingsLie side.0 side.1 side.2) (sym (children-nodes xs)) side.3 in
        sym (tree_value-held effect child-order.0 child-order.1 child-order.2 child q child-order.3)
        ∙ ap (tree_value effect q) (c.at ∙ ap (λ ys. get_or ys place child) c.trees_are ∙ ap (λ i. get_or (map (λ x. x.1) xs) i child) (is ∙ ap (pivots_up_to q) c.pivots_are))
        ∙ sym (child_at effect q xs child c.some)
        ∙ value_below-held effect side.0 side.1 side.2 (nodes xs) q lie
        ∙ ap (λ ys. find key_cmp q (all_hold effect ys)) (children-nodes xs)

    module _ {low high : Option Key} {newer merged : Messages (Message V D)} (messages : AreMessagesTo ps place low high buffer newer merged) where
      -- at a key between its bounds, a child after the messages to it has the same value as the node after the newer messages
      pub child_found : (q : Key) → is_between low high q ≡ true → find key_cmp q (rows_after effect merged (holds effect child)) ≡ find key_cmp q (rows_after effect newer (holds effect t))
      child_found q inside =
          let old = find key_cmp q (holds effect child) in
          find-rows effect q merged (holds effect child)
          ∙ ap (λ ms. value_after effect q ms old) messages.merged_is
          ∙ value-with_messages effect q messages.above messages.own old messages.own_sorted
          ∙ ap (value_after effect q messages.above) (messages.own_does q inside old)
          ∙ ap (λ ms. value_after effect q ms (value_after effect q buffer old)) messages.above_is
          ∙ value-inside effect None high q newer (value_after effect q buffer old) (between_below low high q inside)
          ∙ ap (λ o. value_after effect q newer (value_after effect q buffer o)) (child_has q (messages.belongs q inside))
          ∙ ap (value_after effect q newer) (sym (find-rows effect q buffer (all_hold effect c.siblings)) ∙ ap (find key_cmp q) (sym held_above))
          ∙ sym (find-rows effect q newer (holds effect t))

      -- the rows of a child after the messages to it, between its bounds
      pub child_part : between low high (rows_after effect merged (holds effect child)) ≡ between low high (rows_after effect newer (holds effect t))
      child_part = same-between low high _ _ (after-sorted merged child child-order) (after-sorted newer t order) child_found

      -- the last child has all rows of the node from its lower bound on
      pub last_rows : (to : Option Key) → high ≡ to → between low high (rows_after effect merged (holds effect child)) ≡ between low to (rows_after effect newer (holds effect t))
      last_rows to is = child_part ∙ ap (λ h. between low h (rows_after effect newer (holds effect t))) is

      -- a child before others, which come after it with the rest of the messages
      module _ (to : Option Key) (p : Key) (rest : Messages (Message V D)) (is : high ≡ Some p) (rest_is : rest ≡ outside None high newer) where
        pub rest_found : (q : Key) → is_between (Some p) to q ≡ true → find key_cmp q (rows_after effect rest (holds effect t)) ≡ find key_cmp q (rows_after effect newer (holds effect t))
        rest_found q inside =
            find-rows effect q rest (holds effect t)
            ∙ ap (λ ms. value_after effect q ms (find key_cmp q (holds effect t))) (rest_is ∙ ap (λ h. outside None h newer) is)
            ∙ value_after-later effect p q newer (find key_cmp q (holds effect t)) (between_from (Some p) to q inside)
            ∙ sym (find-rows effect q newer (holds effect t))

        pub next_rows : is_before_lower low p ≡ false → is_before_upper to p ≡ true →
            between low high (rows_after effect merged (holds effect child)) ++ between (Some p) to (rows_after effect rest (holds effect t))
            ≡ between low to (rows_after effect newer (holds effect t))
        next_rows from_low below_to =
            let all = rows_after effect newer (holds effect t) in
            let sorted = after-sorted newer t order in
            let left : between (Some p) to (rows_after effect rest (holds effect t)) ≡ between (Some p) to all =
            same-between (Some p) to (rows_after effect rest (holds effect t)) all (after-sorted rest t order) sorted rest_found in
            ap (λ l. l ++ between (Some p) to (rows_after effect rest (holds effect t))) (child_part ∙ ap (λ h. between low h all) is)
            ∙ ap (λ l. between low (Some p) all ++ l) left
            ∙ sym (split-between low to p from_low below_to all (in_order all sorted))

-- rows that are copied one by one
pub copied_after : {R : Type 0} (start rows : List R) → fold (λ done row. done ++ row ∷ []) start rows ≡ start ++ rows
copied_after start [] = sym (append-nil start)
copied_after start (r ∷ rs) = copied_after (start ++ r ∷ []) rs ∙ append_assoc start (r ∷ []) rs

pub copied_all : {R : Type 0} (start rows : List R) → start ≡ [] → fold (λ done row. done ++ row ∷ []) start rows ≡ rows
copied_all start rows none = copied_after start rows ∙ ap (λ zs. zs ++ rows) none

-- the rows of a tree in order between bounds are sorted
pub held_between-sorted : {V D : Type 0} (effect : Option V → Message V D → Option V) (from to : Option Key) (t : Tree V (Message V D)) (rows : Rows V)
    → IsInOrder t → rows ≡ between from to (holds effect t) →
    is_sorted key_cmp rows ≡ true
held_between-sorted effect from to t rows order is = ap (is_sorted key_cmp) is ∙ true_t _ (between-sorted from to (holds effect t) (held-sorted effect t order))
