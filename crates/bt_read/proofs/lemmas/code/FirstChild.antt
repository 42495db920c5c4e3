-- The first child of a portion, and the rest of the portion after it.
use Rattle.std.proofs.Common.{◌≡◌, ◌∙◌, ◌<◌, ◌≤◌, ◌+◌, ◌-◌, ◌++◌, ◌∷◌, ℕ, List, None, Option, Some, [], true, false, cond, ap, arith, drop, get_or, length, length-drop, map, not, subst, sym}
use Rattle.std.proofs.lemmas.List.{append-nil, length-map}
use Rattle.std.specs.Option.{option_or}
use Rattle.bt_keycode.specs.Keys.{AllWithin, IsSorted, Key, is_before_lower, is_before_upper, is_between}
use Rattle.bt_value.specs.Lists.{concatenation}
use Rattle.bt_messages.specs.Bins.{LieBetween}
use Rattle.bt_message.specs.Messages.{messages_outside as outside}
use Rattle.bt_message.specs.declared.message.Message.{Message}
use Rattle.bt_form.specs.Fits.{IsInOrder}
use Rattle.bt_form.specs.Flushes.{holds}
use Rattle.bt_form.specs.Messages.{Messages, between, rows_after, value_after, with_messages}
use Rattle.bt_form.specs.Portions.{Divide, Portion, rows_of, value_in}
use Rattle.bt_form.specs.Trees.{Siblings, Tree, height, inner, nodes, pivots_of}
use Rattle.bt_read.specs.inside.Bounds.{next_bound}
use Rattle.bt_read.specs.inside.Lookups.{first_place, pivots_up_to}
use Rattle.bt_read.specs.inside.Openings.{children_left, pivots_in}
use Rattle.bt_read.proofs.lemmas.code.ChildBounds.{belongs, next_begins, next_below, next_from, next_within}
use Rattle.bt_read.proofs.lemmas.code.LookupPath.{IsChildAt}
use Rattle.bt_read.proofs.lemmas.code.PivotSearch.{pivots_rise}
use Rattle.bt_read.proofs.lemmas.code.PortionSteps.{child_inside, on_one_side, owners-append, rest_inside}
use Rattle.bt_read.proofs.offered.RowsOfChildren.{child_in_order, child_lower}
use Rattle.bt_read.proofs.lemmas.code.RowsShown.{AreMessagesTo, child_found, last_rows, next_rows, rest_found}
use Rattle.bt_form.proofs.offered.flushes.Groups.{children-nodes}
use Rattle.bt_form.proofs.offered.keys.SortedLists.{sorted-where}
use Rattle.bt_read.proofs.lemmas.lookups.BinOfKey.{bin-between}
use Rattle.bt_form.proofs.offered.rows.Between.{between-within, cut-within, rest-within}
use Rattle.bt_messages.proofs.offered.Placed.{sorted-with_messages}
use Rattle.bt_form.proofs.offered.rows.Buffers.{within-with_messages}

-- a tree between two bounds, with newer messages to it
abbrev portion_of : {V D : Type 0} → Option Key → Option Key → Tree V (Message V D) → Messages (Message V D) → Portion V (Message V D)
portion_of low to tree newer = record { low = low; high = to; tree = tree; newer = newer }

-- a portion of an inner node, its first child, the bounds of this child, and the messages to it: those above it, and those of its own bin
pub record FirstChild {V D : Type 0} (portion : Portion V (Message V D)) : Type 0 where
  pub low : Option Key
  pub to : Option Key
  pub tree : Tree V (Message V D)
  pub newer : Messages (Message V D)
  pub xs : Siblings V (Message V D)
  pub bins : List (Messages (Message V D))
  pub ts : List (Tree V (Message V D))
  pub ps : List Key
  pub place : ℕ
  pub child : Tree V (Message V D)
  pub next : Option Key
  pub high : Option Key
  pub above : Messages (Message V D)
  pub own : Messages (Message V D)
  pub merged : Messages (Message V D)
  pub seen : portion_of low to tree newer ≡ portion
  pub order : IsInOrder tree
  pub sorted : IsSorted newer
  pub within : AllWithin low to newer
  pub here : tree ≡ inner (nodes xs) (concatenation bins)
  pub lie : LieBetween ps bins
  pub items : ts ≡ map (λ x. x.1) xs
  pub pivots : ps ≡ pivots_of xs
  pub some : 1 ≤ length xs
  pub begins : place ≡ first_place low ps
  pub bound : place ≤ length ps
  pub next_is : next ≡ next_bound to place ps
  pub high_is : high ≡ option_or next to
  pub at : child ≡ get_or ts place child
  pub above_is : above ≡ between None high newer
  pub own_is : own ≡ between low high (get_or bins place [])
  pub own_sorted : IsSorted own
  pub merged_is : merged ≡ with_messages above own

module _ {V D : Type 0} {portion : Portion V (Message V D)} (f : FirstChild portion) where
  there : f.place < length f.ts
  there = omega (arith, f.bound, f.some, ap length f.pivots, ap length f.items, length-map f.xs (λ x. x.1), length-map (drop 1 f.xs) (λ x. x.0), length-drop 1 f.xs)

  in_order : IsInOrder f.child
  in_order = child_in_order f.tree f.xs (concatenation f.bins) f.here f.ts f.items f.place f.child there f.at f.order

  abbrev is_child : IsChildAt f.tree f.child (concatenation f.bins) f.ps f.place
  is_child = record { siblings = f.xs; trees = f.ts; node_is = f.here; trees_are = f.items; pivots_are = f.pivots; some = f.some; at = f.at }

  -- the child is lower, and the statements about portions hold for it
  pub lower : height f.child < height portion.tree
  lower = subst (λ n. height f.child < n) (ap (λ p. height p.tree) f.seen) (child_lower f.tree f.xs (concatenation f.bins) f.here f.ts f.items f.place f.child there f.at)

  pub child_meets : IsInOrder f.child × IsSorted f.merged × AllWithin f.low f.high f.merged
  child_meets =
      let above = subst (AllWithin f.low f.high) (sym f.above_is) (cut-within f.low f.to f.high f.newer f.within) in
      let own = subst (AllWithin f.low f.high) (sym f.own_is) (between-within f.low f.high (get_or f.bins f.place [])) in (
        in_order,
        subst IsSorted (sym f.merged_is) (sorted-with_messages f.above f.own f.own_sorted),
        subst (AllWithin f.low f.high) (sym f.merged_is) (within-with_messages f.low f.high f.above f.own above own),
      )

  -- keys between its bounds belong to it
  belongs_there : (q : Key) → is_between f.low f.high q ≡ true → f.place ≡ pivots_up_to q f.ps
  belongs_there q inside = belongs f.low f.to f.next f.high f.ps f.place q f.begins f.next_is f.high_is inside

  abbrev pub child_portion : Portion V (Message V D)
  child_portion = record { low = f.low; high = f.high; tree = f.child; newer = f.merged }

  abbrev all_of : Portion V (Message V D)
  all_of = record { low = f.low; high = f.to; tree = f.tree; newer = f.newer }

  module _ (effect : Option V → Message V D → Option V) where
    own_does : (q : Key) → is_between f.low f.high q ≡ true → (old : Option V) → value_after effect q f.own old ≡ value_after effect q (concatenation f.bins) old
    own_does q inside = bin-between effect f.low f.high f.ps f.bins f.place f.own f.lie f.own_is q inside (belongs_there q inside)

    messages : AreMessagesTo effect f.ps f.place f.low f.high (concatenation f.bins) f.newer f.merged
    messages = record {
      above = f.above;
      own = f.own;
      belongs = belongs_there;
      own_does = own_does;
      own_sorted = f.own_sorted;
      above_is = f.above_is;
      merged_is = f.merged_is;
    }

    found : (q : Key) → is_between f.low f.high q ≡ true → value_in effect q child_portion ≡ value_in effect q all_of
    found = child_found effect is_child f.order there messages

    -- the last child is all that is left
    pub last_child : f.next ≡ None → Divide effect (portion ∷ []) (child_portion ∷ [])
    last_child none = let last : f.high ≡ f.to = f.high_is ∙ ap (λ n. option_or n f.to) none in subst (λ p. Divide effect (p ∷ []) (child_portion ∷ [])) f.seen record {
      rows = ap (λ l. l ++ []) (last_rows effect is_child f.order there messages f.to last);
      owned = λ q. ap {B = ℕ} (λ h. cond (is_between f.low h q) 1 0) last;
      values = λ q value have. ((λ inside. found q inside ∙ have.0 (ap (λ h. is_between f.low h q) (sym last) ∙ inside)), tt);
      chained = λ from end chain. (chain.0, last ∙ chain.1);
    }

  -- the next child begins at a key, with the rest of the messages
  module _ (left : Messages (Message V D)) (left_is : left ≡ outside None f.high f.newer) (key : (p : Key) × (f.next ≡ Some p)) where
    abbrev p : Key
    p = key.0

    bound_is : next_bound f.to f.place f.ps ≡ Some p
    bound_is = sym f.next_is ∙ key.1

    ends : f.high ≡ Some p
    ends = f.high_is ∙ ap (λ n. option_or n f.to) key.1

    from_low : is_before_lower f.low p ≡ false
    from_low = next_from f.low f.to p f.ps f.place bound_is f.begins

    below_to : is_before_upper f.to p ≡ true
    below_to = next_below f.low f.to p f.ps f.place bound_is

    abbrev pub others : Portion V (Message V D)
    others = record { low = f.next; high = f.to; tree = f.tree; newer = left }

    pub others_meet : IsInOrder f.tree × IsSorted left × AllWithin f.next f.to left
    others_meet = (
      f.order,
      subst IsSorted (sym left_is) (sorted-where (λ k. not (is_between None f.high k)) f.newer f.sorted),
      subst (λ n. AllWithin n f.to left) (sym key.1) (subst (AllWithin (Some p) f.to) (sym (left_is ∙ ap (λ h. outside None h f.newer) ends)) (rest-within f.low f.to p f.newer f.within)),
    )

    pub fewer_left : (others.tree ≡ portion.tree) × (children_left others < children_left portion)
    fewer_left =
        let pivots_are : pivots_in f.tree ≡ f.ps = ap pivots_in f.here ∙ ap pivots_of (children-nodes f.xs) ∙ sym f.pivots in
        let rising = pivots_rise f.tree f.xs (concatenation f.bins) f.ps f.here f.pivots f.order in
        let others_left : length (pivots_in f.tree) - first_place f.next (pivots_in f.tree) ≡ length f.ps - first_place f.next f.ps = ap (λ ps. length ps - first_place f.next ps) pivots_are in
        let all_left : length (pivots_in f.tree) - first_place f.low (pivots_in f.tree) ≡ length f.ps - first_place f.low f.ps = ap (λ ps. length ps - first_place f.low ps) pivots_are in
        let begins = next_begins f.low f.to p f.ps f.place bound_is rising in
        let fewer : length (pivots_in f.tree) - first_place f.next (pivots_in f.tree) < length (pivots_in f.tree) - first_place f.low (pivots_in f.tree) = omega (
          arith,
          others_left,
          all_left,
          ap (λ n. first_place n f.ps) key.1,
          begins,
          f.begins,
          next_within f.low f.to p f.ps f.place bound_is,
        ) in (ap (λ q. q.tree) f.seen, subst (λ q. children_left others < children_left q) f.seen fewer)

    module _ (effect : Option V → Message V D → Option V) where
      others_found : (q : Key) → is_between (Some p) f.to q ≡ true → value_in effect q others ≡ value_in effect q all_of
      others_found = rest_found effect is_child f.order there (messages effect) f.to p left ends left_is

      -- the child, and then the others
      pub child_and_others : Divide effect (portion ∷ []) (child_portion ∷ others ∷ [])
      child_and_others = subst (λ q. Divide effect (q ∷ []) (child_portion ∷ others ∷ [])) f.seen record {
        rows = ap (λ n. rows_of effect child_portion ++ (between n f.to (rows_after effect left (holds effect f.tree)) ++ [])) key.1
            ∙ ap (λ l. rows_of effect child_portion ++ l) (append-nil (between (Some p) f.to (rows_after effect left (holds effect f.tree))))
            ∙ next_rows effect is_child f.order there (messages effect) f.to p left ends left_is from_low below_to
            ∙ sym (append-nil (rows_of effect all_of));
        owned = λ q. owners-append q (child_portion ∷ []) (others ∷ [])
            ∙ ap {B = ℕ} (λ h. cond (is_between f.low h q) 1 0 + cond (is_between f.next f.to q) 1 0) ends
            ∙ ap {B = ℕ} (λ n. cond (is_between f.low (Some p) q) 1 0 + cond (is_between n f.to q) 1 0) key.1
            ∙ on_one_side f.low f.to p q from_low below_to;
        values = λ q value have. (
          (λ inside. found effect q inside ∙ have.0 (child_inside f.low f.high f.to p ends from_low below_to q inside)),
          (
            λ inside.
                let following : is_between (Some p) f.to q ≡ true = ap (λ n. is_between n f.to q) (sym key.1) ∙ inside in
                others_found q following ∙ have.0 (rest_inside f.low f.high f.to p ends from_low below_to q following),
            tt,
          ),
        );
        chained = λ from end chain. (chain.0, (key.1 ∙ sym ends, chain.1));
      }
