-- The path to a key, and the effect of the messages on it on the value there.
use Rattle.std.proofs.Common.{◌≡◌, ◌≤◌, map, ℕ, suc, true, false, cond, not, List, [], ◌∷◌, ◌++◌, get_or, length, drop, refl, sym, ap, subst, ◌∙◌, true≢false, arith}
use Rattle.std.specs.Bool.{◌==◌}
use Rattle.std.specs.Ordering.{eq_by_cmp, is_eq, is_lt, ordering_index, ordering_reverse}
use Rattle.std.specs.declared.cmp.Ordering.{Ordering}
use Rattle.std.specs.declared.cmp.Ordering.TheVariants.{Less, Equal, Greater}
use Rattle.std.specs.declared.option.Option.{Option}
use Rattle.std.specs.declared.option.Option.TheVariants.{None, Some}
use Rattle.bt_keycode.specs.Keys.{AllFrom, Key, key_cmp, is_before, IsSorted}
use Rattle.bt_message.specs.declared.message.Message.{Message}
use Rattle.bt_form.specs.Messages.{Messages, from, value_after}
use Rattle.bt_form.specs.Trees.{Siblings, Tree, inner, nodes}
use Rattle.bt_read.specs.inside.Lookups.{pivots_up_to, tree_value, value_below}
use Rattle.bt_read.specs.inside.ValuesSoFar.{BeginsWith, Resets, start_value, option_of}
use Rattle.bt_read.specs.declared.value_so_far.ValueSoFar.{ValueSoFar}
use Rattle.bt_keycode.proofs.offered.Order.{all_within-from, apart_back, not_before_itself, total_keys}
use Rattle.bt_form.proofs.offered.rows.Values.{value-above, value-append}

-- a comparison of the keys the other way round
tied : (k at : Key) (o : Ordering) → o ≡ key_cmp at k → false ≡ not (ordering_index o == 1) → eq_by_cmp key_cmp k at ≡ true
tied k at Less e t = absurd (true≢false (sym t))
tied k at Equal e t = ap is_eq (total_keys.antisymm k at ∙ ap ordering_reverse (sym e))
tied k at Greater e t = absurd (true≢false (sym t))

past : (k at : Key) (o : Ordering) → o ≡ key_cmp at k → true ≡ not (ordering_index o == 1) → is_before at k ≡ false → is_before k at ≡ true
past k at Less e t l = absurd (true≢false (ap is_lt e ∙ l))
past k at Equal e t l = absurd (true≢false t)
past k at Greater e t l = ap is_lt (total_keys.antisymm k at ∙ ap ordering_reverse (sym e))

-- an inner node, with the trees, pivots and messages below it, and the child at a place
pub record IsChildAt {V D : Type 0} (node child : Tree V (Message V D)) (buffer : Messages (Message V D)) (ps : List Key) (place : ℕ) : Type 0 where
  pub siblings : Siblings V (Message V D)
  pub trees : List (Tree V (Message V D))
  pub node_is : node ≡ inner (nodes siblings) buffer
  pub trees_are : trees ≡ map (λ y. y.1) siblings
  pub pivots_are : ps ≡ map (λ y. y.0) (drop 1 siblings)
  pub some : 1 ≤ length siblings
  pub at : child ≡ get_or trees place child

module _ {V D : Type 0} (effect : Option V → Message V D → Option V) where
  -- ---- children

  -- a value below a node is found in the child with the last pivot that is at most the key
  one_child : (k : Key) (x : Key × Tree V (Message V D)) (xs : Siblings V (Message V D)) (d : Tree V (Message V D)) →
      value_below effect k (nodes (x ∷ xs)) ≡ tree_value effect k (get_or (map (λ y. y.1) (x ∷ xs)) (pivots_up_to k (map (λ y. y.0) xs)) d)
  one_child k x [] d = refl
  one_child k x (y ∷ ys) d = elim (is_before k y.0) as (λ b.
      cond b (tree_value effect k x.1) (value_below effect k (nodes (y ∷ ys))) ≡ tree_value effect k (get_or (map (λ z. z.1) (x ∷ y ∷ ys)) (cond b 0 (suc (pivots_up_to k (map (λ z. z.0) ys)))) d)) [
        | true ↦ refl
        | false ↦ one_child k y ys d
      ]

  pub child_at : (k : Key) (xs : Siblings V (Message V D)) (d : Tree V (Message V D)) → 1 ≤ length xs →
      value_below effect k (nodes xs) ≡ tree_value effect k (get_or (map (λ y. y.1) xs) (pivots_up_to k (map (λ y. y.0) (drop 1 xs))) d)
  child_at k [] d some = absurd (omega (arith, some))
  child_at k (x ∷ xs) d some = one_child k x xs d

  -- the value at a key in an inner node, from the value in that child
  pub along : (k : Key) {node child : Tree V (Message V D)} {buffer : Messages (Message V D)} {ps : List Key} {place : ℕ} {old : Option V} → IsChildAt node child buffer ps place →
      place ≡ pivots_up_to k ps → old ≡ tree_value effect k child → value_after effect k buffer old ≡ tree_value effect k node
  along k {child = child} {buffer = buffer} c is below =
      let trees = map (λ y. y.1) c.siblings in
      ap (value_after effect k buffer)
      (below ∙ ap (tree_value effect k) (c.at ∙ ap (λ ys. get_or ys _ child) c.trees_are ∙ ap (λ i. get_or trees i child) (is ∙ ap (pivots_up_to k) c.pivots_are))
      ∙ sym (child_at k c.siblings child c.some))
      ∙ sym (ap (tree_value effect k) c.node_is)

  -- ---- messages

  -- messages with a start, applied to the value below
  pub begins_at : (k : Key) (buffer left : Messages (Message V D)) (start at : Option (ValueSoFar V D)) (value : Option V) → BeginsWith effect k buffer start left → start ≡ at →
      value_after effect k left (start_value at value) ≡ value_after effect k buffer value
  begins_at k buffer left start at value begins is = sym (begins value ∙ ap (λ s. value_after effect k left (start_value s value)) is)

  -- the value in an inner node whose messages don't depend on the value below
  pub along_reset : (k : Key) (xs : Siblings V (Message V D)) (buffer left : Messages (Message V D)) (node : Tree V (Message V D)) (start : Option (ValueSoFar V D)) (held : ValueSoFar V D) →
      node ≡ inner (nodes xs) buffer → BeginsWith effect k buffer start left → start ≡ Some held → value_after effect k left (option_of held) ≡ tree_value effect k node
  along_reset k xs buffer left node start held here begins is = begins_at k buffer left start (Some held) (value_below effect k (nodes xs)) begins is ∙ sym (ap (tree_value effect k) here)

  -- all messages give for a value at a key what the messages that are left give for some value
  abbrev pub LeadsTo : Key → Messages (Message V D) → Messages (Message V D) → Type 0
  LeadsTo k ms left = (old : Option V) → (value : Option V) × (value_after effect k ms old ≡ value_after effect k left value)

  -- messages before a key change nothing at it or past it
  pub value_after-later : (p k : Key) (ms : Messages (Message V D)) (o : Option V) → is_before k p ≡ false → value_after effect k (from p ms) o ≡ value_after effect k ms o
  value_after-later p k [] o later = refl
  value_after-later p k (m ∷ ms) o later = elim (is_before m.0 p) as (λ b. is_before m.0 p ≡ b →
      value_after effect k (cond (not b) (m ∷ from p ms) (from p ms)) o ≡ value_after effect k ms (cond (eq_by_cmp key_cmp k m.0) (effect o m.1) o)) [
        | true ↦ λ t. value_after-later p k ms o later ∙ ap (λ b. value_after effect k ms (cond b (effect o m.1) o)) (sym (apart_back m.0 p k t later))
        | false ↦ λ t. value_after-later p k ms (cond (eq_by_cmp key_cmp k m.0) (effect o m.1) o) later
      ] refl

  -- messages to smaller keys change nothing
  pub value_after-from : (k : Key) (ms : Messages (Message V D)) (o : Option V) → value_after effect k (from k ms) o ≡ value_after effect k ms o
  value_after-from k ms o = value_after-later k k ms o (not_before_itself k)

  pub all_from : (k : Key) (ms : Messages (Message V D)) → AllFrom k (from k ms)
  all_from k [] = tt
  all_from k (m ∷ ms) = elim (is_before m.0 k) as (λ b. is_before m.0 k ≡ b → AllFrom k (cond (not b) (m ∷ from k ms) (from k ms))) [
    | true ↦ λ t. all_from k ms
    | false ↦ λ t. (t, all_from k ms)
  ] refl

  module _ (k : Key) (ms rest : Messages (Message V D)) (at : Key) (m : Message V D) (here : ms ≡ (at, m) ∷ rest) (o : Ordering) (compared : o ≡ key_cmp at k) where
    -- from a message past the key on, nothing changes
    pub none_left : true ≡ not (ordering_index o == 1) → (value : Option V) → AllFrom k ms → IsSorted ms → value ≡ value_after effect k ms value
    none_left test value all sorted =
        let low = (subst (AllFrom k) here all).0 in
        let up = (subst IsSorted here sorted).0 in
        sym (ap (λ xs. value_after effect k xs value) here
        ∙ value-above effect k at None ((at, m) ∷ rest) value (past k at o compared test low) (record { from = not_before_itself at; below = refl }, all_within-from at rest up))

    -- a message to the key has its effect
    pub one_more : false ≡ not (ordering_index o == 1) → (value changed : Option V) → changed ≡ effect value m → value_after effect k ms value ≡ value_after effect k rest changed
    one_more test value changed is =
        ap (λ xs. value_after effect k xs value) here
        ∙ ap (λ b. value_after effect k rest (cond b (effect value m) value)) (tied k at o compared test)
        ∙ ap (value_after effect k rest) (sym is)

    -- so the pass continues with the others
    pub goes_on : false ≡ not (ordering_index o == 1) → (buffer : Messages (Message V D)) → LeadsTo k buffer ms → LeadsTo k buffer rest
    goes_on test buffer leads old = let so_far = leads old in (effect so_far.0 m, so_far.1 ∙ one_more test so_far.0 (effect so_far.0 m) refl)

    -- and starts again if the message doesn't depend on the old value
    pub begins_anew : false ≡ not (ordering_index o == 1) → (buffer left : Messages (Message V D)) (held : ValueSoFar V D) → LeadsTo k buffer ms → Resets effect m (option_of held) → left ≡ rest →
        BeginsWith effect k buffer (Some held) left
    begins_anew test buffer left held leads resets is old =
        let so_far = leads old in
        so_far.1 ∙ one_more test so_far.0 (option_of held) (sym (resets so_far.0)) ∙ ap (λ zs. value_after effect k zs (option_of held)) (sym is)

    pub rest_from : AllFrom k ms → AllFrom k rest
    rest_from all = (subst (AllFrom k) here all).1

    pub rest_sorted : IsSorted ms → IsSorted rest
    rest_sorted sorted = (subst IsSorted here sorted).1

  -- the value after the messages from the key on
  pub all_left : (k : Key) (buffer ms : Messages (Message V D)) (old : Option V) → ms ≡ from k buffer → value_after effect k buffer old ≡ value_after effect k ms old
  all_left k buffer ms old is = sym (ap (λ xs. value_after effect k xs old) is ∙ value_after-from k buffer old)

  -- in two parts, and in each of them those before the key are left out
  pub two_parts : (k : Key) (first second ms these those : Messages (Message V D)) (old value wanted : Option V) → first ++ second ≡ ms → these ≡ from k first → those ≡ from k second →
      value ≡ value_after effect k these old → wanted ≡ value_after effect k those value → wanted ≡ value_after effect k ms old
  two_parts k first second ms these those old value wanted parts these_are those_are value_is wanted_is =
      wanted_is ∙ sym (all_left k second those value those_are)
      ∙ ap (value_after effect k second) (value_is ∙ sym (all_left k first these old these_are))
      ∙ sym (value-append effect k first second old)
      ∙ ap (λ zs. value_after effect k zs old) parts

  -- before any is read
  pub leads_from : (k : Key) (buffer ms : Messages (Message V D)) → ms ≡ from k buffer → LeadsTo k buffer ms
  leads_from k buffer ms is old = (old, all_left k buffer ms old is)

  pub left_from : (k : Key) (buffer ms : Messages (Message V D)) → ms ≡ from k buffer → AllFrom k ms
  left_from k buffer ms is = subst (AllFrom k) (sym is) (all_from k buffer)
