-- The text and the height of a node from those of its children. Serves the writing of an image.
use Rattle.std.proofs.Common.{ℕ, zero, suc, ◌+◌, ◌<◌, ◌≤◌, ◌≡◌, ◌∙◌, List, [], ◌∷◌, ◌++◌, Option, Some, None, refl, sym, ap, take, length, arith, append_assoc, append-nil, max, take_all}
use Rattle.std.specs.Prelude.{flat_map, min, option_map, slice_get}
use Rattle.bt_message.specs.declared.message.Message.{Message}
use Rattle.bt_keycode.specs.Keys.{Key}
use Rattle.bt_form.specs.Trees.{Tree, leaf, inner, Nodes, none, node, Siblings, children, height, height_below}
use Rattle.bt_form.specs.Walks.{children_of}
use Rattle.bt_show.specs.inside.Drawings.{child_text, highest, own_text, pivot_text, siblings_text}
use Rattle.bt_show.specs.Images.{deeper, inner_line, message_line, node_text, others_text, pivot_line}

pub same_item : {X : Type 0} (x y : X) → Some x ≡ Some y → x ≡ y
same_item x y is = cc

-- the lines of one more item
pub lines_more : {X : Type 0} (f : X → List ℕ) (xs : List X) (i : ℕ) (x : X) → slice_get xs i ≡ Some x → flat_map f (take (suc i) xs) ≡ flat_map f (take i xs) ++ f x
lines_more f [] i x is = cc
lines_more f (y ∷ ys) zero x is = append-nil (f y) ∙ ap f (same_item y x is)
lines_more f (y ∷ ys) (suc i) x is = ap (λ (l : List ℕ). f y ++ l) (lines_more f ys i x is) ∙ sym (append_assoc (f y) (flat_map f (take i ys)) (f x))

below_listed : {V M : Type 0} (ns : Nodes V M) → height_below ns ≡ highest (children ns)
below_listed none = refl
below_listed (node k t ns) = ap (max (height t)) (below_listed ns)

-- a node is one higher than its children
pub height_listed : {V M : Type 0} (t : Tree V M) → height t ≡ suc (highest (children_of t))
height_listed (leaf rows) = refl
height_listed (inner ns buffer) = ap suc (below_listed ns)

pub highest_more : {V M : Type 0} (xs : Siblings V M) (i : ℕ) (x : Key × Tree V M) → slice_get xs i ≡ Some x → highest (take (suc i) xs) ≡ max (highest (take i xs)) (height x.1)
highest_more [] i x is = cc
highest_more (y ∷ ys) zero x is = omega (arith, ap (λ (z : Key × Tree _ _). height z.1) (same_item y x is))
highest_more (y ∷ ys) (suc i) x is = omega (arith, highest_more ys i x is)

-- a child is no higher than the highest
pub child_lower : {V M : Type 0} (xs : Siblings V M) (i : ℕ) (x : Key × Tree V M) → slice_get xs i ≡ Some x → height x.1 ≤ highest xs
child_lower [] i x is = cc
child_lower (y ∷ ys) zero x is = omega (arith, ap (λ (z : Key × Tree _ _). height z.1) (same_item y x is))
child_lower (y ∷ ys) (suc i) x is = omega (arith, child_lower ys i x is)

-- a list that grows by what was written
pub written_more : (out before after so_far next line : List ℕ) → after ≡ before ++ line → before ≡ out ++ so_far → next ≡ so_far ++ line → after ≡ out ++ next
written_more out before after so_far next line wrote was more =
    wrote ∙ ap (λ (l : List ℕ). l ++ line) was ∙ append_assoc out so_far line ∙ ap (λ (l : List ℕ). out ++ l) (sym more)

pub lines_next : {X : Type 0} (f : X → List ℕ) (xs : List X) (i : ℕ) (x : X) → slice_get xs i ≡ Some x → flat_map f (take (i + 1) xs) ≡ flat_map f (take i xs) ++ f x
lines_next f xs i x is =
    let next : i + 1 ≡ suc i = omega arith in
    rw next (lines_more f xs i x is)

-- ---- children found at their places

pub child_at : {X Y : Type 0} (o : Option (X × Y)) (y : Y) → option_map (λ p. p.1) o ≡ Some y → (p : X × Y) × (o ≡ Some p) × (p.1 ≡ y)
child_at None y is = cc
child_at (Some p) y is = (p, refl, same_item p.1 y is)

pub child_below : {V M : Type 0} (t child : Tree V M) (i : ℕ) → option_map (λ p. p.1) (slice_get (children_of t) i) ≡ Some child → height child < height t
child_below t child i is =
    let found = child_at (slice_get (children_of t) i) child is in
    let lower = child_lower (children_of t) i found.0 found.1 in
    let same = ap height found.2 in
    let all = height_listed t in
    omega (arith, lower, same, all)

pub highest_next : {V M : Type 0} (xs : Siblings V M) (i : ℕ) (child : Tree V M) (most before after high : ℕ) → option_map (λ p. p.1) (slice_get xs i) ≡ Some child
    → before ≡ min (highest (take i xs)) most → high ≡ min (height child) most → after ≡ max before high → after ≡ min (highest (take (i + 1) xs)) most
highest_next xs i child most before after high is was found step =
    let at = child_at (slice_get xs i) child is in
    let same = ap height at.2 in
    let next : i + 1 ≡ suc i = omega arith in
    let more = highest_more xs i at.0 at.1 in
    rw next (omega (arith, same, more, was, found, step))

pub highest_last : {V M : Type 0} (t : Tree V M) (i most before after : ℕ) → length (children_of t) ≤ i → before ≡ min (highest (take i (children_of t))) most → after ≡ min (before + 1) most
    → after ≡ min (height t) most
highest_last t i most before after past was step =
    let whole = ap highest (take_all i (children_of t) past) in
    let all = height_listed t in
    omega (arith, whole, all, was, step)

-- for the text after the key of a value, and after that of an upsert
module _ {V D : Type 0} (value_text : V → List ℕ) (delta_text : D → List ℕ) where
  -- the lines of one more child
  pub siblings_more : (indent : List ℕ) (place : ℕ) (xs : Siblings V (Message V D)) (i : ℕ) (x : Key × Tree V (Message V D)) → slice_get xs i ≡ Some x
      → siblings_text value_text delta_text indent place (take (suc i) xs) ≡ siblings_text value_text delta_text indent place (take i xs) ++ child_text value_text delta_text indent (place + i) x
  siblings_more indent place [] i x is = cc
  siblings_more indent place (y ∷ ys) zero x is =
      let here : place ≡ place + 0 = omega arith in
      append-nil (child_text value_text delta_text indent place y) ∙ ap (child_text value_text delta_text indent place) (same_item y x is)
      ∙ ap (λ (p : ℕ). child_text value_text delta_text indent p x) here
  siblings_more indent place (y ∷ ys) (suc i) x is =
      let here : suc place + i ≡ place + suc i = omega arith in
      ap (λ (l : List ℕ). child_text value_text delta_text indent place y ++ l) (siblings_more indent (suc place) ys i x is
      ∙ ap (λ (p : ℕ). siblings_text value_text delta_text indent (suc place) (take i ys) ++ child_text value_text delta_text indent p x) here)
      ∙ sym (append_assoc (child_text value_text delta_text indent place y) (siblings_text value_text delta_text indent (suc place) (take i ys))
      (child_text value_text delta_text indent (place + suc i) x))

  others_listed : (indent : List ℕ) (place : ℕ) (ns : Nodes V (Message V D)) → others_text value_text delta_text indent ns ≡ siblings_text value_text delta_text indent (suc place) (children ns)
  others_listed indent place none = refl
  others_listed indent place (node k t ns) =
      ap (λ (l : List ℕ). pivot_line indent k ++ (node_text value_text delta_text indent t ++ l)) (others_listed indent (suc place) ns)
      ∙ sym (append_assoc (pivot_line indent k) (node_text value_text delta_text indent t) (siblings_text value_text delta_text indent (suc (suc place)) (children ns)))

  -- a node has its own lines, followed by those of its children
  node_listed : (indent : List ℕ) (t : Tree V (Message V D))
      → node_text value_text delta_text indent t ≡ own_text value_text delta_text indent (deeper indent) t ++ siblings_text value_text delta_text
      (deeper indent) 0 (children_of t)
  node_listed indent (leaf rows) = sym (append-nil _)
  node_listed indent (inner none buffer) =
      let own = inner_line indent 0 (length buffer) in
      let lines = flat_map (message_line value_text delta_text (deeper indent)) buffer in
      ap (λ (l : List ℕ). own ++ l) (append-nil lines) ∙ sym (append-nil (own ++ lines))
  node_listed indent (inner (node k t ns) buffer) =
      let own = inner_line indent (length (children (node k t ns))) (length buffer) in
      let lines = flat_map (message_line value_text delta_text (deeper indent)) buffer in
      ap (λ (l : List ℕ). own ++ (lines ++ (node_text value_text delta_text (deeper indent) t ++ l))) (others_listed (deeper indent) 0 ns)
      ∙ sym (append_assoc own lines (node_text value_text delta_text (deeper indent) t ++ siblings_text value_text delta_text (deeper indent) 1 (children ns)))

  -- one more child, after its pivot, was added
  pub child_written : (xs : Siblings V (Message V D)) (i : ℕ) (below : List ℕ) (child : Tree V (Message V D)) (out own before mid after : List ℕ)
      → option_map (λ p. p.1) (slice_get xs i) ≡ Some child → mid ≡ before ++ pivot_text below i (slice_get xs i) → after ≡ mid ++ node_text value_text delta_text below child
      → before ≡ out ++ (own ++ siblings_text value_text delta_text below 0 (take i xs)) → after ≡ out ++ (own ++ siblings_text value_text delta_text below 0 (take (i + 1) xs))
  child_written xs i below child out own before mid after is pivot text was =
      let at = child_at (slice_get xs i) child is in
      let next : i + 1 ≡ suc i = omega arith in
      let here : 0 + i ≡ i = omega arith in
      let so_far = siblings_text value_text delta_text below 0 (take i xs) in
      let line = pivot_text below i (Some at.0) in
      let more : siblings_text value_text delta_text below 0 (take (i + 1) xs) ≡ so_far ++ child_text value_text delta_text below i at.0 =
      ap (λ (n : ℕ). siblings_text value_text delta_text below 0 (take n xs)) next ∙ siblings_more below 0 xs i at.0 at.1
      ∙ ap (λ (n : ℕ). so_far ++ child_text value_text delta_text below n at.0) here in
      let wrote : after ≡ before ++ child_text value_text delta_text below i at.0 =
      text ∙ ap (λ (l : List ℕ). l ++ node_text value_text delta_text below child) (pivot ∙ ap (λ o. before ++ pivot_text below i o) at.1)
      ∙ ap (λ t. (before ++ line) ++ node_text value_text delta_text below t) (sym at.2) ∙ append_assoc before line (node_text value_text delta_text below at.0.1) in
      written_more out before after (own ++ so_far) (own ++ siblings_text value_text delta_text below 0 (take (i + 1) xs)) (child_text value_text delta_text below i at.0) wrote was
      (ap (λ (l : List ℕ). own ++ l) more ∙ sym (append_assoc own so_far (child_text value_text delta_text below i at.0)))

  -- a node whose own lines and those of all its children were added
  pub node_written : (t : Tree V (Message V D)) (indent below : List ℕ) (i : ℕ) (out after : List ℕ) → below ≡ deeper indent → length (children_of t) ≤ i
      → after ≡ out ++ (own_text value_text delta_text indent below t ++ siblings_text value_text delta_text below 0 (take i (children_of t))) → after ≡ out ++ node_text value_text delta_text indent t
  node_written t indent below i out after is past was =
      let whole : own_text value_text delta_text indent below t ++ siblings_text value_text delta_text below 0 (take i (children_of t)) ≡ node_text value_text delta_text indent t =
      rw (is, take_all i (children_of t) past) (sym (node_listed indent t)) in
      was ∙ ap (λ (l : List ℕ). out ++ l) whole
