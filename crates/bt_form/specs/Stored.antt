-- Codes of trees and shapes, which a proof uses to tell their values apart.
use Rattle.std.specs.Prelude.{◌≡◌, refl, ℕ, zero, suc, List, [], ◌∷◌, ◌⊎◌}
use Rattle.std.specs.Coded.{Coded, code_by, coded×, coded⊎, coded_ℕ, coded_list, coded_option}
use Rattle.std.specs.declared.option.Option.{Option}
use Rattle.std.specs.declared.option.Option.TheVariants.{None, Some}
use Rattle.std.proofs.Common.{ap, ◌∙◌, inl, inr}
use Rattle.bt_message.specs.declared.message.Message.{Message}
use Rattle.bt_message.specs.declared.message.Message.TheVariants.{Put, Del, Ups}
use Rattle.bt_keycode.specs.Keys.{Key}
use Rattle.bt_message.specs.declared.measure.Measure.TheVariants.{Bytes, Messages}
use Rattle.bt_form.specs.Flushes.{Child}
use Rattle.bt_form.specs.Messages as messages
use Rattle.bt_form.specs.Messages.{Measure, Rows}
use Rattle.bt_form.specs.Portions.{Portion}
use Rattle.bt_form.specs.Trees.{Shape, Tree, leaf, inner, Nodes, none, node}

-- a node with its pivot, given by its rows or its buffer, or nothing: the end of nodes side by side
abbrev pub Token : Type 0 → Type 0 → Type 0
Token V M = Option (Key × (Rows V ⊎ messages.Messages M))

module _ {V M : Type 0} where
  -- the tokens of nodes side by side, each node's before those of its children, followed by more tokens
  abbrev pub tokens_before : List (Token V M) → Nodes V M → List (Token V M)
  tokens_before more none = None ∷ more
  tokens_before more (node k (leaf rows) ns) = Some (k, inl rows) ∷ tokens_before more ns
  tokens_before more (node k (inner below buffer) ns) = Some (k, inr buffer) ∷ tokens_before (tokens_before more ns) below

  -- a token read before others, which gave these lists of nodes
  abbrev pub with_token : Token V M → List (Nodes V M) → List (Nodes V M)
  with_token None read = none ∷ read
  with_token (Some (k, inl rows)) [] = []
  with_token (Some (k, inl rows)) (ns ∷ read) = node k (leaf rows) ns ∷ read
  with_token (Some (k, inr buffer)) [] = []
  with_token (Some (k, inr buffer)) (below ∷ []) = []
  with_token (Some (k, inr buffer)) (below ∷ ns ∷ read) = node k (inner below buffer) ns ∷ read

  -- the lists of nodes that tokens give
  abbrev pub nodes_of : List (Token V M) → List (Nodes V M)
  nodes_of [] = []
  nodes_of (x ∷ xs) = with_token x (nodes_of xs)

  pub nodes_of-tokens_before : (more : List (Token V M)) (ns : Nodes V M) → nodes_of (tokens_before more ns) ≡ ns ∷ nodes_of more
  nodes_of-tokens_before more none = refl
  nodes_of-tokens_before more (node k (leaf rows) ns) = ap (with_token (Some (k, inl rows))) (nodes_of-tokens_before more ns)
  nodes_of-tokens_before more (node k (inner below buffer) ns) =
      ap (with_token (Some (k, inr buffer)))
      (nodes_of-tokens_before (tokens_before more ns) below ∙ ap (λ read. below ∷ read) (nodes_of-tokens_before more ns))

  -- a tree as one node with the empty key
  abbrev pub tree_tokens : Tree V M → List (Token V M)
  tree_tokens t = tokens_before [] (node [] t none)

  -- the first tree, or an empty leaf if there is none
  abbrev pub first_tree : List (Nodes V M) → Tree V M
  first_tree [] = leaf []
  first_tree (none ∷ read) = leaf []
  first_tree (node k t ns ∷ read) = t

  pub first_tree-tree_tokens : (t : Tree V M) → first_tree (nodes_of (tree_tokens t)) ≡ t
  first_tree-tree_tokens t = ap first_tree (nodes_of-tokens_before [] (node [] t none))

  abbrev pub token_code : Coded V → Coded M → Coded (Token V M)
  token_code value message =
      coded_option
      (coded× (coded_list coded_ℕ)
      (coded⊎ (coded_list (coded× (coded_list coded_ℕ) value)) (coded_list (coded× (coded_list coded_ℕ) message))))

  -- a tree is stored as its tokens
  abbrev pub tree_code : Coded V → Coded M → Coded (Tree V M)
  tree_code value message =
      code_by (List (Token V M)) (coded_list (token_code value message)) tree_tokens (λ xs. first_tree (nodes_of xs)) first_tree-tree_tokens

-- a child is stored as its pivot, its tree and its pending messages
abbrev pub child_code : {V M : Type 0} → Coded V → Coded M → Coded (Child V M)
child_code {V} {M} value message =
    code_by (Key × (Tree V M × messages.Messages M))
    (coded× (coded_list coded_ℕ) (coded× (tree_code value message) (coded_list (coded× (coded_list coded_ℕ) message))))
    (λ c. (c.pivot, (c.tree, c.pending))) (λ p. record { pivot = p.0; tree = p.1.0; pending = p.1.1 }) (λ _. refl)

-- a message to a key is stored as what it carries, if anything
module _ {V D : Type 0} where
  abbrev pub carried : Message V D → Option (V ⊎ D)
  carried (Put value) = Some (inl value)
  carried Del = None
  carried (Ups delta) = Some (inr delta)

  abbrev pub carrying : Option (V ⊎ D) → Message V D
  carrying None = Del
  carrying (Some (inl value)) = Put value
  carrying (Some (inr delta)) = Ups delta

  pub carrying-carried : (m : Message V D) → carrying (carried m) ≡ m
  carrying-carried (Put value) = refl
  carrying-carried Del = refl
  carrying-carried (Ups delta) = refl

  abbrev pub message_code : Coded V → Coded D → Coded (Message V D)
  message_code value delta = code_by (Option (V ⊎ D)) (coded_option (coded⊎ value delta)) carried carrying carrying-carried

-- a measure is stored as a number
abbrev pub measure_number : Measure → ℕ
measure_number Messages = 0
measure_number Bytes = 1

abbrev pub numbered_measure : ℕ → Measure
numbered_measure zero = Messages
numbered_measure (suc n) = Bytes

pub numbered-number : (m : Measure) → numbered_measure (measure_number m) ≡ m
numbered-number Messages = refl
numbered-number Bytes = refl

-- a shape is stored as its three sizes and its measure
abbrev pub shape_code : Coded Shape
shape_code =
    code_by (ℕ × (ℕ × (ℕ × ℕ))) (coded× coded_ℕ (coded× coded_ℕ (coded× coded_ℕ coded_ℕ)))
    (λ s. (s.fanout, (s.buffer, (s.leaf, measure_number s.measure))))
    (λ p. record { fanout = p.0; buffer = p.1.0; leaf = p.1.1.0; measure = numbered_measure p.1.1.1 })
    (λ s. ap (λ m. record { fanout = s.fanout; buffer = s.buffer; leaf = s.leaf; measure = m }) (numbered-number s.measure))

-- a tree with the shape of its nodes
abbrev pub shaped_tree_code : {V M : Type 0} → Coded V → Coded M → Coded (Shape × Tree V M)
shaped_tree_code value message = coded× shape_code (tree_code value message)

-- a portion is stored as its bounds, its subtree and its messages
abbrev pub portion_code : {V M : Type 0} → Coded V → Coded M → Coded (Portion V M)
portion_code {V} {M} value message =
    code_by (Option Key × (Option Key × (Tree V M × messages.Messages M)))
    (coded× (coded_option (coded_list coded_ℕ)) (coded× (coded_option (coded_list coded_ℕ)) (coded× (tree_code value message) (coded_list (coded× (coded_list coded_ℕ) message)))))
    (λ p. (p.low, (p.high, (p.tree, p.newer)))) (λ c. record { low = c.0; high = c.1.0; tree = c.1.1.0; newer = c.1.1.1 }) (λ _. refl)
