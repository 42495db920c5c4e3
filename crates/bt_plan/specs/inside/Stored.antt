-- Codes of trees in pieces, which a proof uses to tell their values apart.
use Rattle.std.specs.Prelude.{◌≡◌, refl, ℕ, List, [], ◌∷◌, ◌⊎◌}
use Rattle.std.specs.Coded.{Coded, code_by, coded×, coded⊎, coded_ℕ, coded_list, coded_option}
use Rattle.std.specs.declared.option.Option.{Option}
use Rattle.std.specs.declared.option.Option.TheVariants.{None, Some}
use Rattle.std.proofs.Common.{ap, ◌∙◌, inl, inr}
use Rattle.bt_keycode.specs.Keys.{Key}
use Rattle.bt_message.specs.declared.message.Message.{Message}
use Rattle.bt_form.specs.Messages.{Messages}
use Rattle.bt_form.specs.Trees.{Shape, Tree}
use Rattle.bt_form.specs.Stored.{message_code, shape_code, tree_code}
use Rattle.bt_plan.specs.Pieces.{Holed, HoledNodes, Place, whole, hole, opened, childless, child}

-- a node of a tree in pieces with its pivot, given by the tree that stays, by what a hole says or by what is left of a buffer, or nothing: the end of nodes
-- side by side
abbrev pub HoledToken : Type 0 → Type 0 → Type 0 → Type 0
HoledToken V M H = Option (Key × (Tree V M ⊎ (H ⊎ Messages M)))

module _ {V M H : Type 0} where
  -- the tokens of nodes side by side, each node's before those of its children, followed by more tokens
  abbrev pub tokens_before : List (HoledToken V M H) → HoledNodes V M H → List (HoledToken V M H)
  tokens_before more childless = None ∷ more
  tokens_before more (child k (whole t) hs) = Some (k, inl t) ∷ tokens_before more hs
  tokens_before more (child k (hole h) hs) = Some (k, inr (inl h)) ∷ tokens_before more hs
  tokens_before more (child k (opened below buffer) hs) = Some (k, inr (inr buffer)) ∷ tokens_before (tokens_before more hs) below

  -- a token read before others, which gave these lists of nodes
  abbrev pub with_token : HoledToken V M H → List (HoledNodes V M H) → List (HoledNodes V M H)
  with_token None read = childless ∷ read
  with_token (Some (k, inl t)) [] = []
  with_token (Some (k, inl t)) (hs ∷ read) = child k (whole t) hs ∷ read
  with_token (Some (k, inr (inl h))) [] = []
  with_token (Some (k, inr (inl h))) (hs ∷ read) = child k (hole h) hs ∷ read
  with_token (Some (k, inr (inr buffer))) [] = []
  with_token (Some (k, inr (inr buffer))) (below ∷ []) = []
  with_token (Some (k, inr (inr buffer))) (below ∷ hs ∷ read) = child k (opened below buffer) hs ∷ read

  -- the lists of nodes that tokens give
  abbrev pub nodes_of : List (HoledToken V M H) → List (HoledNodes V M H)
  nodes_of [] = []
  nodes_of (x ∷ xs) = with_token x (nodes_of xs)

  pub nodes_of-tokens_before : (more : List (HoledToken V M H)) (hs : HoledNodes V M H) → nodes_of (tokens_before more hs) ≡ hs ∷ nodes_of more
  nodes_of-tokens_before more childless = refl
  nodes_of-tokens_before more (child k (whole t) hs) = ap (with_token (Some (k, inl t))) (nodes_of-tokens_before more hs)
  nodes_of-tokens_before more (child k (hole h) hs) = ap (with_token (Some (k, inr (inl h)))) (nodes_of-tokens_before more hs)
  nodes_of-tokens_before more (child k (opened below buffer) hs) =
      ap (with_token (Some (k, inr (inr buffer))))
      (nodes_of-tokens_before (tokens_before more hs) below ∙ ap (λ read. below ∷ read) (nodes_of-tokens_before more hs))

  -- a tree in pieces as one node with the empty key
  abbrev pub holed_tokens : Holed V M H → List (HoledToken V M H)
  holed_tokens h = tokens_before [] (child [] h childless)

  -- the first node, or an opened one without children if there is none
  abbrev pub first_node : List (HoledNodes V M H) → Holed V M H
  first_node [] = opened childless []
  first_node (childless ∷ read) = opened childless []
  first_node (child k h hs ∷ read) = h

  pub first_node-holed_tokens : (h : Holed V M H) → first_node (nodes_of (holed_tokens h)) ≡ h
  first_node-holed_tokens h = ap first_node (nodes_of-tokens_before [] (child [] h childless))

-- a place is stored as its two numbers
abbrev pub place_code : Coded Place
place_code = code_by (ℕ × List ℕ) (coded× coded_ℕ (coded_list coded_ℕ)) (λ p. (p.tree, p.path)) (λ p. record { tree = p.0; path = p.1 }) (λ _. refl)

module _ {V D : Type 0} (value : Coded V) (delta : Coded D) where
  abbrev pub token_code : Coded (HoledToken V (Message V D) Place)
  token_code =
      coded_option
      (coded× (coded_list coded_ℕ)
      (coded⊎ (tree_code value (message_code value delta)) (coded⊎ place_code (coded_list (coded× (coded_list coded_ℕ) (message_code value delta))))))

  -- a tree in pieces is stored as its tokens
  abbrev pub holed_code : Coded (Holed V (Message V D) Place)
  holed_code = code_by (List (HoledToken V (Message V D) Place)) (coded_list token_code) holed_tokens (λ xs. first_node (nodes_of xs)) first_node-holed_tokens

  -- a tree in pieces with its shape
  abbrev pub shaped_holed_code : Coded (Shape × Holed V (Message V D) Place)
  shaped_holed_code = coded× shape_code holed_code
