-- A tree that fits has at least two leaves for each level.
use Rattle.std.proofs.Common.{ℕ, zero, suc, ◌≡◌, ◌≤◌, ◌<◌, ◌+◌, ◌*◌, ◌-◌, ◌^◌, ap, List, length, Option, Some, None, refl, arith, inl, inr}
use Rattle.std.proofs.Math.Nat.{suc-mul, two-pow-succ}
use Rattle.std.proofs.Math.Pow.{pow_mono}
use Rattle.std.proofs.lemmas.Bool.{cases_lt}
use Rattle.bt_keycode.specs.Keys.{Key}
use Rattle.bt_form.specs.Fits.{AreSized, HasShape, IsSized, Lies, SiblingsLie}
use Rattle.bt_form.specs.Trees.{Nodes, Shape, Tree, children, height, height_below, inner, leaf, node, none}
use Rattle.bt_laws.specs.Heights.{HasManyLeaves, HasFewLevels, leaf_count, leaves_below}

-- twice a number below a sum of two parts, each at least this number
twice : (n p sum : ℕ) → 2 ≤ n → n * p ≤ sum → p + p ≤ sum
twice zero p sum two whole = absurd (omega arith)
twice (suc zero) p sum two whole = absurd (omega arith)
twice (suc (suc n)) p sum two whole = omega (arith, suc-mul (suc n) p, suc-mul n p, whole)

one_more : (n p first others : ℕ) → p ≤ first → n * p ≤ others → suc n * p ≤ first + others
one_more n p first others own rest = omega (arith, suc-mul n p, own, rest)

module _ {V M : Type 0} (weigh : Key × M → ℕ) (shape : Shape) where
  -- a node with this many levels below it
  pub record IsWide (levels : ℕ) (t : Tree V M) : Type 0 where
    pub high : height t ≡ suc levels
    pub wide : 2 ^ levels ≤ leaf_count t

  -- sibling nodes, each with this many levels below it
  pub record AreWide (levels : ℕ) (ns : Nodes V M) : Type 0 where
    pub high : 1 ≤ length (children ns) → height_below ns ≡ suc levels
    pub wide : length (children ns) * 2 ^ levels ≤ leaves_below ns

  with_node : (levels : ℕ) (k : Key) (t : Tree V M) (ns : Nodes V M) → IsWide levels t → AreWide levels ns → AreWide levels (node k t ns)
  with_node levels k t none own rest = record { high = λ some. omega (arith, own.high); wide = one_more 0 (2 ^ levels) _ _ own.wide rest.wide }
  with_node levels k t (node j u ns) own rest = record {
    high = λ some. omega (arith, own.high, rest.high (omega arith));
    wide = one_more (length (children (node j u ns))) (2 ^ levels) _ _ own.wide rest.wide;
  }

  above : (levels : ℕ) (ns : Nodes V M) (buffer : List (Key × M)) → 2 ≤ length (children ns) → AreWide levels ns → IsWide (suc levels) (inner ns buffer)
  above levels ns buffer two below = record {
    high = ap suc (below.high (omega (arith, two)));
    wide = rw (two-pow-succ levels) (twice (length (children ns)) (2 ^ levels) (leaves_below ns) two below.wide);
  }

  mutual
    pub node_wide : (levels : ℕ) (low high : Option Key) (t : Tree V M) → Lies levels low high t → IsSized weigh shape t → IsWide levels t
    node_wide zero low high (leaf rows) lies sized = record { high = refl; wide = omega arith }
    node_wide (suc levels) low high (leaf rows) lies sized = absurd lies
    node_wide zero low high (inner ns buffer) lies sized = absurd lies
    node_wide (suc levels) low high (inner ns buffer) lies sized =
        above levels ns buffer sized.0 (nodes_wide levels low high ns lies.2 sized.3)

    pub nodes_wide : (levels : ℕ) (low high : Option Key) (ns : Nodes V M) → SiblingsLie levels low high (children ns) → AreSized weigh shape ns → AreWide levels ns
    nodes_wide levels low high none lie sized = record { high = λ some. absurd (omega (arith, some)); wide = omega arith }
    nodes_wide levels low high (node k t none) lie sized =
        with_node levels k t none (node_wide levels low high t lie sized.0) (nodes_wide levels low high none tt tt)
    nodes_wide levels low high (node k t (node j u ns)) lie sized =
        with_node levels k t (node j u ns) (node_wide levels low (Some j) t lie.2 sized.0) (nodes_wide levels (Some j) high (node j u ns) lie.3 sized.1)

  pub has_leaves : (t : Tree V M) → HasShape weigh shape t → HasManyLeaves t
  has_leaves t has =
      let wide = node_wide has.levels None None t has.fits.lies has.fits.sized in
      let levels : height t - 1 ≡ has.levels = omega (arith, wide.high) in
      rw levels wide.wide

-- the power that is larger has the larger exponent
below_power : (m n : ℕ) → 2 ^ m < 2 ^ n → m < n
below_power m n less = elim (cases_lt m n) [
  | inl few ↦ few
  | inr more ↦ absurd (omega (arith, less, pow_mono more))
]

pub is_low : {V M : Type 0} (t : Tree V M) → HasManyLeaves t → HasFewLevels t
is_low t leaves n few = let more = below_power (height t - 1) n (omega (arith, leaves, few)) in omega (arith, more)
