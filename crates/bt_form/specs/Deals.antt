-- Dealing: items in order become parts that are as even as possible.
use Rattle.std.specs.Prelude.{ℕ, ◌+◌, ◌-◌, ◌/◌, ◌%◌, max, List, ◌++◌, length, replicate}
use Rattle.std.specs.Int.{div_ceil}
pub use Rattle.bt_messages.specs.Parts.{parted}

-- the sizes of k parts of n items: the first n % k parts have one item more than the others
abbrev pub even : ℕ → ℕ → List ℕ
even n k = replicate (n % k) (n / k + 1) ++ replicate (k - n % k) (n / k)

-- the sizes of the parts of n items: none is larger than the most, and there are as few parts as possible
abbrev pub sizes : ℕ → ℕ → List ℕ
sizes n most = even n (max 1 (div_ceil n most))

-- the items in parts of at most this size
abbrev pub deal : {X : Type 0} → ℕ → List X → List (List X)
deal most xs = parted (sizes (length xs) most) xs
