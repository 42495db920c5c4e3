-- Capacity that is allocated before messages are moved.
use Rattle.std.specs.Prelude.{ℕ, ◌≡◌, ◌+◌, ◌<◌, ◌≤◌, List, [], ◌∷◌, Vec, length, vec_capacity}
use Rattle.std.specs.Global.{Global}
use Rattle.bt_keycode.specs.Keys.{Key}
use Rattle.bt_message.specs.Messages.{Messages}

-- an empty list has capacity for the messages and for `n` more, if `n` is above 0
abbrev pub HasRoom : {M : Type 0} → ℕ → Messages M → Vec (Key × M) Global → Type 0
HasRoom n ms room = (room.items ≡ []) × (0 < n → length ms + n ≤ vec_capacity room)

-- for each number and its bin there is such a list
abbrev pub HaveRoom : {M : Type 0} → List ℕ → List (Messages M) → List (Vec (Key × M) Global) → Type 0
HaveRoom [] bs rooms = Unit {0}
HaveRoom (n ∷ ns) [] rooms = ⊥
HaveRoom (n ∷ ns) (b ∷ bs) [] = ⊥
HaveRoom (n ∷ ns) (b ∷ bs) (r ∷ rs) = HasRoom n b r × HaveRoom ns bs rs
