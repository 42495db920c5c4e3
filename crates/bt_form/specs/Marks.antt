-- The children to which the messages of a node go down.
use Rattle.std.specs.Prelude.{ℕ, Bool, true, false, cond, nat_eq, nat_le, List, [], ◌∷◌, map}
use Rattle.bt_form.specs.Plans.{placed, planned}
use Rattle.bt_form.specs.Trees.{Shape}
use Rattle.bt_form.specs.declared.mode.Mode.{Mode}
use Rattle.bt_form.specs.declared.mode.Mode.TheVariants.{Absorb, Drain}

-- whether a place is among these
abbrev pub is_among : ℕ → List ℕ → Bool
is_among i [] = false
is_among i (j ∷ js) = cond (nat_eq i j) true (is_among i js)

-- for each child, whether it is flushed, given the loads: the planned ones, or all, by the mode
abbrev pub flush_marks : Mode → ℕ → List ℕ → List Bool
flush_marks Absorb capacity loads = map (λ p. is_among p.0 (planned loads capacity)) (placed 0 loads)
flush_marks Drain capacity loads = map (λ n. true) loads

-- whether none is flushed, because the buffer has room for this load
abbrev pub has_room : Mode → Shape → ℕ → Bool
has_room Absorb shape load = nat_le load shape.buffer
has_room Drain shape load = false
