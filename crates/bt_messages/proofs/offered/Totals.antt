-- Numbers of messages: none, and in one of several lists at most as many as in all. For functions that count without reading messages.
use Rattle.std.proofs.Common.{◌≡◌, ◌==◌, ◌<◌, ◌≤◌, ℕ, zero, suc, Bool, true, true≢false, List, [], ◌∷◌, ◌∙◌, arith, get_or, length, refl, sym}
use Rattle.std.proofs.Math.Dec.{eqb-suc-zero}
use Rattle.bt_messages.specs.Parts.{total}
use Rattle.bt_message.specs.Messages.{Messages}

pub nothing_pending : {M : Type 0} (ms : Messages M) (empty : Bool) → empty ≡ (length ms == 0) → empty ≡ true → ms ≡ []
nothing_pending [] empty e t = refl
nothing_pending (m ∷ ms) empty e t = absurd (true≢false (sym t ∙ e ∙ eqb-suc-zero (length ms)))

-- a number is at most the total
pub part_of_total : (ns : List ℕ) (i d : ℕ) → i < length ns → get_or ns i d ≤ total ns
part_of_total [] i d within = absurd (omega (arith, within))
part_of_total (n ∷ ns) zero d within = omega arith
part_of_total (n ∷ ns) (suc i) d within = omega (arith, part_of_total ns i d (omega (arith, within)))
