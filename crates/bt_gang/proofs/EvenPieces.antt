-- Even pieces: each place gets an equal share of what is left, or one more, if the next place takes its part by division.
use Rattle.std.proofs.Common.{◌≡◌, ℕ, suc, ◌+◌, ◌-◌, ◌*◌, ◌/◌, ◌<◌, ◌≤◌, List, [], ◌∷◌, ◌++◌, length, take, drop, sym, ap, ◌∙◌, subst, arith}
use Rattle.std.proofs.Math.Nat.{div-mul-le_self, le-div_iff_mul-le, div-le_of_le-mul, lt-mul-div-succ}
use Rattle.std.proofs.lemmas.List.{length-drop, length-take-le}
use Rattle.bt_gang.specs.Pieces.{AreEven}
use Rattle.bt_gang.specs.declared.piece.Piece.{Piece}

-- what is left is a share for each of the places, and at most one more for each
pub record IsEvenRest (share places left : ℕ) : Type 0 where
  pub lowest : share * places ≤ left
  pub most : left ≤ places * (share + 1)

-- a share, or one more
abbrev pub IsEvenPart : ℕ → ℕ → Type 0
IsEvenPart share part = (share ≤ part) × (part ≤ share + 1)

pub first_rest : (n count places left : ℕ) → 0 < count → places ≡ count → left ≡ n → IsEvenRest (n / count) places left
first_rest n count places left some e f = record {
  lowest = let d = div-mul-le_self n count in grind (arith, d, e, f);
  most = let d = lt-mul-div-succ n some in grind (arith, d, e, f);
}

least_left : (share part left k : ℕ) → share ≤ part → part * suc k ≤ left → share * k ≤ left - part
least_left share part left k l m = grind arith

most_left : (share part left k : ℕ) → share ≤ part → left < suc k * (part + 1) → left ≤ suc k * (share + 1) → left - part ≤ k * (share + 1)
most_left share part left k l m n = grind arith

-- the part of the next place, if there are more
pub next_part : (share k left : ℕ) → IsEvenRest share (suc k) left → IsEvenPart share (left / suc k)
next_part share k left s = (let l = s.lowest in grind (arith, le-div_iff_mul-le), div-le_of_le-mul (suc k) s.most)

pub rest_left : (share k left : ℕ) → IsEvenRest share (suc k) left → IsEvenRest share k (left - left / suc k)
rest_left share k left s =
    let part = next_part share k left s in
    record {
      lowest = least_left share (left / suc k) left k part.0 (div-mul-le_self left (suc k));
      most = most_left share (left / suc k) left k part.0 (lt-mul-div-succ left (omega arith)) s.most;
    }

-- one place takes its part
pub next_rest : (share count place start end all : ℕ) → place < count → start ≤ end → end ≡ start + (all - start) / (count - place + 1)
    → IsEvenRest share (count - place + 1) (all - start) → IsEvenPart share (end - start) × IsEvenRest share (count - (place + 1) + 1) (all - end)
next_rest share count place start end all more ordered e shares =
    let places : count - place + 1 ≡ suc (count - place) = omega arith in
    let s = subst (λ n. IsEvenRest share n (all - start)) places shares in
    let quotient : (all - start) / (count - place + 1) ≡ (all - start) / suc (count - place) = ap (λ n. (all - start) / n) places in
    let part : end - start ≡ (all - start) / suc (count - place) = omega (arith, e, quotient) in
    let rest : all - end ≡ (all - start) - (all - start) / suc (count - place) = omega (arith, e, quotient) in
    let others : count - (place + 1) + 1 ≡ count - place = omega (arith, more) in (
      subst (IsEvenPart share) (sym part) (next_part share (count - place) (all - start) s),
      subst (λ n. IsEvenRest share n (all - end)) (sym others) (subst (IsEvenRest share (count - place)) (sym rest) (rest_left share (count - place) (all - start) s)),
    )

pub last_part : (share places left : ℕ) → places ≡ 1 → IsEvenRest share places left → IsEvenPart share left
last_part share places left e s = (let l = s.lowest in grind (arith, e, l), let m = s.most in grind (arith, e, m))

module _ {X : Type 0} where
  even_snoc : (share : ℕ) (pieces : List (Piece X)) (piece : Piece X) → AreEven share pieces → IsEvenPart share (length piece.items.now) → AreEven share (pieces ++ piece ∷ [])
  even_snoc share [] piece even is = (is, tt)
  even_snoc share (p ∷ ps) piece even is = (even.0, even_snoc share ps piece even.1 is)

  -- one more piece that is a share, or one more
  pub even_more : (share start end : ℕ) (all : List X) (pieces more : List (Piece X)) (piece : Piece X) → more ≡ pieces ++ piece ∷ [] → piece.items.now ≡ take (end - start) (drop start all)
      → end ≤ length all → AreEven share pieces → IsEvenPart share (end - start) → AreEven share more
  even_more share start end all pieces more piece more_is items_are within even is =
      let rest = length-drop start all in
      let long : length piece.items.now ≡ end - start = ap length items_are ∙ length-take-le (end - start) (drop start all) (omega (arith, rest, within)) in
      subst (AreEven share) (sym more_is) (even_snoc share pieces piece even (subst (IsEvenPart share) (sym long) is))
