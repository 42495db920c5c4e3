-- What a crash leaves in a run of calls of a disk.
use Rattle.std.proofs.Common.{◌≡◌, ◌≤◌, inl, inr, ⊎_elim, ℕ, List, sym, subst, arith}
use Rattle.bt_journal.specs.Disks.{Elapses, LeavesOnly, Only, Follows}

module _ {D : Type 0} (moment : D → ℕ) (outcome_since : D → ℕ → List ℕ → Type 0) where
  -- before the first call
  pub started : (old : D) (P : List ℕ → Type 0) → ((c : List ℕ) → outcome_since old (moment old) c → P c) → LeavesOnly moment outcome_since old old P
  started old P here = record { later = omega arith; each = here; before = λ t c le left. inl left }

  -- one more call, after which a crash leaves files that have P
  pub goes_on : (old mid new : D) (P outcome : List ℕ → Type 0) → LeavesOnly moment outcome_since old mid P → Elapses (moment mid) (moment new) (outcome_since mid) (outcome_since new) outcome
      → ((c : List ℕ) → outcome c → P c) → LeavesOnly moment outcome_since old new P
  goes_on old mid new P outcome so_far time here = record {
    later = omega (arith, so_far.later, time.later);
    each = λ c left. ⊎_elim (so_far.each c) (here c) (time.nothing_else (moment old) c so_far.later left);
    before = λ t c le left. ⊎_elim (so_far.before t c le) (λ now. inr (here c now)) (time.nothing_else t c (omega (arith, le, so_far.later)) left);
  }

  -- more calls, after which a crash leaves files that have P too
  pub follows_on : (old mid new : D) (P : List ℕ → Type 0) → LeavesOnly moment outcome_since old mid P → LeavesOnly moment outcome_since mid new P → LeavesOnly moment outcome_since old new P
  follows_on old mid new P first second = record {
    later = omega (arith, first.later, second.later);
    each = λ c left. ⊎_elim (first.each c) (λ here. here) (second.before (moment old) c first.later left);
    before = λ t c le left. ⊎_elim (first.before t c le) (λ here. inr here) (second.before t c (omega (arith, le, first.later)) left);
  }

  -- a run of calls on a file that was only read before
  pub read_before : (outcome : D → List ℕ → Type 0) (old read new : D) (P : List ℕ → Type 0) → ((t : ℕ) (c : List ℕ) → t ≤ moment old → outcome old c → outcome_since old t c)
      → moment read ≡ moment old → ((t : ℕ) (c : List ℕ) → outcome_since read t c → outcome read c) → ((c : List ℕ) → outcome read c → outcome old c)
      → LeavesOnly moment outcome_since read new P → LeavesOnly moment outcome_since old new P
  read_before outcome old read new P counts same since fewer run = record {
    later = omega (arith, same, run.later);
    each = λ c left. run.each c (subst (λ (t : ℕ). outcome_since new t c) (sym same) left);
    before = λ t c le left. ⊎_elim (λ was. inl (counts t c le (fewer c (since t c was)))) (λ here. inr here) (run.before t c (omega (arith, le, same)) left);
  }

-- what a step leaves of a file of which a crash leaves only this
pub leaves : (step : List ℕ → List ℕ → Type 0) (file : List ℕ) (old new P : List ℕ → Type 0) → Only file old → Follows step old new → ((c : List ℕ) → step file c → P c)
    → (c : List ℕ) → new c → P c
leaves step file old new P only follows here c now = let from = follows c now in here c (subst (λ f. step f c) (only from.0 from.1) from.2)

-- the same run, of a fact that follows
pub leaves_also : {D : Type 0} (moment : D → ℕ) (outcome_since : D → ℕ → List ℕ → Type 0) (old new : D) (P Q : List ℕ → Type 0) → LeavesOnly moment outcome_since old new P
    → ((c : List ℕ) → P c → Q c) → LeavesOnly moment outcome_since old new Q
leaves_also moment outcome_since old new P Q run so = record {
  later = run.later;
  each = λ c left. so c (run.each c left);
  before = λ t c le left. ⊎_elim (λ was. inl was) (λ now. inr (so c now)) (run.before t c le left);
}
