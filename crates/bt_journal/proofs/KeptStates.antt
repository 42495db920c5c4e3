-- The states that files stand for.
use Rattle.std.proofs.Common.{◌≡◌, ◌+◌, Result, Ok, Err, IfOk, IfErr, IsTrue, inl, inr, Bool, List, ℕ, [], ◌∷◌, ◌++◌, refl, sym, ◌∙◌, ap, subst}
use Rattle.bt_journal.specs.Frames.{IsFramed, extent, seed_after}
use Rattle.bt_journal.specs.Heads.{body_of, head_at, head_size}
use Rattle.bt_journal.specs.Files.{recovered, Opens, IsBeforeOrAfter}
use Rattle.bt_journal.specs.Stores.{after_all, state_of, Finds, IsBeforeOrAfterRun, IsConsistent, IsKept}
use Rattle.bt_journal.specs.declared.head.Head.{Head}
use Rattle.bt_journal.specs.declared.journal.Journal.{Journal}
use Rattle.bt_journal.proofs.SettledJournals.{settled_opens}

module _ {M : Type 0} (after : M → List ℕ → M) where
  pub after_all-append : (state : M) (payloads more : List (List ℕ)) → after_all after state (payloads ++ more) ≡ after_all after (after_all after state payloads) more
  after_all-append state [] more = refl
  after_all-append state (p ∷ ps) more = after_all-append (after state p) ps more

  pub after_all-push : (state : M) (payloads : List (List ℕ)) (payload : List ℕ) → after_all after state (payloads ++ payload ∷ []) ≡ after (after_all after state payloads) payload
  after_all-push state payloads payload = after_all-append state payloads (payload ∷ [])

  pub finds : (blank : M) (head : Head) (state : M) (payloads : List (List ℕ)) (file : List ℕ) → after_all after blank payloads ≡ state → Opens head payloads file → Finds after blank head state file
  finds blank head state payloads file is opened = record { accepted = opened.accepted; state = ap (after_all after blank) opened.frames ∙ is; sound = opened.sound }

  pub before_or_after : (blank : M) (head : Head) (old payload file : List ℕ) → IsBeforeOrAfter head (recovered old) payload file → IsBeforeOrAfterRun after blank head old payload file
  before_or_after blank head old payload file (inl was) = inl (finds blank head (state_of after blank old) (recovered old) file refl was)
  before_or_after blank head old payload file (inr (inl now)) =
      inr (inl (finds blank head (after (state_of after blank old) payload) (recovered old ++ payload ∷ []) file (after_all-push blank (recovered old) payload) now))
  before_or_after blank head old payload file (inr (inr forged)) = inr (inr forged)

-- the file of a journal stands for the state of its machine
pub stands : {D M : Type 0} (contents : D → List ℕ) (outcome : D → List ℕ → Type 0) (is_healthy : D → Bool) (after : M → List ℕ → M) (blank : M) (journal : Journal D) (machine : M)
    → IsConsistent contents outcome is_healthy after blank journal machine → IsKept contents outcome after blank journal.head journal.disk machine
stands contents outcome is_healthy after blank journal machine s = (
  s.settled.durable,
  finds after blank journal.head machine (recovered (contents journal.disk)) (contents journal.disk) (sym s.same) (settled_opens contents outcome is_healthy journal s.settled),
)

-- a journal whose file has the same bytes, and no other outcome of a crash
pub same_file : {D M : Type 0} (contents : D → List ℕ) (outcome : D → List ℕ → Type 0) (is_healthy : D → Bool) (after : M → List ℕ → M) (blank : M) (journal : Journal D) (machine : M)
    (disk : D) → contents disk ≡ contents journal.disk → ((c : List ℕ) → outcome disk c → outcome journal.disk c) → is_healthy disk ≡ is_healthy journal.disk
    → IsConsistent contents outcome is_healthy after blank journal machine
    → IsConsistent contents outcome is_healthy after blank (record { disk = disk; head = journal.head; end = journal.end; seed = journal.seed; zeros = journal.zeros }) machine
same_file contents outcome is_healthy after blank journal machine disk same no_more health s =
    let settled = s.settled in
    record {
      settled = record {
        head = ap head_at same ∙ settled.head;
        framed = subst (λ (file : List ℕ). IsFramed journal.head.salt (recovered file) (body_of file)) (sym same) settled.framed;
        end = settled.end ∙ ap (λ (file : List ℕ). head_size + extent (recovered file)) (sym same);
        seed = settled.seed ∙ ap (λ (file : List ℕ). seed_after journal.head.salt (recovered file)) (sym same);
        durable = λ c left. settled.durable c (no_more c left) ∙ sym same;
        healthy = subst IsTrue (sym health) settled.healthy;
      };
      same = s.same ∙ ap (state_of after blank) (sym same);
    }

-- what follows from two facts of what a call returns
pub if_ok_both : {T E : Type 0} (r : Result T E) (P Q R : T → Type 0) → IfOk r P → IfOk r Q → ((x : T) → P x → Q x → R x) → IfOk r R
if_ok_both (Ok x) P Q R p q so = so x p q
if_ok_both (Err e) P Q R p q so = tt

-- what follows from a fact of an error
pub if_err_also : {T E : Type 0} (r : Result T E) (P Q : E → Type 0) → IfErr r P → ((e : E) → P e → Q e) → IfErr r Q
if_err_also (Ok x) P Q p so = tt
if_err_also (Err e) P Q p so = so e p
