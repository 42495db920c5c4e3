use Rattle.std.proofs.Common.{ℕ, List, refl, ◌∙◌, ap, arith, drop, length-append}
use Rattle.std.specs.Prelude.{Vec}
use Rattle.std.specs.declared.alloc.Global.{Global}
use Rattle.bt_journal.specs.Frames.{all_at, extent, seed_after}
use Rattle.bt_journal.specs.Stores.{after_all}
use Rattle.bt_journal.proofs.ReadFiles.{long_file, ran}
use Rattle.bt_journal.proofs.replay.Replay.run.Goals as goal
use Rattle.bt_journal.proofs.replay.Replay.run.Goals.{then-self-ge-MOST_BYTES-via-then-self-ge-MOST_BYTES, then-self-ge-MOST_BYTES-via-else-self-ge-MOST_BYTES+then-len-ge-MOST_BYTES}

pub returns-then-self-ge-MOST_BYTES-clause-cause : goal.returns-then-self-ge-MOST_BYTES-clause-cause
returns-then-self-ge-MOST_BYTES-clause-cause g c payloads file found h more =
    let long = long_file g.M.Machine.after g.M.Machine.blank payloads file found c.args.self.now h in
    elim c.then-self-ge-MOST_BYTES.branch [
      | then-self-ge-MOST_BYTES-via-then-self-ge-MOST_BYTES w ↦ omega (arith, long, w.if-self-ge-MOST_BYTES.true, length-append file more)
      | then-self-ge-MOST_BYTES-via-else-self-ge-MOST_BYTES+then-len-ge-MOST_BYTES w ↦ omega (arith, long, w.len.ensures, w.if-len-ge-MOST_BYTES.true, length-append file more)
    ]

pub returns-clause-run : goal.returns-clause-run
returns-clause-run g c payloads file found h =
    let after = g.M.Machine.after in
    let old = c.args.self.now in
    let ended = c.in_ok-size.ensures in
    let same = c.deref.ensures.value in
    ran after g.M.Machine.blank payloads file found old h c.in_ok-size.size _ refl
    (ended.state ∙ ap (λ (l : List ℕ). after_all after old.machine (all_at old.seed l)) same)
    (ended.end ∙ ap (λ (l : List ℕ). extent (all_at old.seed l)) same)
    (c.in_ok-self.ensures ∙ ap (λ (v : Vec ℕ Global). drop c.in_ok-size.size v.items) c.replace-rest.ensures.value)
    refl
    (ended.seed ∙ ap (λ (l : List ℕ). seed_after old.seed (all_at old.seed l)) same)
