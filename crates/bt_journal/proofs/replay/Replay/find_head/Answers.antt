use Rattle.std.proofs.Common.{ℕ, OnOk, Option, [], refl, sym, ◌∙◌, ap, subst, arith, drop}
use Rattle.std.specs.Prelude.{Vec}
use Rattle.std.specs.declared.alloc.Global.{Global}
use Rattle.bt_journal.specs.Heads.{head_at}
use Rattle.bt_journal.specs.Stores.{IsReplayedTo}
use Rattle.bt_journal.proofs.ReadFiles.{begun, none_of_more, other_of_more, short_none}
use Rattle.bt_journal.specs.declared.head.Head.{Head}
use Rattle.bt_journal.proofs.replay.Replay.find_head.Goals as goal

pub returns-then-len-lt-HEAD_SIZE-clause-read : goal.returns-then-len-lt-HEAD_SIZE-clause-read
returns-then-len-lt-HEAD_SIZE-clause-read g c blank =
    let old = c.args.self.now in
    subst (λ (found : Option Head). IsReplayedTo g.M.Machine.after g.M.Machine.blank found old.rest.items old) (sym c.requires.unknown)
    (record { none = short_none old.rest.items (omega (arith, c.len.ensures, c.if-len-lt-HEAD_SIZE.true)); rest = refl; state = blank })

pub returns-in_default-clause-cause : goal.returns-in_default-clause-cause
returns-in_default-clause-cause g c blank more =
    let bytes = c.args.self.now.rest.items in
    none_of_more bytes more (omega (arith, c.len.ensures, c.if-len-lt-HEAD_SIZE.false)) (ap head_at (sym c.deref.ensures.value) ∙ sym c.in_default.ensures.head)

pub returns-then-found-self-clause-cause : goal.returns-then-found-self-clause-cause
returns-then-found-self-clause-cause g c blank more =
    other_of_more (λ h. h.format) c.args.self.now.head c.in-Some.found c.args.self.now.rest.items more (ap head_at (sym c.deref.ensures.value) ∙ sym c.in-Some.ensures.head) c.if-found-self.true

pub returns-then-found-self-2-clause-cause : goal.returns-then-found-self-2-clause-cause
returns-then-found-self-2-clause-cause g c blank more =
    other_of_more (λ h. h.engine) c.args.self.now.head c.in-Some.found c.args.self.now.rest.items more (ap head_at (sym c.deref.ensures.value) ∙ sym c.in-Some.ensures.head) c.if-found-self-2.true

pub returns-clause-read : goal.returns-clause-read
returns-clause-read g c blank =
    let after = g.M.Machine.after in
    let none = g.M.Machine.blank in
    let bytes = c.args.self.now.rest.items in
    let found = c.in-Some.found in
    let begin = begun after none bytes found _ (ap head_at (sym c.deref.ensures.value) ∙ sym c.in-Some.ensures.head) (record { format = c.if-found-self.false; engine = c.if-found-self-2.false })
    (c.in_ok-self.ensures ∙ ap (λ (v : Vec ℕ Global). drop 40 v.items) c.replace-bytes.ensures.value) blank refl refl in
    subst (λ (o : Option Head). OnOk c.run.result (IsReplayedTo after none o bytes c.run.new.self)) (sym c.run.ensures.same.0) (c.run.ensures.run [] bytes found begin)

pub returns-clause-cause : goal.returns-clause-cause
returns-clause-cause g c blank =
    let bytes = c.args.self.now.rest.items in
    let found = c.in-Some.found in
    c.run.ensures.cause [] bytes found
    (begun g.M.Machine.after g.M.Machine.blank bytes found _ (ap head_at (sym c.deref.ensures.value) ∙ sym c.in-Some.ensures.head)
    (record { format = c.if-found-self.false; engine = c.if-found-self-2.false })
    (c.in_ok-self.ensures ∙ ap (λ (v : Vec ℕ Global). drop 40 v.items) c.replace-bytes.ensures.value) blank refl refl)
