use Rattle.std.proofs.Common.{rules, arith, ◌≡◌, ◌≤◌, ◌<◌, List, ℕ, length, subst, sym}
use Rattle.bt_frame.specs.Receipts.{ReceivesUnder}
use Rattle.bt_frame.specs.declared.arrival.Arrival.TheVariants.{CutOff, TooLong}
use Rattle.bt_frame.proofs.offered.Arrivals.{cut_in_payload, too_long, whole_frame}
use Rattle.bt_frame.proofs.frame_reader.receive_payload.Goals as goal

pub returns-then-is_whole-clause-arrival : goal.returns-then-is_whole-clause-arrival
returns-then-is_whole-clause-arrival g c =
    let most = c.args.most in
    let kind = c.args.header.kind in
    let size = c.args.header.length in
    let passed = rw c.if-is_whole.true at c.in_ok-is_whole.ensures.given in
    let over : most < size = omega arith in
    subst (λ (l : List ℕ). ReceivesUnder g.R.Read.remaining c.args.reader.now c.pass_over.new.reader most kind size TooLong l) (sym {A = List ℕ} c.clear.ensures.items)
    (passed.0, passed.1, (λ e. absurd (cc)), λ header long is. too_long most header kind size long is passed.0 passed.2 over)

pub returns-else-is_whole-clause-arrival : goal.returns-else-is_whole-clause-arrival
returns-else-is_whole-clause-arrival g c =
    let most = c.args.most in
    let kind = c.args.header.kind in
    let size = c.args.header.length in
    let passed = rw c.if-is_whole.false at c.in_ok-is_whole.ensures.given in
    subst (λ (l : List ℕ). ReceivesUnder g.R.Read.remaining c.args.reader.now c.pass_over.new.reader most kind size CutOff l) (sym {A = List ℕ} c.clear.ensures.items)
    (passed.0, passed.1, (λ _. passed.3), λ header long is. cut_in_payload most header kind size long is passed.0 passed.2)

pub returns-then-len-header-clause-arrival : goal.returns-then-len-header-clause-arrival
returns-then-len-header-clause-arrival g c =
    let most = c.args.most in
    let kind = c.args.header.kind in
    let size = c.args.header.length in
    let read = c.in_ok-read_up_to.ensures.given in
    let part = c.read_up_to.new.bytes.items in
    let short : length part < size = search (arith, rules) in
    subst (λ (l : List ℕ). ReceivesUnder g.R.Read.remaining c.args.reader.now c.read_up_to.new.reader most kind size CutOff l) (sym {A = List ℕ} c.clear-then-len-header.ensures.items)
    (part, read.0, (λ _. read.2 short), λ header long is. cut_in_payload most header kind size long is part short)

pub returns-clause-arrival : goal.returns-clause-arrival
returns-clause-arrival g c =
    let most = c.args.most in
    let kind = c.args.header.kind in
    let size = c.args.header.length in
    let read = c.in_ok-read_up_to.ensures.given in
    let payload = c.read_up_to.new.bytes.items in
    let enough : size ≤ length payload = search (arith, rules) in
    let limited = read.1 in
    let whole : length payload ≡ size = omega (arith, enough, limited) in
    let within : size ≤ most = omega arith in
    (payload, read.0, (λ e. absurd (cc)), λ header long is. whole_frame most header kind size long is payload whole within)
