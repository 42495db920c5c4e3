use Rattle.std.proofs.Common.{rules, arith, ◌≡◌, ◌∙◌, ◌≤◌, ◌<◌, ◌++◌, List, ℕ, None, Some, ap, length, subst, sym}
use Rattle.bt_script.proofs.offered.Streams.{Gave-trans}
use Rattle.bt_frame.specs.Frames.{header_at, header_size}
use Rattle.bt_frame.specs.Receipts.{Receives}
use Rattle.bt_frame.specs.declared.arrival.Arrival.TheVariants.{CutOff, NoFrame}
use Rattle.bt_frame.proofs.offered.Arrivals.{cut_in_header, no_frame}
use Rattle.bt_frame.proofs.frame_reader.receive.Goals as goal

pub returns-then-len-lt-HEADER_SIZE-clause-arrival :
    goal.returns-then-len-lt-HEADER_SIZE-clause-arrival
returns-then-len-lt-HEADER_SIZE-clause-arrival g c =
    let read = c.in_ok-read_up_to.ensures.given in
    let bytes = c.read_up_to.new.bytes.items in
    let short : length bytes < header_size = search (arith, rules) in
    let some : 0 < length bytes = search (arith, rules) in
    subst (λ (l : List ℕ). Receives g.R.Read.remaining c.args.reader.now c.read_up_to.new.reader c.args.most CutOff l) (sym {A = List ℕ} c.clear.ensures.items)
    (bytes, read.0, cut_in_header c.args.most bytes some short, λ _. read.2 short)

pub returns-in_default-clause-arrival : goal.returns-in_default-clause-arrival
returns-in_default-clause-arrival g c =
    let read = c.in_ok-read_up_to.ensures.given in
    let bytes = c.read_up_to.new.bytes.items in
    let limited = read.1 in
    let enough : header_size ≤ length bytes = search (arith, rules) in
    let long : length bytes ≡ header_size = omega (arith, limited, enough) in
    let none : header_at bytes ≡ None = ap header_at (sym c.as_slice.ensures.value) ∙ sym c.in_default.ensures in
    subst (λ (l : List ℕ). Receives g.R.Read.remaining c.args.reader.now c.read_up_to.new.reader c.args.most NoFrame l) (sym {A = List ℕ} c.clear-in_default.ensures.items)
    (bytes, read.0, no_frame c.args.most bytes long none, λ e. absurd (cc))

pub returns-clause-arrival : goal.returns-clause-arrival
returns-clause-arrival g c =
    let read = c.in_ok-read_up_to.ensures.given in
    let bytes = c.read_up_to.new.bytes.items in
    let limited = read.1 in
    let enough : header_size ≤ length bytes = search (arith, rules) in
    let long : length bytes ≡ header_size = omega (arith, limited, enough) in
    let header = c.in-Some.header in
    let some : header_at bytes ≡ Some (header.kind, header.length) = ap header_at (sym c.as_slice.ensures.value) ∙ sym c.in-Some.ensures in
    let under = c.in_ok-receive_payload.ensures.arrival in (
      bytes ++ under.0,
      Gave-trans g.R.Read.remaining c.args.reader.now c.read_up_to.new.reader c.receive_payload.new.reader bytes under.0 read.0 under.1,
      under.3 bytes long some,
      under.2,
    )
