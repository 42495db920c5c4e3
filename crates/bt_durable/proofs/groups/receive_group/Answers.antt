use Rattle.std.proofs.Common.{◌≡◌, ◌∙◌, ◌++◌, rules, List, ℕ, ap, subst, sym}
use Rattle.bt_frame.specs.Frames.{frame}
use Rattle.bt_durable.specs.Inputs.{ReadsGroup}
use Rattle.bt_durable.proofs.Arriving.{no_group, one_request, up_to_end, up_to_more}
use Rattle.bt_durable.proofs.groups.receive_group.Goals as goal

pub requests-init : goal.requests-init
requests-init g c =
    let known = g.I.Read.remaining c.args.input in
    record {
      group = subst (λ (l : List ℕ). ReadsGroup c.args.most known known l) (sym {A = List ℕ} c.clear.ensures.items) (no_group c.args.most known);
      piece = search rules;
    }

pub returns-in-Other-clause-group : goal.returns-in-Other-clause-group
returns-in-Other-clause-group g c =
    let known = g.I.Read.remaining c.args.input in
    let before = g.I.Read.remaining c.requests.source in
    let next = rw c.in-Other.is at c.in_ok-next.ensures.received in
    let group = subst (λ v. ReadsGroup c.args.most known before v.items) (sym c.receive_next.ensures.group) c.requests.invariant.group in
    (before, group, next.0, (c.receive_next.new.room.payload.items, next.1))

pub returns-in-End-clause-group : goal.returns-in-End-clause-group
returns-in-End-clause-group g c =
    let known = g.I.Read.remaining c.args.input in
    let before = g.I.Read.remaining c.requests.source in
    let next = rw c.in-End.is at c.in_ok-next.ensures.received in
    let group = subst (λ v. ReadsGroup c.args.most known before v.items) (sym c.receive_next.ensures.group) c.requests.invariant.group in
    up_to_end c.args.most known before c.receive_next.new.room.group.items (g.I.Read.remaining c.in_ok-next.next) group next.0 next.1

pub requests-preserved : goal.requests-preserved
requests-preserved g c =
    let known = g.I.Read.remaining c.args.input in
    let before = g.I.Read.remaining c.requests.source in
    let next = rw c.in-Request.is at c.in_ok-next.ensures.received in
    let payload = c.receive_next.new.room.payload.items in
    let added = c.in_ok-add_request-in-Request.ensures in
    let is : c.add_request.new.self.group.items ≡ c.requests.room.group.items ++ frame c.in-Request.kind payload =
    added.group ∙ ap (λ v. v.items ++ frame c.in-Request.kind payload) c.receive_next.ensures.group in
    record {
      group = subst (λ (l : List ℕ). ReadsGroup c.args.most known (g.I.Read.remaining c.in_ok-next.next) l) (sym is)
          (one_request c.args.most known before (g.I.Read.remaining c.in_ok-next.next) c.requests.room.group.items c.requests.invariant.group c.in-Request.kind payload next added.fits);
      piece = search rules;
    }

pub returns-then-not-begins_with_frame-clause-group : goal.returns-then-not-begins_with_frame-clause-group
returns-then-not-begins_with_frame-clause-group g c =
    let known = g.I.Read.remaining c.args.input in
    let before = g.I.Read.remaining c.requests.source in
    let next = rw c.in-Request.is at c.in_ok-next.ensures.received in
    let payload = c.receive_next.new.room.payload.items in
    let added = c.in_ok-add_request-in-Request.ensures in
    let is : c.add_request.new.self.group.items ≡ c.requests.room.group.items ++ frame c.in-Request.kind payload =
    added.group ∙ ap (λ v. v.items ++ frame c.in-Request.kind payload) c.receive_next.ensures.group in
    up_to_more c.args.most known (g.I.Read.remaining c.in_ok-next.next) c.add_request.new.self.group.items
    (subst (λ (l : List ℕ). ReadsGroup c.args.most known (g.I.Read.remaining c.in_ok-next.next) l) (sym is)
    (one_request c.args.most known before (g.I.Read.remaining c.in_ok-next.next) c.requests.room.group.items c.requests.invariant.group c.in-Request.kind payload next added.fits))

pub returns-clause-group : goal.returns-clause-group
returns-clause-group g c =
    up_to_more c.args.most (g.I.Read.remaining c.args.input) (g.I.Read.remaining c.requests.source) c.requests.room.group.items c.requests.invariant.group
