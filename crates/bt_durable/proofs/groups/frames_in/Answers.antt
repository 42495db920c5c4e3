use Rattle.std.proofs.Common.{◌≡◌, ◌∙◌, ◌++◌, rules, List, Some, ℕ, ap, subst, sym}
use Rattle.bt_frame.specs.Frames.{frame}
use Rattle.bt_durable.specs.Inputs.{ReadsGroup}
use Rattle.bt_durable.specs.Payloads.{no_limit}
use Rattle.bt_durable.proofs.Arriving.{all_of, group_joins, has_other, no_group, no_request, none_are_all, one_request}
use Rattle.bt_durable.proofs.groups.frames_in.Goals as goal

pub requests-init : goal.requests-init
requests-init c =
    let known = Some c.args.payload.now in
    record {
      group = subst (λ (l : List ℕ). ReadsGroup no_limit known known l) (sym {A = List ℕ} c.in_ok-room.ensures.group) (no_group no_limit known);
      piece = search rules;
    }

pub receive_next-requires : goal.receive_next-requires
receive_next-requires c = record { piece = c.requests.invariant.piece }

pub returns-in-Other-clause-none : goal.returns-in-Other-clause-none
returns-in-Other-clause-none c =
    let before = Some c.requests.source.now in
    let next = rw c.in-Other.is at c.in-Ok.ensures.received in
    has_other c.args.payload.now c.requests.room.group.items before (Some c.in-Ok.next.now) c.requests.invariant.group c.in-Other.field-0 c.receive_next.new.room.payload.items next.0 next.1

pub returns-in-End-clause-frames : goal.returns-in-End-clause-frames
returns-in-End-clause-frames c =
    let known = Some c.args.payload.now in
    let before = Some c.requests.source.now in
    group_joins known before c.receive_next.new.room.group.items
    (subst (λ v. ReadsGroup no_limit known before v.items) (sym c.receive_next.ensures.group) c.requests.invariant.group)

pub returns-in-End-clause-same : goal.returns-in-End-clause-same
returns-in-End-clause-same c =
    let known = Some c.args.payload.now in
    let before = Some c.requests.source.now in
    let left = Some c.in-Ok.next.now in
    let next = rw c.in-End.is at c.in-Ok.ensures.received in
    let group = subst (λ v. ReadsGroup no_limit known before v.items) (sym c.receive_next.ensures.group) c.requests.invariant.group in
    all_of c.args.payload.now c.receive_next.new.room.group.items left (no_request no_limit known before left c.receive_next.new.room.group.items group next.0)
    (none_are_all no_limit left next.1)

pub requests-preserved : goal.requests-preserved
requests-preserved c =
    let known = Some c.args.payload.now in
    let before = Some c.requests.source.now in
    let left = Some c.in-Ok.next.now in
    let next = rw c.in-Request.is at c.in-Ok.ensures.received in
    let payload = c.receive_next.new.room.payload.items in
    let added = c.in_ok-add_request-in-Request.ensures in
    let is : c.add_request.new.self.group.items ≡ c.requests.room.group.items ++ frame c.in-Request.kind payload =
    added.group ∙ ap (λ v. v.items ++ frame c.in-Request.kind payload) c.receive_next.ensures.group in
    record {
      group = subst (λ (l : List ℕ). ReadsGroup no_limit known left l) (sym is)
          (one_request no_limit known before left c.requests.room.group.items c.requests.invariant.group c.in-Request.kind payload next added.fits);
      piece = search rules;
    }
