use Rattle.std.proofs.Common.{◌+◌, ◌∷◌, ◌++◌, [], ◌∙◌, ap, append_assoc, arith, length, refl, sym, vec_len}
use Rattle.std.proofs.lemmas.List.{append-nil, nil_from_length}
use Rattle.bt_messages.proofs.share.append_reserved.Goals as goal

pub loop-entry-init : goal.loop-entry-init
loop-entry-init g c =
    let all = c.into_iter-entry-iterator.ensures.into_iter_gives.1 in
    record {
      pushed = ap (λ ms. c.args.merged.now.items ++ ms) (sym all);
      len = ap (λ ms. vec_len c.args.merged.now + length ms) all;
      capacity = refl;
    }

pub push_reserved-requires : goal.push_reserved-requires
push_reserved-requires g c = omega (arith, c.requires, c.loop-entry.invariant.len, c.loop-entry.invariant.capacity, ap length c.in-Some.ensures.steps.0)

pub loop-entry-preserved : goal.loop-entry-preserved
loop-entry-preserved g c =
    let merged = c.loop-entry.merged.items in
    let rest = c.next.new.self.rest.items in
    let next = c.in-Some.ensures.steps.0 in
    record {
      pushed = c.loop-entry.invariant.pushed ∙ ap (λ ms. merged ++ ms) next ∙ sym (append_assoc merged (c.in-Some.entry ∷ []) rest) ∙ sym (ap (λ ms. ms ++ rest) c.push_reserved.ensures.items);
      len = omega (arith, c.push_reserved.ensures.len, c.loop-entry.invariant.len, ap length next);
      capacity = c.push_reserved.ensures.capacity ∙ c.loop-entry.invariant.capacity;
    }

pub returns : goal.returns
returns g c =
    let merged = c.loop-entry.merged.items in
    let none = nil_from_length c.loop-entry.entry-iterator.rest.items (omega (arith, c.loop-entry.entry-iterator.rest.ok.0, c.in-None.ensures.steps.0)) in
    record {
      pushed = sym (c.loop-entry.invariant.pushed ∙ ap (λ ms. merged ++ ms) none ∙ append-nil merged);
      len = omega (arith, c.loop-entry.invariant.len, ap length none);
      capacity = c.loop-entry.invariant.capacity;
    }
