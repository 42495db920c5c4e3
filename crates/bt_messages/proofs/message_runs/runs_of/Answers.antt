use Rattle.std.proofs.Common.{◌≡◌, ◌∷◌, ◌++◌, [], ◌∙◌, ap, append-nil, append_assoc, arith, rules, subst, sym}
use Rattle.std.proofs.lemmas.List.{nil_from_length}
use Rattle.bt_value.specs.Lists.{concatenation}
use Rattle.bt_messages.specs.inside.Runs.{AreSome}
use Rattle.bt_messages.proofs.RunLists.{run_sorted}
use Rattle.bt_messages.proofs.message_runs.runs_of.Goals as goal

pub loop-entry-init : goal.loop-entry-init
loop-entry-init g c =
    let all : c.into_iter-entry-iterator.result.rest.items ≡ c.args.messages.items = search rules in
    record {
      all = ap (λ rs. (concatenation rs ++ c.new-run.result.items) ++ c.into_iter-entry-iterator.result.rest.items) c.new-runs.ensures.items
          ∙ ap (λ ms. ms ++ c.into_iter-entry-iterator.result.rest.items) c.new-run.ensures.items ∙ all;
      some = subst AreSome (sym c.new-runs.ensures.items) tt;
    }

pub room_for_one-requires-clause-sorted : goal.room_for_one-requires-clause-sorted
room_for_one-requires-clause-sorted g c = run_sorted (concatenation c.loop-entry.runs.items) c.loop-entry.run.items _ _ c.loop-entry.invariant.all c.requires

pub loop-entry-preserved : goal.loop-entry-preserved
loop-entry-preserved g c =
    let rest = c.next.new.self.rest.items in
    let entry = c.in-Some.entry in
    let runs = concatenation c.room_for_one.new.runs.items in
    let run = c.room_for_one.new.run.items in
    let before = concatenation c.loop-entry.runs.items ++ c.loop-entry.run.items in
    record {
      all = ap (λ ms. (runs ++ ms) ++ rest) c.push_reserved.ensures.items
          ∙ ap (λ ms. ms ++ rest) (sym (append_assoc runs run (entry ∷ [])) ∙ ap (λ ms. ms ++ entry ∷ []) c.in_ok-room_for_one.ensures.concatenation)
          ∙ append_assoc before (entry ∷ []) rest
          ∙ sym (ap (λ ms. before ++ ms) c.in-Some.ensures.steps.0)
          ∙ c.loop-entry.invariant.all;
      some = c.in_ok-room_for_one.ensures.some;
    }

pub add_run-requires-clause-sorted : goal.add_run-requires-clause-sorted
add_run-requires-clause-sorted g c = run_sorted (concatenation c.loop-entry.runs.items) c.loop-entry.run.items _ _ c.loop-entry.invariant.all c.requires

pub returns-clause-concatenation : goal.returns-clause-concatenation
returns-clause-concatenation g c =
    let before = concatenation c.loop-entry.runs.items ++ c.loop-entry.run.items in
    let none = nil_from_length c.loop-entry.entry-iterator.rest.items (omega (arith, c.loop-entry.entry-iterator.rest.ok.0, c.in-None.ensures.steps.0)) in
    c.in_ok-add_run.ensures.concatenation ∙ sym (append-nil before) ∙ sym (ap (λ ms. before ++ ms) none) ∙ c.loop-entry.invariant.all
