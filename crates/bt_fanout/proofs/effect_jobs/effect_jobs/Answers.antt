use Rattle.std.proofs.Common.{◌≡◌, ◌∙◌, ◌+◌, ◌≤◌, ◌++◌, ◌∷◌, [], List, Option, ap, append-nil, arith, drop, length, map, refl, subst, sym}
use Rattle.std.proofs.lemmas.List.{length-append, length-drop, nil_from_length}
use Rattle.std.proofs.lemmas.List.Elements.{All-head, All-nil, All-push, All-tail}
use Rattle.std.specs.Borrow.{Bor}
use Rattle.std.specs.FinMap.{find}
use Rattle.std.specs.List.{All, flat_map}
use Rattle.std.specs.Vec.Iter.{into_iter_items}
use Rattle.bt_value.specs.declared.value.Value.{Value}
use Rattle.bt_keycode.specs.Keys.{Key, key_cmp}
use Rattle.bt_form.specs.Flushes.{holds}
use Rattle.bt_form.specs.Portions.{Portion}
use Rattle.bt_portions.specs.KeyShares.{HasRisingKeys, HasValues}
use Rattle.bt_fanout.specs.Effects.{RowMessage, row_effect}
use Rattle.bt_fanout.specs.declared.effect_jobs.EffectJob.{EffectJob}
use Rattle.bt_fanout.specs.inside.EffectJobs.{IsWhole, effects_there, message_total, rows_there}
use Rattle.bt_fanout.proofs.EffectJobs.{IsNextJob, effects_by, flat_map-push, length-front, one_job, total-split}
use Rattle.bt_fanout.proofs.effect_jobs.effect_jobs.Goals as goal

pub loop-portion-init : goal.loop-portion-init
loop-portion-init c =
    let value : Key → Option (List Value) = λ q. find key_cmp q (holds row_effect c.args.tree.now.1) in
    let given : into_iter_items c.into_iter-portion-iterator.result ≡ c.in_ok-shares.shares.items = c.into_iter-portion-iterator.ensures.into_iter_gives.0 in
    let keys : flat_map (λ share. share.1.now) (into_iter_items c.into_iter-portion-iterator.result) ≡ c.args.keys.now =
    ap (flat_map (λ share. share.1.now)) given ∙ c.in_ok-shares.ensures.keys in
    record {
      same = c.requires.same ∙ sym (ap length keys);
      few = omega arith;
      rising = subst (All HasRisingKeys) (sym given) c.in_ok-shares.ensures.rising;
      values = subst (All (HasValues row_effect value)) (sym given) c.in_ok-shares.ensures.values;
      whole = subst (All IsWhole) (sym c.new-jobs.ensures.items) (All-nil IsWhole);
      effects = λ messages.
          ap (λ jobs. flat_map (effects_there messages) jobs
          ++ effects_by (λ k. k.now) value (flat_map (λ share. share.1.now) (into_iter_items c.into_iter-portion-iterator.result)) c.args.others.now
          (drop c.args.skipped messages)) c.new-jobs.ensures.items
          ∙ ap (λ ks. effects_by (λ k. k.now) value ks c.args.others.now (drop c.args.skipped messages)) keys;
    }

pub divided-requires : goal.divided-requires
divided-requires c =
    let later = flat_map (λ share. share.1.now) (into_iter_items c.next.new.self) in
    let keys = ap (flat_map (λ share. share.1.now)) c.in-Some.ensures.steps.0 in
    omega (arith, c.loop-portion.invariant.same, ap length keys, length-append c.in-Some.own_keys.now later)

pub message_count-before-requires : goal.message_count-before-requires
message_count-before-requires c =
    omega (arith, c.requires.few, c.loop-portion.invariant.few, total-split (length c.in-Some.own_keys.now) c.loop-portion.rest.now, ap message_total c.divided.ensures.first)

pub overflow_add-before : goal.overflow_add-before
overflow_add-before c =
    omega (
      arith,
      c.requires.few,
      c.loop-portion.invariant.few,
      total-split (length c.in-Some.own_keys.now) c.loop-portion.rest.now,
      ap message_total c.divided.ensures.first,
      c.message_count-before.ensures,
    )

pub loop-portion-preserved : goal.loop-portion-preserved
loop-portion-preserved c =
    let value : Key → Option (List Value) = λ q. find key_cmp q (holds row_effect c.args.tree.now.1) in
    let so_far = c.loop-portion.invariant in
    let share : Portion (List Value) RowMessage × Bor (List (Bor Key)) = (c.in-Some.portion, c.in-Some.own_keys) in
    let shares = into_iter_items c.next.new.self in
    let own = c.in-Some.own_keys.now in
    let n = length own in
    let later = flat_map (λ share. share.1.now) shares in
    let steps = c.in-Some.ensures.steps.0 in
    let keys = ap (flat_map (λ share. share.1.now)) steps in
    let rest = c.loop-portion.rest.now in
    let within : n ≤ length rest = omega (arith, so_far.same, ap length keys, length-append own later) in
    let first = c.divided.ensures.first in
    let others = c.divided.ensures.later in
    let job : EffectJob = record { portion = c.in-Some.portion; keys = c.in-Some.own_keys; others = c.divided.result.0; skipped = c.loop-portion.before } in
    let as_many : length c.divided.result.0.now ≡ n = ap length first ∙ length-front n rest within in
    let left = flat_map (λ (share : Portion (List Value) RowMessage × Bor (List (Bor Key))). share.1.now) (into_iter_items c.loop-portion.portion-iterator) in
    let before = c.loop-portion.before in
    let next_job : IsNextJob (λ k. k.now) value left later rest c.divided.result.1.now before (before + c.message_count-before.result) = record {
      own = own;
      own_others = c.divided.result.0.now;
      left_is = keys;
      few = within;
      own_is = first;
      later_is = others;
      next_is = ap (λ count. before + count) c.message_count-before.ensures;
    } in
    record {
      same = omega (arith, so_far.same, ap length keys, length-append own later, ap length others, length-drop n rest);
      few = omega (arith, so_far.few, c.message_count-before.ensures, ap message_total first, ap message_total others, total-split n rest);
      rising = All-tail HasRisingKeys share shares (subst (All HasRisingKeys) steps so_far.rising);
      values = All-tail (HasValues row_effect value) share shares (subst (All (HasValues row_effect value)) steps so_far.values);
      whole = subst (All IsWhole) (sym c.in_ok-push.ensures.items)
          (All-push IsWhole c.loop-portion.jobs.items job so_far.whole (All-head HasRisingKeys share shares (subst (All HasRisingKeys) steps so_far.rising), as_many));
      effects = λ messages.
          one_job (λ k. k.now) value messages (rows_there job) (flat_map (effects_there messages) c.loop-portion.jobs.items) next_job
          (All-head (HasValues row_effect value) share shares (subst (All (HasValues row_effect value)) steps so_far.values))
          (ap (flat_map (effects_there messages)) c.in_ok-push.ensures.items ∙ flat_map-push (effects_there messages) c.loop-portion.jobs.items job) (so_far.effects messages);
    }

pub returns-clause-effects : goal.returns-clause-effects
returns-clause-effects c = λ messages.
    let value : Key → Option (List Value) = λ q. find key_cmp q (holds row_effect c.args.tree.now.1) in
    let left = c.loop-portion.portion-iterator.rest in
    let none : left.items ≡ [] = nil_from_length left.items (omega (arith, left.ok.0, c.in-None.ensures.steps.0)) in
    let effects = flat_map (effects_there messages) c.loop-portion.jobs.items in
    sym (append-nil effects)
    ∙ ap (λ shares. effects ++ effects_by (λ k. k.now) value (flat_map (λ share. share.1.now) shares) c.loop-portion.rest.now (drop c.loop-portion.before messages)) (sym none)
    ∙ c.loop-portion.invariant.effects messages
