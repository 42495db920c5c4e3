use Rattle.std.proofs.Common.{◌≡◌, ◌∙◌, ◌+◌, ◌-◌, ◌≤◌, ◌++◌, List, Option, ap, arith, drop, length, map, refl, rules, subst, sym, take}
use Rattle.std.proofs.lemmas.List.{drop-drop, length-drop, take-append-drop, take_all}
use Rattle.std.proofs.lemmas.List.Elements.{All-nil, All-push}
use Rattle.std.specs.FinMap.{find}
use Rattle.std.specs.List.{All, flat_map}
use Rattle.bt_value.specs.declared.value.Value.{Value}
use Rattle.bt_keycode.specs.Keys.{Key, key_cmp}
use Rattle.bt_form.specs.Flushes.{holds}
use Rattle.bt_form.specs.Parts.{AreRising}
use Rattle.bt_portions.proofs.offered.RisingKeys.{first_rise, rest_rise}
use Rattle.bt_fanout.specs.Effects.{row_effect}
use Rattle.bt_fanout.specs.declared.joint_packets.JobGroup.{JobGroup}
use Rattle.bt_fanout.specs.inside.EffectJobs.{IsWhole, message_total}
use Rattle.bt_fanout.specs.inside.PacketGroups.{effects_in_group}
use Rattle.bt_fanout.proofs.EffectJobs.{IsNextJob, effects_by, flat_map-push, length-front, one_job, total-split}
use Rattle.bt_fanout.proofs.joint_packets.job_groups.Goals as goal

abbrev AreWhole : JobGroup → Type 0
AreWhole group = All IsWhole group.jobs.items

pub loop-init : goal.loop-init
loop-init c =
    let value : Key → Option (List Value) = λ q. find key_cmp q (holds row_effect c.args.tree.now.1) in
    record {
      within = omega arith;
      few = omega arith;
      rising = c.requires.rising;
      whole = subst (All AreWhole) (sym c.new-groups.ensures.items) (All-nil AreWhole);
      effects = λ messages.
          ap (λ groups. flat_map (effects_in_group messages) groups ++ effects_by (λ k. k.now) value c.args.keys.now c.args.others.now messages) c.new-groups.ensures.items;
    }

pub effect_jobs-requires-clause-rising : goal.effect_jobs-requires-clause-rising
effect_jobs-requires-clause-rising c =
    subst (λ ks. AreRising (map (λ k. k.now) ks)) (sym c.between.ensures)
    (first_rise (λ k. k.now) (c.min-end.result - c.loop.start) (drop c.loop.start c.args.keys.now) c.loop.invariant.rising)

pub effect_jobs-requires-clause-few : goal.effect_jobs-requires-clause-few
effect_jobs-requires-clause-few c =
    omega (arith, c.requires.few, c.loop.invariant.few, total-split (c.min-end.result - c.loop.start) (drop c.loop.start c.args.others.now), ap message_total c.between-own.ensures)

pub message_count-skipped-requires : goal.message_count-skipped-requires
message_count-skipped-requires c =
    omega (arith, c.requires.few, c.loop.invariant.few, total-split (c.min-end.result - c.loop.start) (drop c.loop.start c.args.others.now), ap message_total c.between-own.ensures)

pub overflow_add-skipped : goal.overflow_add-skipped
overflow_add-skipped c =
    omega (
      arith,
      c.requires.few,
      c.loop.invariant.few,
      total-split (c.min-end.result - c.loop.start) (drop c.loop.start c.args.others.now),
      ap message_total c.between-own.ensures,
      c.message_count-skipped.ensures,
    )

pub loop-preserved : goal.loop-preserved
loop-preserved c =
    let value : Key → Option (List Value) = λ q. find key_cmp q (holds row_effect c.args.tree.now.1) in
    let so_far = c.loop.invariant in
    let start = c.loop.start in
    let end = c.min-end.result in
    let keys = c.args.keys.now in
    let others = c.args.others.now in
    let ordered : start ≤ end = search (arith, rules) in
    let within : end ≤ length keys = search (arith, rules) in
    let size = end - start in
    let own_keys = c.between.result.now in
    let own = c.between-own.result.now in
    let on : start + size ≡ end = omega (arith, ordered) in
    let later_keys : drop end keys ≡ drop size (drop start keys) = ap (λ n. drop n keys) (sym on) ∙ sym (drop-drop size start keys) in
    let later_others : drop end others ≡ drop size (drop start others) = ap (λ n. drop n others) (sym on) ∙ sym (drop-drop size start others) in
    let long : length own_keys ≡ size = ap length c.between.ensures ∙ length-front size (drop start keys) (omega (arith, within, length-drop start keys)) in
    let left : drop start keys ≡ own_keys ++ drop end keys =
    sym (ap (λ ks. own_keys ++ ks) later_keys ∙ ap (λ ks. ks ++ drop size (drop start keys)) c.between.ensures ∙ take-append-drop size (drop start keys)) in
    let next_job : IsNextJob (λ k. k.now) value (drop start keys) (drop end keys) (drop start others) (drop end others) c.loop.skipped (c.loop.skipped + c.message_count-skipped.result) =
    record {
      own = own_keys;
      own_others = own;
      left_is = left;
      few = omega (arith, long, within, c.requires.same, length-drop start others);
      own_is = c.between-own.ensures ∙ ap (λ n. take n (drop start others)) (sym long);
      later_is = later_others ∙ ap (λ n. drop n (drop start others)) (sym long);
      next_is = ap (λ n. c.loop.skipped + n) c.message_count-skipped.ensures;
    } in
    let group : JobGroup = record { jobs = c.in_ok-jobs.jobs } in
    record {
      within = within;
      few = omega (arith, so_far.few, c.message_count-skipped.ensures, ap message_total c.between-own.ensures, ap message_total later_others, total-split size (drop start others));
      rising = subst (λ ks. AreRising (map (λ k. k.now) ks)) (sym later_keys) (rest_rise (λ k. k.now) size (drop start keys) so_far.rising);
      whole = subst (All AreWhole) (sym c.in_ok-push.ensures.items) (All-push AreWhole c.loop.groups.items group so_far.whole c.in_ok-jobs.ensures.whole);
      effects = λ messages.
          one_job (λ k. k.now) value messages (map (λ k. value k.now) own_keys) (flat_map (effects_in_group messages) c.loop.groups.items) next_job refl
          (ap (flat_map (effects_in_group messages)) c.in_ok-push.ensures.items ∙ flat_map-push (effects_in_group messages) c.loop.groups.items group
          ∙ ap (λ es. flat_map (effects_in_group messages) c.loop.groups.items ++ es) (c.in_ok-jobs.ensures.effects messages)) (so_far.effects messages);
    }

pub effect_jobs-requires-2-clause-rising : goal.effect_jobs-requires-2-clause-rising
effect_jobs-requires-2-clause-rising c =
    subst (λ ks. AreRising (map (λ k. k.now) ks)) (sym c.between-last.ensures)
    (first_rise (λ k. k.now) (length c.args.keys.now - c.loop.start) (drop c.loop.start c.args.keys.now) c.loop.invariant.rising)

pub effect_jobs-requires-2-clause-few : goal.effect_jobs-requires-2-clause-few
effect_jobs-requires-2-clause-few c =
    omega (arith, c.requires.few, c.loop.invariant.few, total-split (length c.args.keys.now - c.loop.start) (drop c.loop.start c.args.others.now), ap message_total c.between-own-2.ensures)

pub returns-clause-whole : goal.returns-clause-whole
returns-clause-whole c =
    let group : JobGroup = record { jobs = c.in_ok-jobs-2.jobs } in
    subst (All AreWhole) (sym c.in_ok-push-2.ensures.items) (All-push AreWhole c.loop.groups.items group c.loop.invariant.whole c.in_ok-jobs-2.ensures.whole)

pub returns-clause-effects : goal.returns-clause-effects
returns-clause-effects c = λ messages.
    let value : Key → Option (List Value) = λ q. find key_cmp q (holds row_effect c.args.tree.now.1) in
    let start = c.loop.start in
    let keys = c.args.keys.now in
    let others = c.args.others.now in
    let size = length keys - start in
    let group : JobGroup = record { jobs = c.in_ok-jobs-2.jobs } in
    let from = drop c.loop.skipped messages in
    let last : c.between-last.result.now ≡ drop start keys = c.between-last.ensures ∙ take_all size (drop start keys) (omega (arith, length-drop start keys)) in
    let own : c.between-own-2.result.now ≡ drop start others =
    c.between-own-2.ensures ∙ take_all size (drop start others) (omega (arith, length-drop start others, c.requires.same)) in
    let groups = flat_map (effects_in_group messages) c.loop.groups.items in
    ap (flat_map (effects_in_group messages)) c.in_ok-push-2.ensures.items ∙ flat_map-push (effects_in_group messages) c.loop.groups.items group
    ∙ ap (λ es. groups ++ es) (c.in_ok-jobs-2.ensures.effects messages
    ∙ ap (λ ks. effects_by (λ k. k.now) value ks c.between-own-2.result.now from) last ∙ ap (λ ns. effects_by (λ k. k.now) value (drop start keys) ns from) own)
    ∙ c.loop.invariant.effects messages
