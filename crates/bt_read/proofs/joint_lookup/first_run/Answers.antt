use Rattle.std.proofs.Common.{◌∙◌, Some, ap, map}
use Rattle.std.specs.Option.{option_copied}
use Rattle.bt_read.specs.inside.Together.{count_between}
use Rattle.bt_read.proofs.lemmas.code.Together.{run_belongs}
use Rattle.bt_read.proofs.joint_lookup.first_run.Goals as goal

pub returns-clause-belong : goal.returns-clause-belong
returns-clause-belong c =
    let first = c.index-keys-0.result in
    let counted = c.count_between-count.ensures.count ∙ ap (λ ks. count_between (Some first.now) (option_copied c.pivot_after-next.result) (map (λ k. k.now) ks)) c.later_keys.ensures in
    run_belongs (λ k. k.now) first c.args.keys.now c.args.pivots.now c.pivots_up_to-place.result c.count_between-count.result
    c.requires.some c.index-keys-0.is c.pivots_up_to-place.ensures.count c.pivot_after-next.ensures counted
