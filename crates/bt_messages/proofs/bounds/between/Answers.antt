use Rattle.std.proofs.Common.{◌∙◌, length, refl, take}
use Rattle.std.proofs.lemmas.List.{take_rest}
use Rattle.std.specs.Option.{option_copied}
use Rattle.bt_keycode.specs.Keys.{is_before_upper, is_between}
use Rattle.bt_messages.proofs.Cuts.{cut_lower, cut_upper, sorted_part, taken_is}
use Rattle.bt_messages.proofs.bounds.between.Goals as goal

pub count_before_bound-requires-2-clause-sorted : goal.count_before_bound-requires-2-clause-sorted
count_before_bound-requires-2-clause-sorted g c =
    let upper = cut_upper (option_copied c.args.to) c.args.entries.now c.count_before_bound.result (length c.args.entries.now) refl c.count_before_bound.ensures.cut in
    sorted_part (λ m. is_before_upper (option_copied c.args.to) m.0) c.args.entries.now _ c.requires upper.0

pub returns : goal.returns
returns g c =
    let first = take c.count_before_bound.result c.args.entries.now in
    let upper = cut_upper (option_copied c.args.to) c.args.entries.now c.count_before_bound.result (length c.args.entries.now) refl c.count_before_bound.ensures.cut in
    let lower = cut_lower (option_copied c.args.from) first c.count_before_bound-2.result c.count_before_bound-2.ensures.cut in
    let is = taken_is (option_copied c.args.from) (option_copied c.args.to) c.args.entries.now first _ upper.0 (take_rest first c.count_before_bound-2.result ∙ lower.1) in
    record { between = is; sorted = sorted_part (λ m. is_between (option_copied c.args.from) (option_copied c.args.to) m.0) c.args.entries.now _ c.requires is }
