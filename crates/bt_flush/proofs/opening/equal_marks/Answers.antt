use Rattle.std.proofs.Common.{◌≡◌, ◌∙◌, ap, replicate, rules, take}
use Rattle.std.proofs.lemmas.List.{take-replicate}
use Rattle.bt_form.specs.declared.shape.TheConstants.{LARGEST_FANOUT}
use Rattle.bt_flush.proofs.opening.equal_marks.Goals as goal

pub returns : goal.returns
returns c =
    let all : c.from-marks.result.items ≡ replicate LARGEST_FANOUT c.args.mark = search rules in
    c.truncate.ensures.items ∙ ap (take c.args.count) all ∙ take-replicate c.args.count LARGEST_FANOUT c.args.mark c.requires
