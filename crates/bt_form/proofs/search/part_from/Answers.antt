use Rattle.std.proofs.Common.{◌∙◌, arith, ap, length, length-drop}
use Rattle.std.proofs.lemmas.List.{take_rest}
use Rattle.bt_form.proofs.offered.code.RowSearch.{sorted_rest}
use Rattle.bt_form.proofs.search.part_from.Goals as goal

pub returns : goal.returns
returns g c =
    let entries = c.args.entries.now in
    let n = c.count_before_near-before.result in
    record {
      place = omega (arith, c.saturating_sub.ensures, c.count_before_near-before.ensures.bound, ap length (take_rest entries n), length-drop n entries);
      from = take_rest entries n ∙ c.count_before_near-before.ensures.from;
      sorted = sorted_rest n entries c.requires.sorted;
    }
