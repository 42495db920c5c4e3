use Rattle.std.proofs.Common.{rules, ◌≡◌, ◌∙◌, ◌<◌, ◌-◌, ap, get_or, length, refl, sym, take}
use Rattle.bt_value.specs.Values.{same_values}
use Rattle.bt_show.proofs.offered.LastGroup.{after_last, of_last}
use Rattle.bt_show.proofs.groups.is_of_last.Goals as goal

pub returns-in-Some-clause-last : goal.returns-in-Some-clause-last
returns-in-Some-clause-last c = λ same.
    let groups = c.args.groups.now in
    let last = c.in-Some.last.now in
    let some : 0 < length groups = search rules in
    let is : last ≡ get_or groups (length groups - 1) last = search rules in
    of_last groups (length groups) last refl some is (take c.args.columns c.args.row.now) (sym c.starts_with.ensures ∙ same)

pub returns-in-Some-clause-other : goal.returns-in-Some-clause-other
returns-in-Some-clause-other c = λ other own values.
    let groups = c.args.groups.now in
    let last = c.in-Some.last.now in
    let some : 0 < length groups = search rules in
    let is : last ≡ get_or groups (length groups - 1) last = search rules in
    after_last groups (length groups) last refl some is own (ap (same_values last.group) values ∙ sym c.starts_with.ensures ∙ other)
