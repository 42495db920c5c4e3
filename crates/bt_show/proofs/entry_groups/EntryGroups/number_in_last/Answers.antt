use Rattle.std.proofs.Common.{rules, ◌≡◌, ◌∙◌, ◌++◌, ◌-◌, Some, drop, option_map}
use Rattle.std.proofs.lemmas.Result.{IfOk-weaker}
use Rattle.bt_show.specs.Groups.{number_in}
use Rattle.bt_show.specs.inside.Entries.{row_of_entry}
use Rattle.bt_show.specs.inside.Fronts.{IsFrontWhereKept}
use Rattle.bt_show.proofs.Fronts.{last_number}
use Rattle.bt_show.proofs.entry_groups.EntryGroups.number_in_last.Goals as goal

pub returns : goal.returns
returns c =
    let kinds = c.args.self.now.0 in
    let g = c.args.self.now.1 in
    let front = c.in-Some.front in
    let rest = c.in-Some-following_front.rest.now in
    let kept : IsFrontWhereKept kinds g (Some front) = search rules in
    let begins : c.args.key.now ≡ front ++ rest = search rules in
    let place : c.place.result - c.columns-columns.result ≡ g.1 - g.0 = search rules in
    let following : c.after_columns-kinds.result.now ≡ drop g.0 kinds = search rules in
    IfOk-weaker c.number_of_entry.result _ _
    (λ number is. last_number kinds g front kept.0 kept.1 c.args.key.now rest c.args.entry.now begins number
    (is ∙ (λ i. option_map (λ row. number_in row (place i)) (row_of_entry (following i) (rest, c.args.entry.now)))))
    c.number_of_entry.ensures
