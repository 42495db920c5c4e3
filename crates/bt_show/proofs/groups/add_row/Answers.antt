use Rattle.std.proofs.Common.{rules, ◌≡◌, ◌∙◌, ◌++◌, ◌∷◌, [], Some, ap, of_z, refl, subst, sym, take, to_z}
use Rattle.std.specs.Int.{w64}
use Rattle.bt_show.specs.Groups.{number_in}
use Rattle.bt_show.specs.inside.Fronts.{IsLastOf}
use Rattle.bt_show.specs.inside.Neighbours.{AreBounded, group_of, groups_then}
use Rattle.bt_show.proofs.offered.LastGroup.{bounded-append}
use Rattle.bt_show.proofs.groups.add_row.Goals as goal

pub returns-then-is_of_last-clause-groups : goal.returns-then-is_of_last-clause-groups
returns-then-is_of_last-clause-groups c =
    let groups = c.args.groups.now.items in
    let values = take c.args.columns c.args.row.now in
    let same : c.deref.result.now ≡ groups = search rules in
    let last : IsLastOf values (Some groups) = subst (λ all. IsLastOf values (Some all)) same (c.is_of_last.ensures.last c.if-is_of_last.true) in
    let number : number_in c.args.row.now c.args.place ≡ to_z w64 (of_z w64 c.number_in.result) = search rules in
    ap (λ n. groups_then groups (record { group = values; count = 1; total = n } ∷ [])) number ∙ c.count_in_last.ensures.groups values last

pub returns-clause-groups : goal.returns-clause-groups
returns-clause-groups c =
    let groups = c.args.groups.now.items in
    let own = group_of c.args.columns c.args.place c.args.row.now in
    let same : c.deref.result.now ≡ groups = search rules in
    subst (λ all. groups_then all (own ∷ []) ≡ Some (all ++ own ∷ [])) same (c.is_of_last.ensures.other c.if-is_of_last.false own refl)
    ∙ ap (λ one. Some (groups ++ one ∷ [])) (sym c.in_ok-group_of.ensures.sum)
    ∙ ap Some (sym c.in_ok-push.ensures.items)

pub returns-clause-bounded : goal.returns-clause-bounded
returns-clause-bounded c =
    subst AreBounded (sym c.in_ok-push.ensures.items)
    (bounded-append c.args.groups.now.items (c.in_ok-group_of.field-0 ∷ []) c.requires (c.in_ok-group_of.ensures.bounded, tt))
