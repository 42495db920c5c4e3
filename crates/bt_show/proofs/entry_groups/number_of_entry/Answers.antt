use Rattle.std.proofs.Common.{rules, ◌≡◌, ◌∙◌, ◌≤◌, ◌-◌, ap, length, of_z, sym, to_z}
use Rattle.std.specs.Int.{w64}
use Rattle.std.specs.Prelude.{Some}
use Rattle.bt_keycode.specs.Codes.{IsCode, IsNoCode}
use Rattle.bt_show.specs.Groups.{number_in}
use Rattle.bt_show.proofs.Fronts.{included_number, no_number}
use Rattle.bt_show.proofs.entry_groups.number_of_entry.Goals as goal

pub returns-then-is_code : goal.returns-then-is_code
returns-then-is_code c =
    let kinds = c.args.kinds.now in
    let included = c.args.entry.now in
    let few : length kinds ≤ c.args.place = search rules in
    let at : c.in-Some.included ≡ c.args.place - length kinds = search rules in
    let is : IsCode kinds c.args.key.now = search rules in
    let number : number_in included c.in-Some.included ≡ to_z w64 (of_z w64 c.number_in-then-is_code.result) = search rules in
    ap Some (sym number ∙ ap (number_in included) at) ∙ sym (included_number kinds c.args.key.now included c.args.place is few)

pub returns-else-is_code : goal.returns-else-is_code
returns-else-is_code c =
    let none : IsNoCode c.args.kinds.now c.args.key.now = search rules in
    sym (no_number c.args.kinds.now c.args.key.now c.args.entry.now c.args.place none)
