use Rattle.std.proofs.Common.{◌≡◌, ◌∙◌, of_z, sym, to_z}
use Rattle.std.proofs.lemmas.Int.{to_z-of_z}
use Rattle.std.specs.Int.{w64}
use Rattle.bt_show.proofs.Fronts.{counted_row}
use Rattle.bt_show.proofs.groups.Grouping.add_to_last.Goals as goal

pub returns : goal.returns
returns c = λ row last is.
    let same : to_z w64 (of_z w64 c.args.number) ≡ c.args.number = to_z-of_z w64 c.args.number c.ranges.number in
    counted_row c.self.inside.columns c.self.inside.place c.self.inside.groups.items c.count_in_last.new.groups.items (to_z w64 (of_z w64 c.args.number))
    c.count_in_last.result c.count_in_last.ensures.groups
    c.self.inside.is_over c.args.self.now (sym c.self.view_is) c.if-self.false row last (is ∙ sym same)
