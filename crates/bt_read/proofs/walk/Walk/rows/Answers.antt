use Rattle.std.proofs.Common.{◌∙◌}
use Rattle.std.specs.Option.{option_copied}
use Rattle.bt_message.specs.Effects.{effect_of}
use Rattle.bt_read.proofs.lemmas.code.RowsShown.{copied_all, held_between-sorted}
use Rattle.bt_read.proofs.walk.Walk.rows.Goals as goal

pub returns-clause-rows : goal.returns-clause-rows
returns-clause-rows g c = c.into_rows.ensures ∙ c.in_ok-visit.ensures ∙ copied_all _ _ c.new-copies.ensures

pub returns-clause-sorted : goal.returns-clause-sorted
returns-clause-sorted g c =
    held_between-sorted (effect_of g.V.Merge.terms.merged) (option_copied c.args.from) (option_copied c.args.to) c.args.self.now c.into_rows.result.items c.requires (returns-clause-rows g c)
