use Rattle.std.proofs.Common.{subst, sym}
use Rattle.std.proofs.lemmas.List.Elements.{All-push}
use Rattle.std.specs.List.{All}
use Rattle.bt_message.specs.Effects.{effect_of}
use Rattle.bt_portions.specs.KeyShares.{HasValues}
use Rattle.bt_portions.proofs.key_shares.add_share.Goals as goal

pub returns-clause-values : goal.returns-clause-values
returns-clause-values g c = λ value there so_far.
    let has = HasValues (effect_of g.V.Merge.terms.merged) value in
    subst (All has) (sym c.in_ok-push.ensures.items) (All-push has c.args.shares.now.items (c.args.portion, c.args.keys) so_far there)
