use Rattle.std.proofs.Common.{◌∙◌, ap, subst, sym}
use Rattle.std.proofs.lemmas.Result.{IfOk-weaker}
use Rattle.std.specs.FinMap.{find}
use Rattle.bt_keycode.specs.Keys.{key_cmp}
use Rattle.bt_message.specs.Effects.{effect_of}
use Rattle.bt_message.specs.Weights.{weigh_of}
use Rattle.bt_form.specs.Fits.{IsInOrder}
use Rattle.bt_form.specs.Flushes.{holds}
use Rattle.bt_read.proofs.offered.RowsOfChildren.{shape_in_order}
use Rattle.bt_node.proofs.tree.Tree.get.Goals as goal

pub get-requires : goal.get-requires
get-requires g c = subst IsInOrder (sym c.walk.ensures.root) (shape_in_order (weigh_of g.V.Merge.terms) c.args.self.now.0 c.args.self.now.1 c.walk.ensures.fits)

pub returns : goal.returns
returns g c =
    IfOk-weaker c.get.result _ _ (λ value e. e ∙ ap (λ t. find key_cmp c.args.key.now (holds (effect_of g.V.Merge.terms.merged) t)) c.walk.ensures.root) c.get.ensures
