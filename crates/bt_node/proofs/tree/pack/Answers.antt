use Rattle.std.proofs.Common.{◌∙◌, ap, rules, subst, sym}
use Rattle.std.specs.FinMap.{is_sorted}
use Rattle.std.specs.declared.option.Option.TheVariants.{None}
use Rattle.bt_keycode.specs.Keys.{key_cmp}
use Rattle.bt_message.specs.Effects.{effect_of}
use Rattle.bt_message.specs.declared.message.Message.{Message}
use Rattle.bt_message.specs.Weights.{weigh_of}
use Rattle.bt_flush.specs.Drains.{AreDry}
use Rattle.bt_form.specs.Fits.{IsRoomy, SiblingsFit}
use Rattle.bt_form.specs.Flushes.{all_hold, crown, leaves}
use Rattle.bt_form.specs.Trees.{nodes}
use Rattle.bt_node.proofs.lemmas.crowns.ShapedTrees.{has_room}
use Rattle.bt_flush.proofs.offered.Drains.{crown_dries, dry-leaves}
use Rattle.bt_form.proofs.offered.flushes.Groups.{leaves-hold}
use Rattle.bt_flush.proofs.offered.Laws.{leaves-fit}
use Rattle.bt_keycode.proofs.offered.Truths.{t_true}
use Rattle.bt_node.proofs.tree.pack.Goals as goal

pub crown-requires : goal.crown-requires
crown-requires g c =
    let M = Message g.row.V.Denot g.row.V-Delta.Denot in
    let roomy : IsRoomy c.args.shape = search (has_room, rules) in
    let is = c.in_ok-siblings.ensures ∙ ap (leaves {M = M} c.args.shape) c.from_sorted.ensures in
    let sorted = t_true (is_sorted key_cmp c.args.rows.items) c.requires in
    (0, subst (SiblingsFit (weigh_of g.V.Merge.terms) c.args.shape 0 None None) (sym is) (leaves-fit (weigh_of g.V.Merge.terms) c.args.shape c.args.rows.items roomy sorted))

pub returns : goal.returns
returns g c =
    let M = Message g.row.V.Denot g.row.V-Delta.Denot in
    let effect = effect_of g.V.Merge.terms.merged in
    let made = c.in_ok-crown.ensures in
    let is = c.in_ok-siblings.ensures ∙ ap (leaves {M = M} c.args.shape) c.from_sorted.ensures in
    record {
      tree = made.tree ∙ ap (λ xs. (c.args.shape, crown c.args.shape xs)) is;
      fits = made.fits;
      rows = made.rows ∙ ap (all_hold effect) is ∙ leaves-hold effect c.args.shape c.args.rows.items;
      dry = crown_dries c.args.shape _ _ made.tree (subst (λ xs. AreDry (nodes xs)) (sym is) (dry-leaves M c.args.shape c.args.rows.items));
    }
