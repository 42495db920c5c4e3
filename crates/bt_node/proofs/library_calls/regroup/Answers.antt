use Rattle.std.proofs.Common.{◌∙◌, ap, arith, length, rules, subst, sym}
use Rattle.std.proofs.lemmas.Result.{IfOk-weaker}
use Rattle.bt_value.specs.Lists.{concatenation}
use Rattle.bt_message.specs.Effects.{effect_of}
use Rattle.bt_message.specs.Weights.{weigh_of}
use Rattle.bt_messages.proofs.offered.Parts.{concatenation_sorted}
use Rattle.bt_form.specs.Children.{AreDivided}
use Rattle.bt_form.specs.Fits.{IsRoomy}
use Rattle.bt_form.specs.Flushes.{grouped}
use Rattle.bt_node.proofs.lemmas.crowns.ShapedTrees.{has_room}
use Rattle.bt_form.proofs.offered.flushes.Divisions.{bins-length, divided-with_pending, length-with_pending, with_pending-shared}
use Rattle.bt_node.proofs.lemmas.flushes.Regrouped.{fit_above, hold_all_after}
use Rattle.bt_node.proofs.library_calls.regroup.Goals as goal

pub with_pending-requires : goal.with_pending-requires
with_pending-requires g c = bins-length c.args.siblings c.args.bins (omega (arith, c.requires.several)) c.requires.divided

pub close-requires-clause-some : goal.close-requires-clause-some
close-requires-clause-some g c =
    let same = bins-length c.args.siblings c.args.bins (omega (arith, c.requires.several)) c.requires.divided in
    omega (arith, c.requires.several, ap length c.with_pending.ensures, length-with_pending c.args.siblings c.args.bins same)

pub close-requires-clause-divided : goal.close-requires-clause-divided
close-requires-clause-divided g c = subst AreDivided (sym c.with_pending.ensures) (divided-with_pending c.args.siblings c.args.bins c.requires.divided)

pub returns-clause-nodes : goal.returns-clause-nodes
returns-clause-nodes g c =
    IfOk-weaker c.close.result _ _ (λ nodes e. e ∙ ap (grouped c.args.shape) (c.with_pending.ensures ∙ with_pending-shared c.args.siblings c.args.bins c.requires.divided)) c.close.ensures

pub returns-clause-fits : goal.returns-clause-fits
returns-clause-fits g c =
    let roomy : IsRoomy c.args.shape = search (has_room, rules) in
    let sorted = concatenation_sorted _ c.args.bins c.requires.divided in
    IfOk-weaker c.close.result _ _ (λ nodes is. fit_above (weigh_of g.V.Merge.terms) c.args.shape roomy c.args.siblings (concatenation c.args.bins)
    c.requires.several sorted nodes is c.requires.capacity)
    (returns-clause-nodes g c)

pub returns-clause-rows : goal.returns-clause-rows
returns-clause-rows g c =
    let roomy : IsRoomy c.args.shape = search (has_room, rules) in
    let sorted = concatenation_sorted _ c.args.bins c.requires.divided in
    IfOk-weaker c.close.result _ _ (λ nodes is. hold_all_after (weigh_of g.V.Merge.terms) c.args.shape roomy c.args.siblings (concatenation c.args.bins)
    c.requires.several sorted nodes is (effect_of g.V.Merge.terms.merged))
    (returns-clause-nodes g c)
