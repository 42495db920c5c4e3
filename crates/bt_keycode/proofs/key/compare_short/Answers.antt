use Rattle.std.proofs.Common.{◌∙◌, ap, sym}
use Rattle.std.specs.Cmp.{tied_itself}
use Rattle.std.specs.Cmp.Lexicographic.{nat_list_cmp_total}
use Rattle.bt_value.specs.Paddings.{padded}
use Rattle.bt_keycode.specs.Keys.{key_cmp}
use Rattle.bt_keycode.proofs.Prefixes.{all_same, first_same, same_fourteen, same_sixteen}
use Rattle.bt_keycode.proofs.key.compare_short.Goals as goal

pub order_at-requires-2-clause-before : goal.order_at-requires-2-clause-before
order_at-requires-2-clause-before c = first_same _ _ c.in_default.ensures.same

pub order_at-requires-3-clause-before : goal.order_at-requires-3-clause-before
order_at-requires-3-clause-before c = same_fourteen _ _ (same_sixteen _ _ c.in_default.ensures.same c.in_default-order_at.ensures.same)

pub returns : goal.returns
returns c =
    let fourteen = same_fourteen _ _ (same_sixteen _ _ c.in_default.ensures.same c.in_default-order_at.ensures.same) in
    let all = all_same c.args.left.now c.args.right.now fourteen c.in_default-order_at-2.ensures.same in
    sym (ap (λ bytes. key_cmp bytes (padded 22 c.args.right.now)) all ∙ tied_itself nat_list_cmp_total (padded 22 c.args.right.now))
