use Rattle.std.proofs.Common.{◌++◌, ◌∙◌, ap, refl}
use Rattle.bt_form.specs.Children.{after_pivot}
use Rattle.bt_form.proofs.offered.code.ChildLists.{after_pivot-nothing}
use Rattle.bt_flush.proofs.crown.none_pending.Goals as goal

pub same-siblings : goal.same-siblings
same-siblings g c = refl

pub returns : goal.returns
returns g c =
    c.in_ok-append.ensures ∙ ap (λ cs. cs ++ after_pivot c.new.result c.new-2.result c.args.siblings) c.in_ok-children.ensures
    ∙ after_pivot-nothing c.args.siblings c.new.result c.new-2.result c.new.ensures c.new-2.ensures c.len.ensures.led

pub same-children : goal.same-children
same-children g c = refl
