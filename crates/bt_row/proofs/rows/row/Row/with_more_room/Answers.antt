use Rattle.std.proofs.Common.{◌∙◌, ap, subst, sym}
use Rattle.bt_row.specs.inside.Packing.{IsPacked, unpacked}
use Rattle.bt_row.proofs.Fronts.{copied}
use Rattle.bt_row.proofs.rows.row.Row.with_more_room.Goals as goal

pub invariant_of-result : goal.invariant_of-result
invariant_of-result c = subst IsPacked (sym (copied _ _ _ _ c.in_ok-push.ensures.ok c.in_ok-wider.ensures c.as_slice-bytes.ensures)) c.self.invariant

pub returns : goal.returns
returns c = ap unpacked (copied _ _ _ _ c.in_ok-push.ensures.ok c.in_ok-wider.ensures c.as_slice-bytes.ensures) ∙ c.self.view_is
