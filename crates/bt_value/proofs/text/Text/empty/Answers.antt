use Rattle.std.proofs.Common.{◌≡◌, sym, subst, true}
use Rattle.bt_value.specs.Texts.{is_text}
use Rattle.bt_value.proofs.offered.Texts.{no_bytes}
use Rattle.bt_value.proofs.text.Text.empty.Goals as goal

pub invariant_of-result : goal.invariant_of-result
invariant_of-result c = subst (λ bytes. is_text bytes ≡ true) (sym c.new.ensures) no_bytes
