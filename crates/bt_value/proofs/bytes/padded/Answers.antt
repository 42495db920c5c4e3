use Rattle.std.proofs.Common.{◌≡◌, ◌≤◌, ◌++◌, ◌∙◌, List, ℕ, ap, drop, length, replicate}
use Rattle.bt_value.specs.inside.Shorts.{most_short}
use Rattle.bt_value.specs.Paddings.{padded}
use Rattle.bt_value.proofs.Paddings.{written-over}
use Rattle.bt_value.proofs.bytes.padded.Goals as goal

with_zeros : (n : ℕ) (seen bytes : List ℕ) → length bytes ≤ n → seen ≡ bytes → seen ++ drop (length bytes) (replicate n 0) ≡ padded n bytes
with_zeros n seen bytes few is = ap (λ (bs : List ℕ). bs ++ drop (length bytes) (replicate n 0)) is ∙ written-over n bytes few

pub returns : goal.returns
returns c = with_zeros most_short c.copy_from_slice.new.self c.args.bytes.now c.requires c.copy_from_slice.ensures.after
