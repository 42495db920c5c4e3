use Rattle.std.proofs.Common.{◌≡◌, ◌≤◌, ◌∙◌, List, ℕ, ap, length, sym, take}
use Rattle.bt_value.specs.inside.Shorts.{most_short}
use Rattle.bt_value.specs.Paddings.{padded}
use Rattle.bt_value.proofs.Paddings.{padded-front}
use Rattle.bt_value.proofs.bytes.short.Goals as goal

front : (n : ℕ) (seen bytes : List ℕ) → length bytes ≤ n → seen ≡ padded n bytes → take (length bytes) seen ≡ bytes
front n seen bytes few is = ap (λ (bs : List ℕ). take (length bytes) bs) is ∙ padded-front n bytes few

whole : (n : ℕ) (seen bytes : List ℕ) → length bytes ≤ n → seen ≡ padded n bytes → seen ≡ padded n (take (length bytes) seen)
whole n seen bytes few is = is ∙ ap (λ (bs : List ℕ). padded n bs) (sym (front n seen bytes few is))

pub returns-clause-bytes : goal.returns-clause-bytes
returns-clause-bytes c = front most_short c.padded.result c.args.bytes.now c.requires c.padded.ensures

pub returns-clause-inside : goal.returns-clause-inside
returns-clause-inside c = (c.requires, whole most_short c.padded.result c.args.bytes.now c.requires c.padded.ensures)
