use Rattle.std.proofs.Common.{◌≡◌, ◌<◌, ◌==◌, ℕ, List, arith, get_or, refl, true}
use Rattle.bt_value.specs.declared.plain_fields.TheConstants.{PLAIN_BYTES}
use Rattle.bt_value.specs.PlainFields.{is_plain as stands_for_itself}
use Rattle.bt_value.proofs.Tables.{agree_at, agree_below}
use Rattle.bt_value.proofs.plain_fields.is_plain.Goals as goal

-- the dots of a table of 256 marks are the bytes that stand for themselves
dotted : (marks : List ℕ) (b : ℕ) → b < 256 → agree_below (λ k. get_or marks k 0 == 46) stands_for_itself 256 ≡ true → (get_or marks b 0 == 46) ≡ stands_for_itself b
dotted marks b below agree = agree_at _ _ 256 agree b below

pub returns : goal.returns
unfolding agree_below
returns c = dotted PLAIN_BYTES c.args.byte (omega arith) refl
