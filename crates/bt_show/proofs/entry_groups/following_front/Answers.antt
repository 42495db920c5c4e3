use Rattle.std.proofs.Common.{◌==◌, ℕ}
use Rattle.std.proofs.lemmas.Bool.Decides.{Decides-eqb}
use Rattle.std.proofs.lemmas.Slice.Eq.{strip_prefix_is}
use Rattle.bt_show.proofs.entry_groups.following_front.Goals as goal

pub returns : goal.returns
returns c =
    let is = strip_prefix_is {A = ℕ} {E = λ a b. a == b} Decides-eqb c.as_slice.result.now c.as_slice-2.result.now c.strip_prefix.result c.strip_prefix.ensures.cases in
    rw (c.as_slice.ensures, c.as_slice-2.ensures) at is
