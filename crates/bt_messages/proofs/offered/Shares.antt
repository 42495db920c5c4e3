-- Shares of messages, for functions that go through them in turn.
use Rattle.std.proofs.Common.{◌≡◌, ℕ, ◌<◌, ◌+◌, List, ◌∷◌, drop, get_or, length, subst, sym}
use Rattle.std.proofs.lemmas.List.{drop_more}
use Rattle.bt_messages.specs.Shares.{AreShares, IsShare}
use Rattle.bt_messages.specs.declared.share.Share.{Share}

-- the share at a place, and those after it, which are shares of what it leaves
pub share_at : {X : Type 0} (weigh : X → ℕ) (ss : List Share) (i : ℕ) (absent : Share) (ms rest : List X) → i < length ss → rest ≡ drop (get_or ss i absent).count ms → AreShares weigh ms (drop i ss) →
    IsShare weigh ms (get_or ss i absent) × AreShares weigh rest (drop (i + 1) ss)
share_at weigh ss i absent ms rest within later are =
    let here : AreShares weigh ms (get_or ss i absent ∷ drop (i + 1) ss) = subst (AreShares weigh ms) (drop_more ss i absent within) are in
    (here.0, subst (λ left. AreShares weigh left (drop (i + 1) ss)) (sym later) here.1)
