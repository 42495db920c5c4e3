use Rattle.std.proofs.Common.{◌≡◌, ◌<◌, ◌∷◌, [], List, arith, length, refl, subst}
use Rattle.std.specs.FinMap.{find}
use Rattle.std.specs.List.{All}
use Rattle.std.proofs.lemmas.Result.{IfOk-weaker}
use Rattle.bt_keycode.specs.Keys.{Key, key_cmp}
use Rattle.bt_message.specs.Effects.{effect_of}
use Rattle.bt_form.specs.Flushes.{holds}
use Rattle.bt_form.specs.Portions.{Portion, owners}
use Rattle.bt_portions.specs.KeyShares.{HasValues}
use Rattle.bt_portions.proofs.key_shares.owned_keys.Goals as goal

some_owner : {V M : Type 0} (q : Key) (ps : List (Portion V M)) → owners q ps ≡ 1 → 0 < length ps
some_owner q [] one = absurd (omega (arith, one))
some_owner q (p ∷ ps) one = omega arith

pub shared_keys-requires-clause-some : goal.shared_keys-requires-clause-some
shared_keys-requires-clause-some g c = some_owner [] c.in_ok-portions.portions.items (c.in_ok-portions.ensures.owners [])

-- without bounds the empty key lies in the range
pub shared_keys-requires-clause-chained : goal.shared_keys-requires-clause-chained
shared_keys-requires-clause-chained g c = c.in_ok-portions.ensures.chained [] refl

pub returns-clause-values : goal.returns-clause-values
returns-clause-values g c =
    let effect = effect_of g.V.Merge.terms.merged in
    IfOk-weaker c.shared_keys.result _ _
    (λ shares all. subst (λ t. All (HasValues effect (λ q. find key_cmp q (holds effect t))) shares.items) c.walk.ensures.root
    (all (λ q. find key_cmp q (holds effect c.walk.result)) c.in_ok-portions.ensures.values))
    c.shared_keys.ensures.values
