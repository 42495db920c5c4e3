use Rattle.std.proofs.Common.{◌≡◌, ◌∙◌, ◌+◌, ◌≤◌, ℕ, [], ◌∷◌, ◌++◌, None, replicate, ap, arith}
use Rattle.std.proofs.lemmas.List.{replicate_more}
use Rattle.bt_gang.proofs.empty_places.empty_places.Goals as goal

counts : (len old counter : ℕ) → len ≡ old + 1 → old ≡ counter → len ≡ counter + 1
counts len old counter e f = omega arith

holds : (n room old : ℕ) → room ≡ old → n ≤ old → n ≤ room
holds n room old e l = omega arith

pub loop-preserved : goal.loop-preserved
loop-preserved g c =
    let i = c.loop.invariant in
    let p = c.push_reserved.ensures in
    record {
      items = p.items ∙ (ap (λ xs. xs ++ None ∷ []) i.items ∙ replicate_more c.loop.counter None);
      count = counts _ _ _ p.len i.count;
      room = holds _ _ _ p.capacity i.room;
    }

pub returns : goal.returns
returns g c = c.loop.invariant.items ∙ ap (λ k. replicate k None) (omega (arith, c.loop.auto.counter-end, c.loop-test.false))
