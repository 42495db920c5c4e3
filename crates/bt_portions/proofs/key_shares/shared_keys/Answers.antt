use Rattle.std.proofs.Common.{◌≡◌, ◌<◌, ◌∙◌, ◌+◌, ◌++◌, [], None, List, ap, append-nil, arith, drop, length, map, subst, sym, take}
use Rattle.std.proofs.lemmas.List.{drop-drop, nil_from_length}
use Rattle.std.proofs.lemmas.List.Elements.{All-nil}
use Rattle.std.specs.List.{All, flat_map}
use Rattle.std.specs.Vec.Iter.{into_iter_items}
use Rattle.bt_message.specs.Effects.{effect_of}
use Rattle.bt_form.specs.Parts.{AreRising}
use Rattle.bt_form.specs.Portions.{Chained, HaveThere, value_in}
use Rattle.bt_portions.specs.KeyShares.{HasRisingKeys, HasValues}
use Rattle.bt_portions.specs.inside.OwnedKeys.{owned_count}
use Rattle.bt_portions.proofs.KeyShares.{NoneBefore, keys_go_on, none_before_none, none_left, own_values, rest_following}
use Rattle.bt_portions.proofs.offered.RisingKeys.{first_rise, rest_rise}
use Rattle.bt_portions.proofs.key_shares.shared_keys.Goals as goal

-- a list that is not empty
some_there : {X : Type 0} (xs : List X) → 0 < length xs → xs ≡ [] → ⊥
some_there xs some none = omega (arith, some, ap length none)

pub loop-portion-init : goal.loop-portion-init
loop-portion-init g c =
    let effect = effect_of g.V.Merge.terms.merged in
    let given : into_iter_items c.into_iter-portion-iterator.result ≡ c.args.portions.items = c.into_iter-portion-iterator.ensures.into_iter_gives.0 in
    record {
      shared = ap (λ shares. flat_map (λ share. share.1.now) shares ++ c.args.keys.now) c.new-shares.ensures.items;
      values = λ value have. subst (All (HasValues effect value)) (sym c.new-shares.ensures.items) (All-nil (HasValues effect value));
      have = λ value have key. subst (HaveThere effect key (value key)) (sym given) (have key);
      beside = (None, subst (λ ps. Chained None ps None) (sym given) c.requires.chained, none_before_none (map (λ k. k.now) c.args.keys.now));
      last = λ none. absurd (some_there c.args.portions.items c.requires.some (sym given ∙ none));
      rising = c.requires.rising;
      shares = subst (All HasRisingKeys) (sym c.new-shares.ensures.items) (All-nil HasRisingKeys);
      few = omega arith;
    }

pub add_share-requires : goal.add_share-requires
add_share-requires g c =
    subst (λ ks. AreRising (map (λ k. k.now) ks)) (sym c.owned_from-count.ensures.keys)
    (first_rise (λ k. k.now) c.owned_from-count.result.1 (drop c.loop-portion.done c.args.keys.now) c.loop-portion.invariant.rising)

pub loop-portion-preserved : goal.loop-portion-preserved
loop-portion-preserved g c =
    let effect = effect_of g.V.Merge.terms.merged in
    let so_far = c.loop-portion.invariant in
    let p = c.in-Some.portion in
    let steps = c.in-Some.ensures.steps.0 in
    let rest = drop c.loop-portion.done c.args.keys.now in
    let count = c.owned_from-count.result.1 in
    let own = c.owned_from-count.result.0.now in
    let left = drop (c.loop-portion.done + count) c.args.keys.now in
    let left_is : left ≡ drop count rest = sym (drop-drop count c.loop-portion.done c.args.keys.now) in
    let own_is : own ≡ take (owned_count p (map (λ k. k.now) rest)) rest = c.owned_from-count.ensures.keys ∙ ap (λ i. take i rest) c.owned_from-count.ensures.count in
    let following : left ≡ drop (owned_count p (map (λ k. k.now) rest)) rest = left_is ∙ ap (λ i. drop i rest) c.owned_from-count.ensures.count in
    let chain = subst (λ ps. Chained so_far.beside.0 ps None) steps so_far.beside.1 in
    let from = subst (λ l. NoneBefore l (map (λ k. k.now) rest)) (sym chain.0) so_far.beside.2 in
    record {
      shared = keys_go_on (flat_map (λ share. share.1.now) c.loop-portion.shares.items) own left rest (flat_map (λ share. share.1.now) c.add_share.new.shares.items)
          c.args.keys.now count c.in_ok-add_share.ensures.keys c.owned_from-count.ensures.keys left_is so_far.shared;
      values = λ value have. c.in_ok-add_share.ensures.values value
          (subst (λ ks. map (λ k. value_in effect k.now p) ks ≡ map (λ k. value k.now) ks) (sym own_is)
          (own_values (λ k. k.now) p effect value (λ q own. (subst (HaveThere effect q (value q)) steps (so_far.have value have q)).0 own) rest))
          (so_far.values value have);
      have = λ value have key. (subst (HaveThere effect key (value key)) steps (so_far.have value have key)).1;
      beside = (p.high, chain.1, subst (λ l. NoneBefore p.high (map (λ k. k.now) l)) (sym following) (rest_following (λ k. k.now) p rest from so_far.rising));
      last = λ none. following ∙ none_left (λ k. k.now) p (subst (λ ps. Chained p.high ps None) none chain.1) rest from;
      rising = subst (λ l. AreRising (map (λ k. k.now) l)) (sym left_is) (rest_rise (λ k. k.now) count rest so_far.rising);
      shares = c.in_ok-add_share.ensures.rising so_far.shares;
      few = c.owned_from-count.ensures.bound;
    }

pub returns-clause-keys : goal.returns-clause-keys
returns-clause-keys g c =
    let left = c.loop-portion.portion-iterator.rest in
    let none : left.items ≡ [] = nil_from_length left.items (omega (arith, left.ok.0, c.in-None.ensures.steps.0)) in
    let keys = flat_map (λ share. share.1.now) c.loop-portion.shares.items in
    sym (append-nil keys) ∙ ap (λ l. keys ++ l) (sym (c.loop-portion.invariant.last none)) ∙ c.loop-portion.invariant.shared
