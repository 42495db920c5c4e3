use Rattle.std.proofs.Common.{◌≡◌, ◌∙◌, ◌++◌, ◌∷◌, ◌<◌, ◌+◌, [], ℕ, List, ap, get_or, length, sym, take}
use Rattle.std.proofs.lemmas.List.{take_all, take_more}
use Rattle.bt_value.proofs.try_clone.clone_all.Goals as goal

-- one more copy
one_more : {T : Type 0} (items copies new : List T) (i : ℕ) (item copy : T) → i < length items → copies ≡ take i items → new ≡ copies ++ copy ∷ [] → copy ≡ item → item ≡ get_or items i item
    → new ≡ take (i + 1) items
one_more {T} items copies new i item copy here so_far is same at =
    is ∙ ap (λ (xs : List T). xs ++ copy ∷ []) so_far ∙ ap (λ (x : T). take i items ++ x ∷ []) (same ∙ at) ∙ sym (take_more items i item here)

pub loop-item-init : goal.loop-item-init
loop-item-init g c = c.in_ok-copies.ensures.items

pub loop-item-preserved : goal.loop-item-preserved
loop-item-preserved g c =
    one_more c.args.items.now c.loop-item.copies.items c.push.new.self.items c.loop-item.item-index c.item-item.result c.in_ok-try_clone.field-0 c.loop-item-test.true c.loop-item.invariant
    c.in_ok-push.ensures.items c.in_ok-try_clone.ensures c.item-item.is

pub returns : goal.returns
returns g c = c.loop-item.invariant ∙ take_all c.loop-item.item-index c.args.items.now c.loop-item-test.false
