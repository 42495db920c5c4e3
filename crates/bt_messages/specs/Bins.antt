-- Messages divided at pivots, and bins: one list of messages for each child.
use Rattle.std.specs.Prelude.{◌≡◌, true, List, [], ◌∷◌}
use Rattle.bt_value.specs.Lists.{concatenation}
use Rattle.bt_keycode.specs.Keys.{AllFrom, IsSorted, Key, is_before}
use Rattle.bt_message.specs.Messages.{Messages, messages_before, messages_from, with_messages}

-- messages divided at pivots: those before the first, those from it on and before the next, and so on
abbrev pub parts : {M : Type 0} → List Key → Messages M → List (Messages M)
parts [] ms = ms ∷ []
parts (k ∷ ks) ms = messages_before k ms ∷ parts ks (messages_from k ms)

-- each bin with newer messages
abbrev pub each_with : {M : Type 0} → List (Messages M) → List (Messages M) → List (Messages M)
each_with [] bs = []
each_with (p ∷ ps) [] = []
each_with (p ∷ ps) (b ∷ bs) = with_messages p b ∷ each_with ps bs

-- bins after messages that are divided at pivots: each goes to the bin of its child, after those of its key
abbrev pub added : {M : Type 0} → List Key → Messages M → List (Messages M) → List (Messages M)
added ks ms bins = each_with (parts ks ms) bins

-- all messages have a key before this one
abbrev pub AllBefore : {M : Type 0} → Key → Messages M → Type 0
AllBefore k [] = Unit {0}
AllBefore k (m ∷ ms) = (is_before m.0 k ≡ true) × AllBefore k ms

-- sorted bins, one more than pivots, each between its pivots
abbrev pub LieBetween : {M : Type 0} → List Key → List (Messages M) → Type 0
LieBetween ks [] = ⊥
LieBetween [] (b ∷ []) = IsSorted b
LieBetween [] (b ∷ c ∷ bs) = ⊥
LieBetween (k ∷ ks) (b ∷ bs) = IsSorted b × AllBefore k b × AllFrom k (concatenation bs) × LieBetween ks bs
