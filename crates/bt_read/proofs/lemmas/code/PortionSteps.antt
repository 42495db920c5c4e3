-- Portions of a node, child by child.
use Rattle.std.proofs.Common.{◌≡◌, ◌+◌, ℕ, suc, Bool, true, false, cond, not, ◌&&◌, List, [], ◌∷◌, ◌++◌, append_assoc, append-nil, map, refl, sym, ap, subst, ◌∙◌, arith}
use Rattle.std.specs.FinMap.{find}
use Rattle.std.specs.declared.option.Option.{Option}
use Rattle.std.specs.declared.option.Option.TheVariants.{Some}
use Rattle.bt_keycode.specs.Keys.{Key, key_cmp, is_before, is_before_lower, is_before_upper, is_between}
use Rattle.bt_message.specs.declared.message.Message.{Message}
use Rattle.bt_form.specs.Fits.{Lies}
use Rattle.bt_message.specs.Messages.{messages_past}
use Rattle.bt_form.specs.Messages.{Messages, rows_after, value_after}
use Rattle.bt_form.specs.Parts.{AreRising}
use Rattle.bt_read.specs.inside.Together.{values_after, tree_values}
use Rattle.bt_form.specs.Trees.{Tree}
use Rattle.bt_form.specs.Flushes.{holds}
use Rattle.bt_form.specs.Portions.{Chained, Portion, Divide, HaveThere, all_rows, owners, owns, rows_of}
use Rattle.bt_keycode.proofs.offered.Order.{before_chain}
use Rattle.bt_read.proofs.lemmas.code.LentMessages.{value_past}
use Rattle.bt_read.proofs.lemmas.code.Together.{IsAdded, one_after}
use Rattle.bt_read.proofs.lemmas.lookups.HeldValues.{tree_value-held}
use Rattle.bt_form.proofs.offered.rows.Values.{find-rows}
use Rattle.bt_form.proofs.offered.rows.Between.{earlier_below, later_from, outside_upper, same_upper}

-- ---- owners of a key

-- a key between two bounds lies on one side of a key between them
pub on_one_side : (low to : Option Key) (p q : Key) → is_before_lower low p ≡ false → is_before_upper to p ≡ true →
    cond (is_between low (Some p) q) 1 0 + cond (is_between (Some p) to q) 1 0 ≡ cond (is_between low to q) 1 0
on_one_side low to p q from below = go (is_before q p) refl
  where
    go : (b : Bool) → is_before q p ≡ b → cond (is_between low (Some p) q) 1 0 + cond (is_between (Some p) to q) 1 0 ≡ cond (is_between low to q) 1 0
    go true e =
        let first : is_between low (Some p) q ≡ is_between low to q = same_upper (not (is_before_lower low q)) (is_before q p) (is_before_upper to q) e (earlier_below to p q below e) in
        let second : is_between (Some p) to q ≡ false = ap (λ b. not b && is_before_upper to q) e in
        omega (arith, ap {B = ℕ} (λ b. cond b 1 0) first, ap {B = ℕ} (λ b. cond b 1 0) second)
    go false e =
        let first : is_between low (Some p) q ≡ false = ap (λ b. not (is_before_lower low q) && b) e ∙ outside_upper (not (is_before_lower low q)) in
        let second : is_between (Some p) to q ≡ is_between low to q = ap (λ b. not b && is_before_upper to q) (e ∙ sym (later_from low p q from e)) in
        omega (arith, ap {B = ℕ} (λ b. cond b 1 0) first, ap {B = ℕ} (λ b. cond b 1 0) second)

-- if a part owns a key, so does the whole
pub one_owns : (n : ℕ) (b d : Bool) → n + cond b 1 0 ≡ cond d 1 0 → b ≡ true → d ≡ true
one_owns n b true count is = refl
one_owns n b false count is = absurd (omega (arith, count, ap {B = ℕ} (λ x. cond x 1 0) is))

-- a bound before another one
module _ (low high to : Option Key) (p : Key) (is : high ≡ Some p) (from : is_before_lower low p ≡ false) (below : is_before_upper to p ≡ true) where
  sides : (q : Key) → cond (is_between low high q) 1 0 + cond (is_between (Some p) to q) 1 0 ≡ cond (is_between low to q) 1 0
  sides q = ap {B = ℕ} (λ h. cond (is_between low h q) 1 0 + cond (is_between (Some p) to q) 1 0) is ∙ on_one_side low to p q from below

  -- keys before it, and keys at or past it, lie between the outer bounds
  pub child_inside : (q : Key) → is_between low high q ≡ true → is_between low to q ≡ true
  child_inside q = one_owns (cond (is_between (Some p) to q) 1 0) (is_between low high q) (is_between low to q) (omega (arith, sides q))

  pub rest_inside : (q : Key) → is_between (Some p) to q ≡ true → is_between low to q ≡ true
  rest_inside q = one_owns (cond (is_between low high q) 1 0) (is_between (Some p) to q) (is_between low to q) (sides q)

module _ {V M : Type 0} where
  pub owners-append : (q : Key) (ps qs : List (Portion V M)) → owners q (ps ++ qs) ≡ owners q ps + owners q qs
  owners-append q [] qs = omega arith
  owners-append q (p ∷ ps) qs = elim (owns q p) as (λ b. cond b (suc (owners q (ps ++ qs))) (owners q (ps ++ qs)) ≡ cond b (suc (owners q ps)) (owners q ps) + owners q qs) [
    | true ↦ omega (arith, owners-append q ps qs)
    | false ↦ owners-append q ps qs
  ]

  -- ---- portions side by side

  pub chained-append : (low mid high : Option Key) (ps qs : List (Portion V M)) → Chained low ps mid → Chained mid qs high → Chained low (ps ++ qs) high
  chained-append low mid high [] qs first second = subst (λ l. Chained l qs high) (sym first) second
  chained-append low mid high (p ∷ ps) qs first second = (first.0, chained-append p.high mid high ps qs first.1 second)

  pub chained-split : (low high : Option Key) (ps qs : List (Portion V M)) → Chained low (ps ++ qs) high → (mid : Option Key) × Chained low ps mid × Chained mid qs high
  chained-split low high [] qs all = (low, refl, all)
  chained-split low high (p ∷ ps) qs all = let rest = chained-split p.high high ps qs all.1 in (rest.0, (all.0, rest.1), rest.2)

module _ {V M : Type 0} (effect : Option V → M → Option V) where
  pub have-append : (q : Key) (value : Option V) (ps qs : List (Portion V M)) → HaveThere effect q value ps → HaveThere effect q value qs → HaveThere effect q value (ps ++ qs)
  have-append q value [] qs first second = second
  have-append q value (p ∷ ps) qs first second = (first.0, have-append q value ps qs first.1 second)

  pub have-first : (q : Key) (value : Option V) (ps qs : List (Portion V M)) → HaveThere effect q value (ps ++ qs) → HaveThere effect q value ps
  have-first q value [] qs all = tt
  have-first q value (p ∷ ps) qs all = (all.0, have-first q value ps qs all.1)

  pub have-second : (q : Key) (value : Option V) (ps qs : List (Portion V M)) → HaveThere effect q value (ps ++ qs) → HaveThere effect q value qs
  have-second q value [] qs all = all
  have-second q value (p ∷ ps) qs all = have-second q value ps qs all.1

  pub all_rows-append : (ps qs : List (Portion V M)) → all_rows effect (ps ++ qs) ≡ all_rows effect ps ++ all_rows effect qs
  all_rows-append [] qs = refl
  all_rows-append (p ∷ ps) qs = ap (λ l. rows_of effect p ++ l) (all_rows-append ps qs) ∙ sym (append_assoc (rows_of effect p) (all_rows effect ps) (all_rows effect qs))

  -- ---- portions that are divided

  pub divide-chain : (ps qs rs : List (Portion V M)) → Divide effect ps qs → Divide effect qs rs → Divide effect ps rs
  divide-chain ps qs rs first second = record {
    rows = second.rows ∙ first.rows;
    owned = λ q. second.owned q ∙ first.owned q;
    values = λ q value have. second.values q value (first.values q value have);
    chained = λ low high chain. second.chained low high (first.chained low high chain);
  }

  -- one of several is divided
  pub divide-within : (before after : List (Portion V M)) (ps qs : List (Portion V M)) → Divide effect ps qs → Divide effect (before ++ (ps ++ after)) (before ++ (qs ++ after))
  divide-within before after ps qs divided = record {
    rows = all_rows-append before (qs ++ after) ∙ ap (λ l. all_rows effect before ++ l) (all_rows-append qs after ∙ ap (λ l. l ++ all_rows effect after) divided.rows ∙ sym (all_rows-append ps after))
        ∙ sym (all_rows-append before (ps ++ after));
    owned = λ q. omega (arith, owners-append q before (qs ++ after), owners-append q qs after, owners-append q before (ps ++ after), owners-append q ps after, divided.owned q);
    values = λ q value have.
        let rest = have-second q value before (ps ++ after) have in
        have-append q value before (qs ++ after) (have-first q value before (ps ++ after) have)
        (have-append q value qs after (divided.values q value (have-first q value ps after rest)) (have-second q value ps after rest));
    chained = λ low high chain.
        let first = chained-split low high before (ps ++ after) chain in
        let second = chained-split first.0 high ps after first.2 in
        chained-append low first.0 high before (qs ++ after) first.1 (chained-append first.0 second.0 high qs after (divided.chained first.0 second.0 second.1) second.2);
  }

  -- one more child of a portion, and the rest of it
  pub child_added : (whole parts more : List (Portion V M)) (rest child : Portion V M) (left : List (Portion V M)) → more ≡ parts ++ child ∷ [] → Divide effect (rest ∷ []) (child ∷ left) →
      Divide effect whole (parts ++ rest ∷ []) → Divide effect whole (more ++ left)
  child_added whole parts more rest child left more_is one so_far =
      let within = subst (λ l. Divide effect (parts ++ rest ∷ []) (parts ++ child ∷ l)) (append-nil left) (divide-within parts [] (rest ∷ []) (child ∷ left) one) in
      subst (Divide effect whole) (sym (ap (λ l. l ++ left) more_is ∙ append_assoc parts (child ∷ []) left)) (divide-chain whole (parts ++ rest ∷ []) (parts ++ child ∷ left) so_far within)

  -- one more is opened
  pub opened_more : (whole parts more below : List (Portion V M)) (left others : List (Portion V M)) (p : Portion V M) → left ≡ p ∷ others → more ≡ parts ++ below → Divide effect (p ∷ []) below →
      Divide effect whole (parts ++ left) → Divide effect whole (more ++ others)
  opened_more whole parts more below left others p left_is more_is one so_far =
      let before = subst (λ l. Divide effect whole (parts ++ l)) left_is so_far in
      subst (Divide effect whole) (sym (ap (λ l. l ++ others) more_is ∙ append_assoc parts below others))
      (divide-chain whole (parts ++ (p ∷ others)) (parts ++ (below ++ others)) before (divide-within parts others (p ∷ []) below one))

  pub opened_each : (whole parts left : List (Portion V M)) → left ≡ [] → Divide effect whole (parts ++ left) → Divide effect whole parts
  opened_each whole parts left none so_far = subst (Divide effect whole) (ap (λ l. parts ++ l) none ∙ append-nil parts) so_far

-- ---- values at several keys

rises_past : (k j : Key) (ks : List Key) → AreRising (k ∷ j ∷ ks) → AreRising (k ∷ ks)
rises_past k j [] rising = tt
rises_past k j (l ∷ ks) rising = (before_chain k j l rising.0 rising.1.0, rising.1.1)

module _ {V D : Type 0} (effect : Option V → Message V D → Option V) (newer : Messages (Message V D)) where
  -- messages up to a key do nothing at larger rising keys
  values_past : (k : Key) (ks : List Key) (olds : List (Option V)) → AreRising (k ∷ ks) → values_after effect (messages_past k newer) ks olds ≡ values_after effect newer ks olds
  values_past k [] olds rising = refl
  values_past k (j ∷ ks) [] rising = refl
  values_past k (j ∷ ks) (old ∷ olds) rising =
      ap (λ v. v ∷ values_after effect (messages_past k newer) ks olds) (value_past effect k j newer old rising.0)
      ∙ ap (λ vs. value_after effect j newer old ∷ vs) (values_past k ks olds (rises_past k j ks rising))

  -- one more key has its value, and the messages up to it are taken off
  pub value_more : {keys rest : List Key} {olds later values new wanted : List (Option V)} {left : Messages (Message V D)} (added : IsAdded effect newer keys rest olds later values new) →
      left ≡ messages_past added.key newer → AreRising keys → values ++ values_after effect newer keys olds ≡ wanted → new ++ values_after effect left rest later ≡ wanted
  value_more {rest = rest} {later = later} {new = new} added left_is rising so_far =
      ap (λ ms. new ++ values_after effect ms rest later) left_is
      ∙ ap (λ vs. new ++ vs) (values_past added.key rest later (subst AreRising added.keys_are rising))
      ∙ sym (one_after effect newer added) ∙ so_far

  none_left : (ks : List Key) → values_after effect newer ks [] ≡ []
  none_left [] = refl
  none_left (k ∷ ks) = refl

  pub values_end : (ks : List Key) (olds : List (Option V)) (values wanted : List (Option V)) → olds ≡ [] → values ++ values_after effect newer ks olds ≡ wanted → values ≡ wanted
  values_end ks olds values wanted none so_far = sym (append-nil values) ∙ ap (λ vs. values ++ vs) (sym (none_left ks)) ∙ ap (λ os. values ++ values_after effect newer ks os) (sym none) ∙ so_far

  -- values at keys after the messages, applied to what the keys have below
  pub values_held : {K : Type 0} (key : K → Key) (t : Tree V (Message V D)) (levels : ℕ) (low high : Option Key) → Lies levels low high t → (ks : List K) →
      values_after effect newer (map key ks) (tree_values effect (map key ks) t) ≡ map (λ k. find key_cmp (key k) (rows_after effect newer (holds effect t))) ks
  values_held key t levels low high lies [] = refl
  values_held key t levels low high lies (k ∷ ks) =
      ap (λ v. value_after effect (key k) newer v ∷ values_after effect newer (map key ks) (tree_values effect (map key ks) t)) (tree_value-held effect levels low high t (key k) lies)
      ∙ ap (λ v. v ∷ values_after effect newer (map key ks) (tree_values effect (map key ks) t)) (sym (find-rows effect (key k) newer (holds effect t)))
      ∙ ap (λ vs. find key_cmp (key k) (rows_after effect newer (holds effect t)) ∷ vs) (values_held key t levels low high lies ks)
