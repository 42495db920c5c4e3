-- Keys that are looked up together have the same values as when looked up alone.
use Rattle.std.proofs.Common.{◌≡◌, ◌+◌, ◌-◌, ◌<◌, ◌≤◌, ◌++◌, ◌∙◌, ℕ, suc, true, false, cond, List, [], ◌∷◌, append-nil, append_assoc, ap, arith, drop, get_or, length, map, refl, subst, sym, take}
use Rattle.std.proofs.lemmas.List.{drop-drop, length-drop, length-map, map-append, take-append-drop, take-map, take_rest}
use Rattle.std.specs.FinMap.{find}
use Rattle.std.specs.Option.{option_or}
use Rattle.std.specs.Prelude.{slice_get}
use Rattle.std.specs.declared.option.Option.{Option}
use Rattle.std.specs.declared.option.Option.TheVariants.{None, Some}
use Rattle.bt_keycode.specs.Keys.{Key, is_between, key_cmp}
use Rattle.bt_value.specs.Lists.{concatenation}
use Rattle.bt_messages.specs.Bins.{LieBetween}
use Rattle.bt_message.specs.declared.message.Message.{Message}
use Rattle.bt_form.specs.Fits.{Lies}
use Rattle.bt_form.specs.Flushes.{holds}
use Rattle.bt_read.specs.inside.Lookups.{pivots_up_to, tree_value}
use Rattle.bt_form.specs.Messages.{Messages, Rows, value_after}
use Rattle.bt_form.specs.Trees.{Tree, leaf}
use Rattle.bt_read.specs.inside.Bounds.{where_before}
use Rattle.bt_read.specs.inside.Together.{AllBelong, count_between, values_after, tree_values}
use Rattle.bt_read.proofs.lemmas.code.ChildBounds.{belongs}
use Rattle.bt_read.proofs.lemmas.code.LookupPath.{IsChildAt, along}
use Rattle.bt_read.proofs.lemmas.lookups.BinOfKey.{value-bin}
use Rattle.bt_read.proofs.lemmas.lookups.HeldValues.{tree_value-held}

-- ---- keys between bounds

module _ (low high : Option Key) where
  abbrev AreBetween : List Key → Type 0
  AreBetween [] = Unit {0}
  AreBetween (k ∷ ks) = (is_between low high k ≡ true) × AreBetween ks

  first_between : (ks : List Key) → AreBetween (take (count_between low high ks) ks)
  first_between [] = tt
  first_between (k ∷ ks) = elim (is_between low high k) as (λ b. is_between low high k ≡ b → AreBetween (take (cond b (suc (count_between low high ks)) 0) (k ∷ ks))) [
    | true ↦ λ b. (b, first_between ks)
    | false ↦ λ b. tt
  ] refl

-- ---- keys of one child

unlimited : (o : Option Key) → o ≡ where_before None o
unlimited None = refl
unlimited (Some k) = refl

or_nothing : (o : Option Key) → o ≡ option_or o None
or_nothing None = refl
or_nothing (Some k) = refl

-- keys from one that belongs to a child up to the next pivot belong to it
belong : (first : Key) (ps : List Key) (place : ℕ) (next : Option Key) → place ≡ pivots_up_to first ps → next ≡ slice_get ps place → (ks : List Key)
    → AreBetween (Some first) next ks → AllBelong ps place ks
belong first ps place next here is [] h = tt
belong first ps place next here is (k ∷ ks) h =
    (belongs (Some first) None next next ps place k here (is ∙ unlimited (slice_get ps place)) (or_nothing next) h.0, belong first ps place next here is ks h.1)

-- the first key with those after it that belong to its child
pub run_belongs : {K : Type 0} (key : K → Key) (first : K) (keys : List K) (ps : List Key) (place count : ℕ) {next : Option Key} → 0 < length keys → first ≡ get_or keys 0 first
    → place ≡ pivots_up_to (key first) ps → next ≡ slice_get ps place → count ≡ count_between (Some (key first)) next (map key (drop 1 keys))
    → AllBelong ps place (map key (take (count + 1) keys))
run_belongs key first [] ps place count some is here next_is count_is = absurd (omega (arith, some))
run_belongs key first (k ∷ ks) ps place count {next} some is here next_is count_is =
    let more : count + 1 ≡ suc count = omega arith in
    let between = subst (λ n. AreBetween (Some (key first)) next (take n (map key ks))) (sym count_is) (first_between (Some (key first)) next (map key ks)) in
    let own_keys : map key (take (count + 1) (k ∷ ks)) ≡ key first ∷ take count (map key ks) =
    ap (λ n. map key (take n (k ∷ ks))) more ∙ ap (λ j. key j ∷ map key (take count ks)) (sym is) ∙ ap (λ zs. key first ∷ zs) (sym (take-map key count ks)) in
    subst (AllBelong ps place) (sym own_keys) (here, belong (key first) ps place next here next_is (take count (map key ks)) between)

module _ {V D : Type 0} (effect : Option V → Message V D → Option V) (bins : List (Messages (Message V D))) {node child : Tree V (Message V D)} {ps : List Key} {place : ℕ}
    (there : IsChildAt node child (concatenation bins) ps place) (lie : LieBetween ps bins) where
  -- the values there after the bin of a child
  values_above : (ks : List Key) → AllBelong ps place ks → values_after effect (get_or bins place []) ks (tree_values effect ks child) ≡ tree_values effect ks node
  values_above [] h = refl
  values_above (k ∷ ks) h =
      ap (λ v. v ∷ values_after effect (get_or bins place []) ks (tree_values effect ks child))
      (ap (λ i. value_after effect k (get_or bins i []) (tree_value effect k child)) h.0
      ∙ value-bin effect k ps bins (tree_value effect k child) lie
      ∙ along effect k there h.0 refl)
      ∙ ap (λ vs. tree_value effect k node ∷ vs) (values_above ks h.1)

  -- the values of the first keys, which go down together, and those of the others
  pub next_run : {K : Type 0} (key : K → Key) (rest own later : List K) (values new below : List (Option V)) (wanted : List (Option V)) →
      AllBelong ps place (map key own) → own ++ later ≡ rest → below ≡ tree_values effect (map key own) child →
      new ≡ values ++ values_after effect (get_or bins place []) (map key own) below →
      values ++ tree_values effect (map key rest) node ≡ wanted → new ++ tree_values effect (map key later) node ≡ wanted
  next_run key rest own later values new below wanted all parts below_is new_is so_far =
      let here_are : new ≡ values ++ tree_values effect (map key own) node =
      new_is ∙ ap (λ b. values ++ values_after effect (get_or bins place []) (map key own) b) below_is ∙ ap (λ vs. values ++ vs) (values_above (map key own) all) in
      ap (λ vs. vs ++ tree_values effect (map key later) node) here_are
      ∙ append_assoc values (tree_values effect (map key own) node) (tree_values effect (map key later) node)
      ∙ ap (λ vs. values ++ vs) (sym (map-append (λ k. tree_value effect k node) (map key own) (map key later))
      ∙ ap (λ ks. tree_values effect ks node) (sym (map-append key own later) ∙ ap (map key) parts))
      ∙ so_far

-- the first of the keys that are left gets its value, which is the one below after the messages
pub record IsAdded {V D : Type 0} (effect : Option V → Message V D → Option V) (ms : Messages (Message V D)) (keys rest : List Key) (olds later values new : List (Option V)) : Type 0 where
  pub key : Key
  pub old : Option V
  pub now : Option V
  pub keys_are : keys ≡ key ∷ rest
  pub olds_are : olds ≡ old ∷ later
  pub now_is : now ≡ value_after effect key ms old
  pub new_are : new ≡ values ++ now ∷ []

-- one more value, and one key fewer
pub one_after : {V D : Type 0} (effect : Option V → Message V D → Option V) (ms : Messages (Message V D)) {keys rest : List Key} {olds later values new : List (Option V)} →
    IsAdded effect ms keys rest olds later values new → values ++ values_after effect ms keys olds ≡ new ++ values_after effect ms rest later
one_after effect ms {rest = rest} {olds = olds} {later = later} {values = values} added =
    let others = values_after effect ms rest later in
    ap (λ ks. values ++ values_after effect ms ks olds) added.keys_are ∙ ap (λ os. values ++ values_after effect ms (added.key ∷ rest) os) added.olds_are
    ∙ ap (λ v. values ++ v ∷ others) (sym added.now_is) ∙ sym (append_assoc values (added.now ∷ []) others) ∙ ap (λ vs. vs ++ others) (sym added.new_are)

-- without messages the values stay
unchanged : {V D : Type 0} (effect : Option V → Message V D → Option V) (ks : List Key) (olds : List (Option V)) → length olds ≡ length ks → values_after effect [] ks olds ≡ olds
unchanged effect [] [] same = refl
unchanged effect [] (old ∷ olds) same = absurd (omega (arith, same))
unchanged effect (k ∷ ks) [] same = absurd (omega (arith, same))
unchanged effect (k ∷ ks) (old ∷ olds) same = ap (λ vs. old ∷ vs) (unchanged effect ks olds (omega (arith, same)))

pub none_pending : {V D K H : Type 0} (effect : Option V → Message V D → Option V) (key : K → Key) (value : H → Option V) (bin : Messages (Message V D)) (ks : List K) (values new below : List H) →
    bin ≡ [] → length below ≡ length ks → new ≡ values ++ below → map value new ≡ map value values ++ values_after effect bin (map key ks) (map value below)
none_pending effect key value bin ks values new below none same is =
    ap (map value) is ∙ map-append value values below
    ∙ ap (λ vs. map value values ++ vs) (sym (ap (λ b. values_after effect b (map key ks) (map value below)) none
    ∙ unchanged effect (map key ks) (map value below) (length-map below value ∙ same ∙ sym (length-map ks key))))

-- there are as many values as keys
pub as_many : {V D K H : Type 0} (effect : Option V → Message V D → Option V) (key : K → Key) (value : H
    → Option V) (ks : List K) (below : List H) (t : Tree V (Message V D)) → map value below ≡ tree_values effect (map key ks) t →
    length below ≡ length ks
as_many effect key value ks below t is =
    sym (length-map below value) ∙ ap length is ∙ length-map (map key ks) (λ k. tree_value effect k t) ∙ length-map ks key

-- no value is left
pub none_after : {V D : Type 0} (effect : Option V → Message V D → Option V) (bin : Messages (Message V D)) (ks : List Key) (values wanted : List (Option V))
    → wanted ≡ values ++ values_after effect bin ks [] → values ≡ wanted
none_after effect bin [] values wanted e = sym (e ∙ append-nil values)
none_after effect bin (k ∷ ks) values wanted e = sym (e ∙ append-nil values)

-- the first of items, and the others
pub first_of : {X : Type 0} (xs : List X) (x : X) → 1 ≤ length xs → x ≡ get_or xs 0 x → xs ≡ x ∷ take (length xs - 1) (drop 1 xs)
first_of [] x some is = absurd (omega (arith, some))
first_of (y ∷ ys) x some is = ap (λ z. z ∷ ys) (sym is) ∙ ap (λ zs. x ∷ zs) (sym (take_rest (y ∷ ys) 1))

-- items from a place on, of which the first are taken
pub from_there : {X : Type 0} (xs own : List X) (done : ℕ) → own ≡ take (length own) (drop done xs) → own ++ drop (done + length own) xs ≡ drop done xs
from_there xs own done is = ap (λ zs. zs ++ drop (done + length own) xs) is
    ∙ ap (λ zs. take (length own) (drop done xs) ++ zs) (sym (drop-drop (length own) done xs)) ∙ take-append-drop (length own) (drop done xs)

-- the values of a leaf at keys
pub leaf_values : {V D K : Type 0} (effect : Option V → Message V D → Option V) (key : K → Key) (ks : List K) (rows : Rows V) (t : Tree V (Message V D)) → t ≡ leaf rows →
    map (λ k. find key_cmp (key k) rows) ks ≡ tree_values effect (map key ks) t
leaf_values effect key [] rows t is = refl
leaf_values effect key (k ∷ ks) rows t is =
    ap (λ v. v ∷ map (λ j. find key_cmp (key j) rows) ks) (sym (ap (tree_value effect (key k)) is)) ∙ ap (λ vs. tree_value effect (key k) t ∷ vs) (leaf_values effect key ks rows t is)

-- the values along the paths are those in the map that the tree represents
pub all_held : {V D K : Type 0} (effect : Option V → Message V D → Option V) (key : K → Key) (levels : ℕ) (low high : Option Key) (t : Tree V (Message V D)) (ks : List K) → Lies levels low high t →
    tree_values effect (map key ks) t ≡ map (λ k. find key_cmp (key k) (holds effect t)) ks
all_held effect key levels low high t [] lies = refl
all_held effect key levels low high t (k ∷ ks) lies =
    ap (λ v. v ∷ tree_values effect (map key ks) t) (tree_value-held effect levels low high t (key k) lies)
    ∙ ap (λ vs. find key_cmp (key k) (holds effect t) ∷ vs) (all_held effect key levels low high t ks lies)

pub run_within : {X : Type 0} (xs left own : List X) (done : ℕ) → done ≤ length xs → left ≡ drop done xs → length own ≤ length left → done + length own ≤ length xs
run_within xs left own done within is few = omega (arith, within, few, ap length is, length-drop done xs)
