-- What is known of requests.
use Rattle.std.proofs.Common.{◌≡◌, ◌∙◌, ◌<◌, ◌≤◌, ◌++◌, ℕ, ◌-◌, Bool, true, false, List, [], ◌∷◌, None, Option, Some, ap, arith, drop, get_or, length, nat_eq, refl, take}
use Rattle.std.proofs.lemmas.Bool.{eq-eqb, le-leb}
use Rattle.std.specs.Int.{from_le_bytes, w64, w128}
use Rattle.std.proofs.lemmas.List.{take_all}
use Rattle.std.specs.Map.{lookup, lookup_entry, remove_entry}
use Rattle.std.specs.Option.{option_map_or}
use Rattle.lru.specs.LruCache.{LruCache, demoted, lru_cache, put_entries}
use Rattle.bt_durable.specs.Once.{Known, OnceState, known_in, most_known}

module _ {V : Type 0} where
  no_entry : (test : ℕ → Bool) (known : List (ℕ × V)) → lookup test known ≡ None → lookup_entry test known ≡ None
  no_entry test [] none = refl
  no_entry test (first ∷ more) none = (elim (test first.0) as (λ (is : Bool). test first.0 ≡ is → lookup_entry test (first ∷ more) ≡ None) [
    | true ↦ λ is. let none' = rw is at none in cc
    | false ↦ λ is. rw is (no_entry test more (rw is at none))
  ]) refl

  -- an id that is not known goes first
  put_new : (cache : LruCache ℕ V) (id : ℕ) (value : V) → lookup (nat_eq id) cache.entries ≡ None
      → put_entries nat_eq cache id value ≡ (id, value) ∷ take (cache.cap - 1) cache.entries
  put_new cache id value none =
      ap (λ found. option_map_or (λ e. (e.0, value) ∷ remove_entry (nat_eq id) cache.entries) found ((id, value) ∷ take (cache.cap - 1) cache.entries))
      (no_entry (nat_eq id) cache.entries none)

-- a cache of what is known takes one more request
pub put_known : (cache : LruCache ℕ Known) (known : List (ℕ × Known)) (id : ℕ) (value : Known) → cache.entries ≡ known → cache.cap ≡ most_known → lookup (nat_eq id) known ≡ None
    → put_entries nat_eq cache id value ≡ (id, value) ∷ take (most_known - 1) known
put_known cache known id value same most none =
    put_new cache id value (ap (λ (l : List (ℕ × Known)). lookup (nat_eq id) l) same ∙ none)
    ∙ ap (λ (l : List (ℕ × Known)). (id, value) ∷ take (cache.cap - 1) l) same ∙ ap (λ (n : ℕ). (id, value) ∷ take (n - 1) known) most

module _ {V : Type 0} (id : ℕ) (value : V) (known : List (ℕ × V)) where
  -- the entry that went first goes last
  first_goes_last : demoted (nat_eq id) ((id, value) ∷ known) ≡ known ++ (id, value) ∷ []
  first_goes_last = rw (eq-eqb id id refl) refl

-- a cache of what is known takes the oldest request
pub put_oldest : (cache : LruCache ℕ Known) (put : LruCache ℕ Known) (known : List (ℕ × Known)) (id : ℕ) (value : Known) → cache.entries ≡ known → cache.cap ≡ most_known
    → lookup (nat_eq id) known ≡ None → length known < most_known → put ≡ lru_cache (put_entries nat_eq cache id value) cache.cap
    → demoted (nat_eq id) put.entries ≡ known ++ (id, value) ∷ []
put_oldest cache put known id value same most none room is =
    ap (λ (c : LruCache ℕ Known). demoted (nat_eq id) c.entries) is ∙ ap (demoted (nat_eq id)) (put_known cache known id value same most none)
    ∙ ap (λ (l : List (ℕ × Known)). demoted (nat_eq id) ((id, value) ∷ l)) (take_all (most_known - 1) known (omega (arith, room))) ∙ first_goes_last id value known

-- what is stored of a reply
pub stored : (sum : ℕ) (reply made : ℕ × List ℕ) (copied : List ℕ) → reply ≡ made → copied ≡ reply.1 → ◌≡◌ {A = Known} (sum, reply.0, copied) (sum, made.0, made.1)
stored sum reply made copied is same = ap (λ (text : List ℕ). (sum, reply.0, text)) same ∙ ap (λ (r : ℕ × List ℕ). (sum, r.0, r.1)) is

-- the state after a request that ran
pub state_is : {S : Type 0} (service left : S) (known : List (ℕ × Known)) (id : ℕ) (value is : Known) (more : List (ℕ × Known)) → service ≡ left → known ≡ (id, value) ∷ more → value ≡ is
    → ◌≡◌ {A = OnceState S} (service, known) (left, (id, is) ∷ more)
state_is service left known id value is more same grown kept =
    ap (λ s. (s, known)) same ∙ ap (λ (l : List (ℕ × Known)). (left, l)) grown ∙ ap (λ (v : Known). (left, (id, v) ∷ more)) kept

-- what a payload encodes, by its parts
pub known_is : (payload : List ℕ) (id sum kind : ℕ) (reply : List ℕ) → 25 ≤ length payload → id ≡ from_le_bytes w128 payload → sum ≡ from_le_bytes w64 (drop 16 payload)
    → kind ≡ get_or payload 24 0 → reply ≡ drop 25 payload → ◌≡◌ {A = Option (ℕ × Known)} (Some (id, (sum, kind, reply))) (known_in payload)
known_is payload id sum kind reply long id_is sum_is kind_is reply_is = rw (le-leb 25 (length payload) long) cc
