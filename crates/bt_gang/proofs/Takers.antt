-- One more taker is one more number in one list.
use Rattle.std.proofs.Common.{◌≡◌, ◌≢◌, ℕ, zero, suc, ◌+◌, ◌<◌, ◌≤◌, List, [], ◌∷◌, ◌++◌, length, length-append, map, set, get_or, drop}
use Rattle.std.proofs.Common.{replicate, Option, None, Some, Bool, true, false, refl, sym, ap, ◌∙◌, subst, arith, nat_eq, if◌then◌else◌}
use Rattle.std.proofs.lemmas.List.{length-set, length-map, length-replicate, get_or-set_same, get_or-set_other, get_or-map, get_or_push}
use Rattle.std.proofs.lemmas.List.{get_or_append_left, map_push, replicate_more, drop-append-le, drop_more, ext_get_or}
use Rattle.std.proofs.lemmas.Bool.Decides.{nat_tests}
use mathlib.Core.Logic.{dite}
use native.Mathlib.Decide.{ℕ_discrete}
use Rattle.bt_gang.specs.Numbers.{below}
use Rattle.bt_gang.specs.Board.{state, start, after_put, after_take, after_hand, IsReached}
use Rattle.bt_gang.specs.Board.Event.{Put, Take, Hand}
use Rattle.bt_gang.specs.inside.Takers.{places, lists_of, kept_state}
use Rattle.bt_gang.proofs.Numbers.{length-below, sum_over-length, sum_over-set_or}
use Rattle.bt_gang.proofs.Accounts.{accounted, weight_held, sum_over-holding}

if_append : (b : Bool) (at : ℕ) (xs ys : List ℕ) → (if b then at ∷ (xs ++ ys) else (xs ++ ys)) ≡ (if b then at ∷ xs else xs) ++ ys
if_append true at xs ys = refl
if_append false at xs ys = refl

places_mine : (w at : ℕ) (ts : List ℕ) → places w at (ts ++ w ∷ []) ≡ places w at ts ++ (at + length ts) ∷ []
places_mine w at [] =
    let e : nat_eq w w ≡ true = grind (arith, nat_tests) in
    let z : at ≡ at + 0 = omega arith in
    ap (λ (b : Bool). if b then at ∷ [] else []) e ∙ ap (λ k. k ∷ []) z
places_mine w at (t ∷ ts) =
    let k : suc at + length ts ≡ at + length (t ∷ ts) = omega arith in
    let r = places_mine w (suc at) ts ∙ ap (λ j. places w (suc at) ts ++ j ∷ []) k in
    ap (λ l. if nat_eq t w then at ∷ l else l) r ∙ if_append (nat_eq t w) at (places w (suc at) ts) ((at + length (t ∷ ts)) ∷ [])

places_other : (w t at : ℕ) (ts : List ℕ) → t ≢ w → places w at (ts ++ t ∷ []) ≡ places w at ts
places_other w t at [] ne =
    let e : nat_eq t w ≡ false = grind (arith, nat_tests, ne) in
    ap (λ (b : Bool). if b then at ∷ [] else []) e
places_other w t at (x ∷ ts) ne = ap (λ l. if nat_eq x w then at ∷ l else l) (places_other w t (suc at) ts ne)

pub below_at : (n i : ℕ) → i < n → get_or (below n) i 0 ≡ i
below_at zero i l = absurd (omega arith)
below_at (suc n) i l = dite (ℕ_discrete i n)
    (λ e. get_or_push (below n) n 0 i (length-below n ∙ sym e) ∙ sym e)
    (λ ne. get_or_append_left (below n) (n ∷ []) 0 i (let k = length-below n in omega arith) ∙ below_at n i (omega arith))

at_list : (f : ℕ → List ℕ) (n i : ℕ) → i < n → get_or (map f (below n)) i [] ≡ f i
at_list f n i l = get_or-map f (below n) i 0 [] (let k = length-below n in omega arith) ∙ ap f (below_at n i l)

length-lists : (f : ℕ → List ℕ) (n : ℕ) → length (map f (below n)) ≡ n
length-lists f n = length-map (below n) f ∙ length-below n

zero_more : (n : ℕ) → 0 + n ≡ n
zero_more n = omega arith

lists_more : (n w : ℕ) (ts : List ℕ) → w < n → lists_of n (ts ++ w ∷ []) ≡ set (lists_of n ts) w (get_or (lists_of n ts) w [] ++ length ts ∷ [])
lists_more n w ts l =
    let f : ℕ → List ℕ = λ u. places u 0 ts in
    let g : ℕ → List ℕ = λ u. places u 0 (ts ++ w ∷ []) in
    let new : List ℕ = get_or (map f (below n)) w [] ++ length ts ∷ [] in
    let a = length-lists f n in
    let b = length-lists g n in
    let c = length-set (map f (below n)) w new in
    ext_get_or [] (map g (below n)) (set (map f (below n)) w new) (omega arith)
    (λ i k.
    at_list g n i (omega arith)
    ∙ dite (ℕ_discrete i w)
    (λ e.
    ap g e
    ∙ (places_mine w 0 ts ∙ ap (λ k. places w 0 ts ++ k ∷ []) (zero_more (length ts))
    ∙ (ap (λ q. q ++ length ts ∷ []) (sym (at_list f n w l))
    ∙ (sym (get_or-set_same (map f (below n)) w new [] (omega arith))
    ∙ ap (λ j. get_or (set (map f (below n)) w new) j []) (sym e)))))
    (λ ne. places_other i w 0 ts (λ e. ne (sym e)) ∙ (sym (at_list f n i (omega arith)) ∙ sym (get_or-set_other (map f (below n)) w i new [] ne))))

lists_none : (n : ℕ) → lists_of n [] ≡ replicate n []
lists_none zero = refl
lists_none (suc n) =
    let f : ℕ → List ℕ = λ u. [] in
    let one : n + 1 ≡ suc n = omega arith in
    map_push f (below n) n ∙ (ap (λ l. l ++ [] ∷ []) (lists_none n) ∙ (replicate_more n [] ∙ ap (λ k. replicate k []) one))

pub kept_new : (n : ℕ) (takers handed : List ℕ) (held : List (Option ℕ)) → takers ≡ [] → handed ≡ [] → held ≡ replicate n None → kept_state 0 takers held handed ≡ start n
kept_new n takers handed held a b c =
    (λ i. kept_state 0 (a i) (c i) (b i))
    ∙ (λ i. state 0 [] (replicate n None) ((ap (λ k. lists_of k []) (length-replicate {A = Option ℕ} n None) ∙ lists_none n) i) [])

pub kept_put : (put more : ℕ) (takers handed : List ℕ) (held : List (Option ℕ)) → length takers ≤ put → more ≡ put + 1
    → kept_state more takers held handed ≡ after_put (kept_state put takers held handed)
kept_put put more takers handed held l e =
    let one : more ≡ suc put = omega arith in
    ap (λ k. kept_state k takers held handed) one
    ∙ (λ i. state (suc put) (drop-append-le (length takers) (below put) (put ∷ []) (let k = length-below put in omega arith) i) held (lists_of (length held) takers) handed)

pub front_waits : (put : ℕ) (takers new : List ℕ) → length takers < put → length new ≡ length takers + 1 → drop (length takers) (below put) ≡ length takers ∷ drop (length new) (below put)
front_waits put takers new l e =
    drop_more (below put) (length takers) 0 (let k = length-below put in omega arith)
    ∙ (λ i. below_at put (length takers) l i ∷ drop (sym e i) (below put))

pub kept_take : (put w : ℕ) (takers new handed : List ℕ) (held held' : List (Option ℕ)) → w < length held → new ≡ takers ++ w ∷ [] → held' ≡ set held w (Some (length takers))
    → kept_state put new held' handed ≡ after_take w (length takers) (drop (length new) (below put)) (kept_state put takers held handed)
kept_take put w takers new handed held held' l e f =
    let workers : length held' ≡ length held = ap length f ∙ length-set held w (Some (length takers)) in
    let lists : lists_of (length held') new ≡ set (lists_of (length held) takers) w (get_or (lists_of (length held) takers) w [] ++ length takers ∷ []) =
    (λ i. lists_of (workers i) (e i)) ∙ lists_more (length held) w takers l in
    λ i. state put (drop (length new) (below put)) (f i) (lists i) handed

pub kept_hand : (put w job : ℕ) (takers handed handed' : List ℕ) (held held' : List (Option ℕ)) → held' ≡ set held w None → handed' ≡ handed ++ job ∷ []
    → kept_state put takers held' handed' ≡ after_hand w job (kept_state put takers held handed)
kept_hand put w job takers handed handed' held held' e f =
    let workers : length held' ≡ length held = ap length e ∙ length-set held w None in
    λ i. state put (drop (length takers) (below put)) (e i) (lists_of (workers i) takers) (f i)

pub new_reached : (n : ℕ) (takers handed : List ℕ) (held : List (Option ℕ)) → takers ≡ [] → handed ≡ [] → held ≡ replicate n None → IsReached (length held) (kept_state 0 takers held handed)
new_reached n takers handed held a b c =
    subst (λ k. IsReached k (kept_state 0 takers held handed)) (sym (ap length c ∙ length-replicate {A = Option ℕ} n None))
    ([], kept_new n takers handed held a b c)

pub put_reached : (n put more : ℕ) (takers handed : List ℕ) (held : List (Option ℕ)) → IsReached n (kept_state put takers held handed) → length takers ≤ put
    → more ≡ put + 1 → IsReached n (kept_state more takers held handed)
put_reached n put more takers handed held r l e = (Put ∷ r.0, (kept_state put takers held handed, r.1, kept_put put more takers handed held l e))

pub take_reached : (put w : ℕ) (takers new handed : List ℕ) (held held' : List (Option ℕ)) → IsReached (length held) (kept_state put takers held handed) → w < length held → get_or held w None ≡ None
    → length takers < put → new ≡ takers ++ w ∷ [] → held' ≡ set held w (Some (length takers)) → IsReached (length held') (kept_state put new held' handed)
take_reached put w takers new handed held held' r l none room e f =
    let workers : length held' ≡ length held = ap length f ∙ length-set held w (Some (length takers)) in
    let longer : length new ≡ length takers + 1 = let a = ap length e in let b = length-append takers (w ∷ []) in omega arith in
    subst (λ n. IsReached n (kept_state put new held' handed)) (sym workers) (
      Take w ∷ r.0,
      (
        kept_state put takers held handed,
        r.1,
        (length takers, drop (length new) (below put), l, none, front_waits put takers new room longer, kept_take put w takers new handed held held' l e f),
      ),
    )

pub hand_reached : (put w job : ℕ) (takers handed handed' : List ℕ) (held held' : List (Option ℕ))
    → IsReached (length held) (kept_state put takers held handed) → w < length held → get_or held w None ≡ Some job
    → held' ≡ set held w None → handed' ≡ handed ++ job ∷ [] → IsReached (length held') (kept_state put takers held' handed')
hand_reached put w job takers handed handed' held held' r l holds e f =
    let workers : length held' ≡ length held = ap length e ∙ length-set held w None in
    subst (λ n. IsReached n (kept_state put takers held' handed')) (sym workers)
    (Hand w ∷ r.0, (kept_state put takers held handed, r.1, (job, l, holds, kept_hand put w job takers handed handed' held held' e f)))

-- if a job is held, fewer jobs were handed in than were put
pub hand_room : (put w job : ℕ) (takers handed : List ℕ) (held : List (Option ℕ)) → IsReached (length held) (kept_state put takers held handed)
    → w < length held → get_or held w None ≡ Some job → length handed < put
hand_room put w job takers handed held r l holds =
    let one : ℕ → ℕ = λ _. 1 in
    let a = (accounted (length held) (kept_state put takers held handed) r).all one in
    let b = sum_over-holding one held in
    let c = sum_over-set_or (weight_held one) held w None None l in
    let d = ap (weight_held one) holds in
    let e = sum_over-length handed in
    let f = sum_over-length (below put) ∙ length-below put in
    omega arith
