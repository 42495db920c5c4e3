-- Shares of a stream moved to bins, one after the other, for the loops of `move_each` and `room_for_each`.
use Rattle.std.proofs.Common.{◌≡◌, ℕ, zero, suc, ◌<◌, ◌≤◌, ◌+◌, ◌-◌, List, [], ◌∷◌, ◌++◌, Vec, Global, append_assoc, length, take}
use Rattle.std.proofs.Common.{drop, get_or, set, vec_len, vec_capacity, Result, Ok, Err, IfOk, refl, sym, ap, subst, ◌∙◌, arith}
use Rattle.std.proofs.lemmas.List.{drop-drop, drop-set-lt, drop_more, take_more_set}
use Rattle.bt_keycode.specs.Keys.{IsSorted}
use Rattle.bt_messages.specs.Bins.{each_with}
use Rattle.bt_messages.specs.Parts.{parted, total}
use Rattle.bt_message.specs.Messages.{Messages, with_messages}
use Rattle.bt_messages.specs.inside.Rooms.{HasRoom, HaveRoom}
use Rattle.bt_messages.proofs.Merging.{AreMoved, step}
use Rattle.bt_messages.proofs.offered.Fronts.{one_taken, sorted_take}
use Rattle.bt_messages.proofs.offered.Placed.{sorted-with_messages}

-- the item at a place inside a list doesn't depend on the default
pub any_default : {X : Type 0} (xs : List X) (i : ℕ) (d e : X) → i < length xs → get_or xs i d ≡ get_or xs i e
any_default [] i d e l = absurd (omega (arith, l))
any_default (x ∷ xs) zero d e l = refl
any_default (x ∷ xs) (suc i) d e l = any_default xs i d e (omega (arith, l))

module _ {M : Type 0} where
  -- ---- the first messages of a stream are merged

  pub front_step : (n : List ℕ × M) (rest ms : Messages M) {os past wanted start done : Messages M} (count i : ℕ) → i < count → ms ≡ n ∷ rest → IsSorted ms →
      wanted ≡ start ++ with_messages (take (count - i) ms) os → AreMoved n os past start done → wanted ≡ done ++ with_messages (take (count - (i + 1)) rest) past
  front_step n rest ms count i l e h w moved = step n (take (count - (i + 1)) rest) (one_taken ms rest n count i l e).0 (sorted_take (count - i) ms h) w moved

  -- ---- room

  room_push : (i : ℕ) (ns : List ℕ) (bs : List (Messages M)) (rs : List (Vec (List ℕ × M) Global)) (n : ℕ) (b : Messages M) (r : Vec (List ℕ × M) Global) →
      length rs ≡ i → i < length ns → i < length bs → HasRoom (get_or ns i n) (get_or bs i b) r → HaveRoom (take i ns) bs rs → HaveRoom (take (suc i) ns) bs (rs ++ r ∷ [])
  room_push i [] bs rs n b r e l k h hs = absurd (omega (arith, l))
  room_push i (m ∷ ns) [] rs n b r e l k h hs = absurd (omega (arith, k))
  room_push zero (m ∷ ns) (c ∷ bs) [] n b r e l k h hs = (h, tt)
  room_push zero (m ∷ ns) (c ∷ bs) (x ∷ rs) n b r e l k h hs = absurd (omega (arith, e))
  room_push (suc i) (m ∷ ns) (c ∷ bs) [] n b r e l k h hs = absurd (omega (arith, e))
  room_push (suc i) (m ∷ ns) (c ∷ bs) (x ∷ rs) n b r e l k h hs = (hs.0, room_push i ns bs rs n b r (omega (arith, e)) (omega (arith, l)) (omega (arith, k)) h hs.1)

  -- a new list has room
  pub new_room : {E : Type 0} (made : Result (Vec (List ℕ × M) Global) E) (n size : ℕ) (ms : Messages M) → size ≡ length ms + n →
      IfOk made (λ room. room.items ≡ []) → IfOk made (λ room. size ≤ vec_capacity room) → IfOk made (λ room. HasRoom n ms room)
  new_room (Ok room) n size ms e i c = (i, λ l. omega (arith, e, c))
  new_room (Err e) n size ms f i c = tt

  -- it holds all
  pub fits_all : (room merged older : Vec (List ℕ × M) Global) (ms : Messages M) (n : ℕ) → merged ≡ room → older.items ≡ ms
      → vec_len merged ≡ length merged.items → vec_len older ≡ length older.items →
      HasRoom n ms room → 0 < n → vec_len merged + vec_len older + n ≤ vec_capacity merged
  fits_all room merged older ms n e f l k h p =
      let none : length merged.items ≡ 0 = ap (λ (v : Vec (List ℕ × M) Global). length v.items) e ∙ ap length h.0 in
      omega (arith, none, l, k, ap length f, h.1 p, ap vec_capacity e)

  pub gained_sorted : (start merged more older : Messages M) → merged ≡ start ++ with_messages more older → start ≡ [] → IsSorted older → IsSorted merged
  gained_sorted start merged more older e f h = subst IsSorted (sym (e ∙ ap (λ zs. zs ++ with_messages more older) f)) (sorted-with_messages more older h)

  -- the share and the bin at a place
  pub record AreAt (ns : List ℕ) (bs : List (Messages M)) (i n : ℕ) (bin : Messages M) : Type 0 where
    pub among_shares : i < length ns
    pub share_is : n ≡ get_or ns i n
    pub among_bins : i < length bs
    pub bin_is : bin ≡ get_or bs i bin

  -- room for one more bin
  pub room_more : {i : ℕ} {ns : List ℕ} {bs : List (Messages M)} (rs : List (Vec (List ℕ × M) Global)) {more : List (Vec (List ℕ × M) Global)} {n : ℕ} {b : Messages M} (r : Vec (List ℕ × M) Global) →
      length rs ≡ i → AreAt ns bs i n b → HasRoom n b r → more ≡ rs ++ r ∷ [] → HaveRoom (take i ns) bs rs → HaveRoom (take (i + 1) ns) bs more
  room_more {i} {ns} {bs} rs {more} {n} {b} r e here h m hs =
      let one : suc i ≡ i + 1 = omega arith in
      let room = subst (λ x. HasRoom x (get_or bs i b) r) here.share_is (subst (λ c. HasRoom n c r) here.bin_is h) in
      subst (λ j. HaveRoom (take j ns) bs more) one
      (subst (HaveRoom (take (suc i) ns) bs) (sym m) (room_push i ns bs rs n b r e here.among_shares here.among_bins room hs))

  -- ---- moves

  module _ {ns : List ℕ} {bs : List (Messages M)} {i n : ℕ} {old : Messages M} (here : AreAt ns bs i n old) where
    shares_next : drop i ns ≡ n ∷ drop (i + 1) ns
    shares_next = drop_more ns i n here.among_shares ∙ ap (λ y. y ∷ drop (i + 1) ns) (sym here.share_is)

    bins_next : drop i bs ≡ old ∷ drop (i + 1) bs
    bins_next = drop_more bs i old here.among_bins ∙ ap (λ y. y ∷ drop (i + 1) bs) (sym here.bin_is)

    pub moved_next : (new s s' : Messages M) {wanted : List (Messages M)} → new ≡ with_messages (take n s) old → s' ≡ drop n s → take i bs ++ each_with (parted (drop i ns) s) (drop i bs) ≡ wanted →
        take (i + 1) (set bs i new) ++ each_with (parted (drop (i + 1) ns) s') (drop (i + 1) (set bs i new)) ≡ wanted
    moved_next new s s' moved left w =
        let rest = drop (i + 1) bs in
        let later : List (Messages M) = each_with (parted (drop (i + 1) ns) s') rest in
        ap (λ zs. take (i + 1) (set bs i new) ++ each_with (parted (drop (i + 1) ns) s') zs) (drop-set-lt (i + 1) bs i new (omega arith))
        ∙ ap (λ zs. zs ++ later) (take_more_set bs i new here.among_bins)
        ∙ append_assoc (take i bs) (new ∷ []) later
        ∙ ap (λ z. take i bs ++ z ∷ later) moved
        ∙ ap (λ zs. take i bs ++ with_messages (take n s) old ∷ each_with (parted (drop (i + 1) ns) zs) rest) left
        ∙ sym (ap (λ zs. take i bs ++ each_with (parted zs s) (drop i bs)) shares_next
        ∙ ap (λ zs. take i bs ++ each_with (parted (n ∷ drop (i + 1) ns) s) zs) bins_next)
        ∙ w

    pub left_next : (s s' : Messages M) {wanted : Messages M} → s' ≡ drop n s → drop (total (drop i ns)) s ≡ wanted → drop (total (drop (i + 1) ns)) s' ≡ wanted
    left_next s s' left w =
        ap (drop (total (drop (i + 1) ns))) left ∙ drop-drop (total (drop (i + 1) ns)) n s ∙ sym (ap (λ ks. drop (total ks) s) shares_next) ∙ w

    module _ (rs : List (Vec (List ℕ × M) Global)) {r : Vec (List ℕ × M) Global} (within : i < length rs) (is : r ≡ get_or rs i r) where
      rooms_next : drop i rs ≡ r ∷ drop (i + 1) rs
      rooms_next = drop_more rs i r within ∙ ap (λ y. y ∷ drop (i + 1) rs) (sym is)

      both : HaveRoom (drop i ns) (drop i bs) (drop i rs) → HasRoom n old r × HaveRoom (drop (i + 1) ns) (drop (i + 1) bs) (drop (i + 1) rs)
      both h =
          subst (λ xs. HaveRoom (n ∷ drop (i + 1) ns) (old ∷ drop (i + 1) bs) xs) rooms_next
          (subst (λ xs. HaveRoom (n ∷ drop (i + 1) ns) xs (drop i rs)) bins_next (subst (λ xs. HaveRoom xs (drop i bs) (drop i rs)) shares_next h))

      -- the room of the next bin
      pub room_here : HaveRoom (drop i ns) (drop i bs) (drop i rs) → HasRoom n old r
      room_here h = (both h).0

      pub room_later : (new : Messages M) (r' : Vec (List ℕ × M) Global) → HaveRoom (drop i ns) (drop i bs) (drop i rs)
          → HaveRoom (drop (i + 1) ns) (drop (i + 1) (set bs i new)) (drop (i + 1) (set rs i r'))
      room_later new r' h =
          subst (HaveRoom (drop (i + 1) ns) (drop (i + 1) (set bs i new))) (sym (drop-set-lt (i + 1) rs i r' (omega arith)))
          (subst (λ xs. HaveRoom (drop (i + 1) ns) xs (drop (i + 1) rs)) (sym (drop-set-lt (i + 1) bs i new (omega arith))) (both h).1)
