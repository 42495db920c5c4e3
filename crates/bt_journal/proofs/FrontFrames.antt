-- The frame that bytes begin with.
use Rattle.std.proofs.Common.{◌≡◌, ℕ, ◌+◌, ◌-◌, ◌^◌, ◌<◌, ◌≤◌, List, [], ◌∷◌, ◌++◌, length, take}
use Rattle.std.proofs.Common.{drop, Some, None, refl, sym, ◌∙◌, ap, arith, append_assoc, length-append, length-take, length-drop, eq-eqb}
use Rattle.std.specs.Int.{w64, to_le_bytes, from_le_bytes}
use Rattle.std.specs.Prelude.{◌&&◌, ◌==◌, nat_le}
use Rattle.std.proofs.lemmas.Bool.{cond-true, and_from, and_parts, le-leb, leb-true, eqb-true}
use Rattle.std.proofs.lemmas.Option.{cond_some}
use Rattle.std.proofs.lemmas.List.{take_at, drop_at, take_all, take-append-le, drop-append-le}
use Rattle.std.proofs.lemmas.Nat.{from_le_bytes-to_le_bytes_8}
use Rattle.bt_journal.specs.Frames.{mixed, sum_from, check_of, frame_of, frame_size, number_at, body_at, payload_at}

-- the bytes begin with the frame of a payload
pub record IsFront (seed : ℕ) (payload bytes : List ℕ) : Type 0 where
  pub long : frame_size payload ≤ length bytes
  pub size : number_at bytes ≡ frame_size payload
  pub body : take (length payload) (drop 16 bytes) ≡ payload
  pub check : check_of seed payload ≡ number_at (drop 8 bytes)

pub payload_at-front : (seed : ℕ) (payload bytes : List ℕ) → IsFront seed payload bytes → payload_at seed bytes ≡ Some payload
unfolding payload_at
payload_at-front seed payload bytes f =
    let size : number_at bytes - 16 ≡ length payload = omega (arith, f.size) in
    let body : body_at bytes ≡ payload = ap (λ (n : ℕ). take n (drop 16 bytes)) size ∙ f.body in
    let passes : check_of seed (body_at bytes) ≡ number_at (drop 8 bytes) = ap (check_of seed) body ∙ f.check in
    let whole = and_from _ _ (le-leb (number_at bytes) (length bytes) (omega (arith, f.size, f.long))) (eq-eqb _ _ passes) in
    cond-true _ (Some (body_at bytes)) None (and_from _ _ (le-leb 16 (length bytes) (omega (arith, f.long))) (and_from _ _ (le-leb 16 (number_at bytes) (omega (arith, f.size))) whole))
    ∙ ap (λ (l : List ℕ). Some l) body

pub front-payload_at : (seed : ℕ) (payload bytes : List ℕ) → payload_at seed bytes ≡ Some payload → IsFront seed payload bytes
unfolding payload_at
front-payload_at seed payload bytes e =
    let passes = check_of seed (body_at bytes) == number_at (drop 8 bytes) in
    let within = nat_le (number_at bytes) (length bytes) in
    let has_size = nat_le 16 (number_at bytes) in
    let found = cond_some (nat_le 16 (length bytes) && (has_size && (within && passes))) (body_at bytes) payload e in
    let first = and_parts (nat_le 16 (length bytes)) (has_size && (within && passes)) found.0 in
    let second = and_parts has_size (within && passes) first.1 in
    let third = and_parts within passes second.1 in
    let least : 16 ≤ number_at bytes = leb-true 16 (number_at bytes) second.0 in
    let fits : number_at bytes ≤ length bytes = leb-true (number_at bytes) (length bytes) third.0 in
    let size : length payload ≡ number_at bytes - 16 =
    sym (ap (λ (l : List ℕ). length l) found.1) ∙ length-take (number_at bytes - 16) (drop 16 bytes) ∙ omega (arith, least, fits, length-drop 16 bytes) in
    record {
      long = omega (arith, size, fits, least);
      size = omega (arith, size, least);
      body = ap (λ (n : ℕ). take n (drop 16 bytes)) size ∙ found.1;
      check = sym (ap (check_of seed) found.1) ∙ eqb-true (check_of seed (body_at bytes)) (number_at (drop 8 bytes)) third.1;
    }

number_at-append : (xs ys : List ℕ) → 8 ≤ length xs → number_at (xs ++ ys) ≡ number_at xs
unfolding number_at
number_at-append xs ys le = ap (λ (l : List ℕ). from_le_bytes w64 l) (take-append-le 8 xs ys le)

pub number_at-to_le : (n : ℕ) (rest : List ℕ) → n < 2 ^ 64 → number_at (to_le_bytes w64 n ++ rest) ≡ n
unfolding number_at
number_at-to_le n rest lt = ap (λ (l : List ℕ). from_le_bytes w64 l) (take_at (to_le_bytes w64 n) rest 8 refl) ∙ from_le_bytes-to_le_bytes_8 n lt

module _ (xs ys : List ℕ) (n : ℕ) (long : 16 + n ≤ length xs) where
  same_size : number_at (xs ++ ys) ≡ number_at xs
  same_size = number_at-append xs ys (omega (arith, long))

  same_body : take n (drop 16 (xs ++ ys)) ≡ take n (drop 16 xs)
  same_body = ap (λ (l : List ℕ). take n l) (drop-append-le 16 xs ys (omega (arith, long))) ∙ take-append-le n (drop 16 xs) ys (omega (arith, long, length-drop 16 xs))

  same_check : number_at (drop 8 (xs ++ ys)) ≡ number_at (drop 8 xs)
  same_check = ap number_at (drop-append-le 8 xs ys (omega (arith, long))) ∙ number_at-append (drop 8 xs) ys (omega (arith, long, length-drop 8 xs))

-- what follows a frame is not read
pub front-append : (seed : ℕ) (payload xs ys : List ℕ) → IsFront seed payload xs → IsFront seed payload (xs ++ ys)
front-append seed payload xs ys f = record {
  long = omega (arith, f.long, length-append xs ys);
  size = same_size xs ys (length payload) f.long ∙ f.size;
  body = same_body xs ys (length payload) f.long ∙ f.body;
  check = f.check ∙ sym (same_check xs ys (length payload) f.long);
}

pub front-shrink : (seed : ℕ) (payload xs ys : List ℕ) → frame_size payload ≤ length xs → IsFront seed payload (xs ++ ys) → IsFront seed payload xs
front-shrink seed payload xs ys long f = record {
  long = long;
  size = sym (same_size xs ys (length payload) long) ∙ f.size;
  body = sym (same_body xs ys (length payload) long) ∙ f.body;
  check = f.check ∙ same_check xs ys (length payload) long;
}

pub mixed_lt : (sum byte : ℕ) → mixed sum byte < 2 ^ 64
unfolding mixed
mixed_lt sum byte = omega arith

pub sum_lt : (seed : ℕ) (bytes : List ℕ) → seed < 2 ^ 64 → sum_from seed bytes < 2 ^ 64
unfolding sum_from
sum_lt seed [] lt = lt
sum_lt seed (b ∷ bytes) lt = sum_lt (mixed seed b) bytes (mixed_lt seed b)

pub check_lt : (seed : ℕ) (payload : List ℕ) → seed < 2 ^ 64 → check_of seed payload < 2 ^ 64
unfolding check_of
check_lt seed payload lt = sum_lt _ payload (sum_lt seed (to_le_bytes w64 (frame_size payload)) lt)

pub length-frame_of : (seed : ℕ) (payload : List ℕ) → length (frame_of seed payload) ≡ frame_size payload
unfolding frame_of
length-frame_of seed payload = length-append (to_le_bytes w64 (frame_size payload) ++ to_le_bytes w64 (check_of seed payload)) payload

pub front-frame_of : (seed : ℕ) (payload : List ℕ) → seed < 2 ^ 64 → frame_size payload < 2 ^ 64 → IsFront seed payload (frame_of seed payload)
unfolding frame_of
front-frame_of seed payload seed_lt lt =
    let size = to_le_bytes w64 (frame_size payload) in
    let sum = to_le_bytes w64 (check_of seed payload) in
    record {
      long = omega (arith, length-append (size ++ sum) payload);
      size = ap number_at (append_assoc size sum payload) ∙ number_at-to_le (frame_size payload) (sum ++ payload) lt;
      body = ap (λ (l : List ℕ). take (length payload) l) (drop_at (size ++ sum) payload 16 refl) ∙ take_all (length payload) payload (omega arith);
      check = sym (ap (λ (l : List ℕ). number_at (drop 8 l)) (append_assoc size sum payload) ∙ ap number_at (drop_at size (sum ++ payload) 8 refl)
          ∙ number_at-to_le (check_of seed payload) payload (check_lt seed payload seed_lt));
    }
