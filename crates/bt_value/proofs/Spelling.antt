-- The bytes that digits encode, two by two. Serves reading a field of bytes.
use Rattle.std.proofs.Common.{◌≡◌, ℕ, ◌+◌, ◌-◌, ◌<◌, ◌≤◌, Bool, true, List, [], ◌∷◌, ◌++◌, append_assoc, append-nil, arith, drop, get_or, length}
use Rattle.std.proofs.Common.{length-append, length-drop, length-take, set, take, Option, Some, None, refl, sym, ap, ◌∙◌, if◌then◌else◌}
use Rattle.std.proofs.lemmas.Bool.{le-leb, lt-leb}
use Rattle.std.proofs.lemmas.List.{take_all, take_more_set}
use Rattle.std.specs.Prelude.{option_and_then, option_map}
use Rattle.bt_value.specs.Hex.{byte_of, bytes_of_hex}
use Rattle.bt_value.specs.Kinds.{binary_of}
use Rattle.bt_value.specs.Texts.{is_binary}

-- bytes followed by others, if there are others
abbrev pub after : List ℕ → Option (List ℕ) → Option (List ℕ)
after prefix rest = option_map (λ bs. prefix ++ bs) rest

after_more : (prefix : List ℕ) (b : ℕ) (rest : Option (List ℕ)) → after prefix (option_map (λ bs. b ∷ bs) rest) ≡ after (prefix ++ b ∷ []) rest
after_more prefix b None = refl
after_more prefix b (Some bs) = ap Some (sym (append_assoc prefix (b ∷ []) bs))

-- the next two digits, which encode a byte or none
next : (rest : List ℕ) (o : Option ℕ) → 2 ≤ length rest → o ≡ byte_of (get_or rest 0 0) (get_or rest 1 0)
    → bytes_of_hex rest ≡ option_and_then (λ b. option_map (λ bs. b ∷ bs) (bytes_of_hex (drop 2 rest))) o
unfolding bytes_of_hex
next [] o some is = absurd (omega (arith, some))
next (x ∷ []) o some is = absurd (omega (arith, some))
next (high ∷ low ∷ others) o some is = ap (option_and_then (λ b. option_map (λ bs. b ∷ bs) (bytes_of_hex others))) (sym is)

pub one_more : (digits room rest : List ℕ) (len b : ℕ) → 2 ≤ length rest → Some b ≡ byte_of (get_or rest 0 0) (get_or rest 1 0) → len < length room →
    bytes_of_hex digits ≡ after (take len room) (bytes_of_hex rest) → bytes_of_hex digits ≡ after (take (len + 1) (set room len b)) (bytes_of_hex (take (length rest - 2) (drop 2 rest)))
one_more digits room rest len b some is within so_far =
    let others : take (length rest - 2) (drop 2 rest) ≡ drop 2 rest = take_all (length rest - 2) (drop 2 rest) (omega (arith, length-drop 2 rest)) in
    so_far ∙ ap (after (take len room)) (next rest (Some b) some is) ∙ after_more (take len room) b (bytes_of_hex (drop 2 rest))
    ∙ ap (λ prefix. after prefix (bytes_of_hex (drop 2 rest))) (sym (take_more_set room len b within)) ∙ ap (λ z. after (take (len + 1) (set room len b)) (bytes_of_hex z)) (sym others)

-- what is encoded, if it is not too long
kept : Option (List ℕ) → Option (List ℕ)
kept o = option_and_then (λ bytes. if is_binary bytes then Some bytes else None) o

-- two bytes, one of which is not a digit
pub no_byte : (digits prefix rest : List ℕ) → 2 ≤ length rest → None ≡ byte_of (get_or rest 0 0) (get_or rest 1 0) → bytes_of_hex digits ≡ after prefix (bytes_of_hex rest) → binary_of digits ≡ None
unfolding kept
no_byte digits prefix rest some is so_far = ap kept (so_far ∙ ap (after prefix) (next rest None some is))

-- more bytes than a value may have
long_kept : (prefix : List ℕ) (o : Option (List ℕ)) → 255 < length prefix → kept (after prefix o) ≡ None
unfolding kept
long_kept prefix None long = refl
long_kept prefix (Some bs) long =
    ap (λ (b : Bool). if b then Some (prefix ++ bs) else None) (lt-leb (length (prefix ++ bs)) 255 (omega (arith, long, length-append prefix bs)))

pub too_many : (digits prefix rest : List ℕ) (b : ℕ) → 255 ≤ length prefix → 2 ≤ length rest → Some b ≡ byte_of (get_or rest 0 0) (get_or rest 1 0)
    → bytes_of_hex digits ≡ after prefix (bytes_of_hex rest) → binary_of digits ≡ None
unfolding kept
too_many digits prefix rest b many some is so_far =
    ap kept (so_far ∙ ap (after prefix) (next rest (Some b) some is) ∙ after_more prefix b (bytes_of_hex (drop 2 rest)))
    ∙ long_kept (prefix ++ b ∷ []) (bytes_of_hex (drop 2 rest)) (omega (arith, many, length-append prefix (b ∷ [])))

-- one digit is left
pub odd : (digits prefix rest : List ℕ) → length rest ≡ 1 → bytes_of_hex digits ≡ after prefix (bytes_of_hex rest) → binary_of digits ≡ None
unfolding kept bytes_of_hex
odd digits prefix [] one so_far = absurd (omega (arith, one))
odd digits prefix (x ∷ []) one so_far = ap kept so_far
odd digits prefix (x ∷ y ∷ more) one so_far = absurd (omega (arith, one))

short_kept : (bytes : List ℕ) → length bytes ≤ 255 → kept (Some bytes) ≡ Some bytes
unfolding kept
short_kept bytes short = ap (λ (b : Bool). if b then Some bytes else None) (le-leb (length bytes) 255 short)

-- no digit is left
pub all_spelled : (digits prefix rest : List ℕ) → length rest ≡ 0 → length prefix ≤ 255 → bytes_of_hex digits ≡ after prefix (bytes_of_hex rest) → binary_of digits ≡ Some prefix
unfolding kept bytes_of_hex
all_spelled digits prefix [] none short so_far = ap kept (so_far ∙ ap Some (append-nil prefix)) ∙ short_kept prefix short
all_spelled digits prefix (x ∷ rest) none short so_far = absurd (omega (arith, none))
