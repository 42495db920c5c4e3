-- The head of a file is its first frame.
use Rattle.std.proofs.Common.{◌≡◌, inl, inr, ℕ, ◌^◌, ◌<◌, ◌≤◌, List, [], ◌++◌, length, take, drop, Option, Some, None, sym, ◌∙◌, ap, subst, arith, length-take, take-append-drop, eqb-true}
use Rattle.std.specs.Int.{w64, to_le_bytes}
use Rattle.std.specs.Prelude.{IfSome}
use Rattle.std.proofs.lemmas.Option.{cond_some}
use Rattle.bt_journal.specs.Frames.{frame_size, number_at, payload_at}
use Rattle.bt_journal.specs.Heads.{head_seed, head_size, head_bytes, head_frame, head_of, head_at}
use Rattle.bt_journal.specs.declared.head.Head.{Head}
use Rattle.bt_journal.proofs.FrontFrames.{IsFront, payload_at-front, front-payload_at, front-shrink, front-frame_of, number_at-to_le}
use Rattle.bt_journal.proofs.FrameLists.{payload_at-append, payload_at-long, payload_at_cases}

-- what the first frame says, for the head that a file has
record FirstFrame (head : Head) (file : List ℕ) : Type 0 where
  pub payload : List ℕ
  pub found : payload_at head_seed file ≡ Some payload
  pub says : head_of payload ≡ Some head

at_none : (file : List ℕ) → payload_at head_seed file ≡ None → head_at file ≡ None
unfolding head_at
at_none file e = ap (λ (o : Option (List ℕ)). elim o as (λ _. Option Head) [ None ↦ None | Some p ↦ head_of p ]) e

at_some : (file payload : List ℕ) → payload_at head_seed file ≡ Some payload → head_at file ≡ head_of payload
unfolding head_at
at_some file payload e = ap (λ (o : Option (List ℕ)). elim o as (λ _. Option Head) [ None ↦ None | Some p ↦ head_of p ]) e

first_frame : (head : Head) (file : List ℕ) → head_at file ≡ Some head → FirstFrame head file
first_frame head file e = elim (payload_at_cases head_seed file) [
  | inl none ↦ let nothing = at_none file none in absurd (cc (nothing, e))
  | inr found ↦ record { payload = found.0; found = found.1; says = sym (at_some file found.0 found.1) ∙ e }
]

size_of_head : (head : Head) (payload : List ℕ) → head_of payload ≡ Some head → length payload ≡ 24
unfolding head_of
size_of_head head payload e = eqb-true _ _ (cond_some _ _ head e).0

pub head_long : (head : Head) (file : List ℕ) → head_at file ≡ Some head → head_size ≤ length file
head_long head file e =
    let first = first_frame head file e in
    omega (arith, payload_at-long head_seed first.payload file first.found, size_of_head head first.payload first.says)

-- a file with the same first bytes has the same head
pub head_in : (head : Head) (file other : List ℕ) → head_at file ≡ Some head → take head_size other ≡ take head_size file → head_at other ≡ Some head
head_in head file other e same =
    let first = first_frame head file e in
    let payload = first.payload in
    let size = size_of_head head payload first.says in
    let whole = subst (IsFront head_seed payload) (sym (take-append-drop head_size file)) (front-payload_at head_seed payload file first.found) in
    let long : frame_size payload ≤ length (take head_size file) = omega (arith, size, length-take head_size file, head_long head file e) in
    let front = payload_at-front head_seed payload (take head_size file) (front-shrink head_seed payload (take head_size file) (drop head_size file) long whole) in
    let moved = subst (λ (l : List ℕ). payload_at head_seed l ≡ Some payload) (sym same) front in
    let longer = payload_at-append head_seed payload (take head_size other) (drop head_size other) moved in
    let joined = subst (λ (l : List ℕ). payload_at head_seed l ≡ Some payload) (take-append-drop head_size other) longer in
    at_some other payload joined ∙ first.says

-- the numbers of a head are those of 64 bits
pub record Fits (head : Head) : Type 0 where
  pub format : head.format < 2 ^ 64
  pub engine : head.engine < 2 ^ 64
  pub salt : head.salt < 2 ^ 64

same_head : (head : Head) (format engine salt : ℕ) → format ≡ head.format → engine ≡ head.engine → salt ≡ head.salt → Some (record { format = format; engine = engine; salt = salt }) ≡ Some head
same_head head format engine salt f e s =
    ap (λ (n : ℕ). Some (record { format = n; engine = engine; salt = salt })) f
    ∙ ap (λ (n : ℕ). Some (record { format = head.format; engine = n; salt = salt })) e
    ∙ ap (λ (n : ℕ). Some (record { format = head.format; engine = head.engine; salt = n })) s

says_head : (head : Head) → Fits head → head_of (head_bytes head) ≡ Some head
unfolding head_of
says_head head fits =
    let bytes = head_bytes head in
    same_head head (number_at bytes) (number_at (drop 8 bytes)) (number_at (drop 16 bytes))
    (number_at-to_le head.format (to_le_bytes w64 head.engine ++ to_le_bytes w64 head.salt) fits.format)
    (number_at-to_le head.engine (to_le_bytes w64 head.salt) fits.engine)
    (number_at-to_le head.salt [] fits.salt)

-- a file that begins with the frame of a head has this head
pub head_at-frame : (head : Head) (rest : List ℕ) → Fits head → head_at (head_frame head ++ rest) ≡ Some head
head_at-frame head rest fits =
    let bytes = head_bytes head in
    let found = payload_at-front head_seed bytes (head_frame head) (front-frame_of head_seed bytes (omega arith) (omega arith)) in
    at_some (head_frame head ++ rest) bytes (payload_at-append head_seed bytes (head_frame head) rest found) ∙ says_head head fits

pub long_if_some : (file payload : List ℕ) (found : Option Head) → payload_at head_seed file ≡ Some payload → found ≡ head_of payload → IfSome found (λ _. head_size ≤ length file)
long_if_some file payload None e is = tt
long_if_some file payload (Some head) e is = head_long head file (at_some file payload e ∙ sym is)
