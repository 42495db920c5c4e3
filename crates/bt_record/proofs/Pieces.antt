-- Parts of bytes: their number, one of them, and one more. Serves the fields of a record and the reader.
use Rattle.std.proofs.Common.{◌≡◌, ℕ, zero, suc, ◌-◌, ◌<◌, ◌≤◌, List, [], ◌∷◌, ◌++◌, length, length-append, length-drop, take, drop, get_or, slice_get, Some, refl, ap, sym, ◌∙◌, arith}
use Rattle.std.proofs.lemmas.List.{drop_all, take-append-le, drop-append-le}
use Rattle.std.proofs.Math.Seq.{drop-append_seam, take-length}
use Rattle.bt_record.specs.inside.Pieces.{LieWithin, part, pieces}
use Rattle.bt_record.specs.declared.fields.FieldSpan.{FieldSpan}

pub length_pieces : (bytes : List ℕ) (spans : List FieldSpan) → length (pieces bytes spans) ≡ length spans
length_pieces bytes [] = refl
length_pieces bytes (p ∷ ps) = ap suc (length_pieces bytes ps)

pub piece_at : (bytes : List ℕ) (spans : List FieldSpan) (i : ℕ) (d : FieldSpan) → i < length spans → slice_get (pieces bytes spans) i ≡ Some (part bytes (get_or spans i d))
piece_at bytes [] i d within = absurd (omega (arith, within))
piece_at bytes (p ∷ ps) zero d within = refl
piece_at bytes (p ∷ ps) (suc i) d within = piece_at bytes ps i d (omega (arith, within))

pub in_bounds : (size : ℕ) (spans : List FieldSpan) (i : ℕ) (d : FieldSpan) → LieWithin size spans → i < length spans
    → ((get_or spans i d).start ≤ (get_or spans i d).end) × ((get_or spans i d).end ≤ size)
in_bounds size [] i d within l = absurd (omega (arith, l))
in_bounds size (p ∷ ps) zero d within l = (within.0, within.1)
in_bounds size (p ∷ ps) (suc i) d within l = in_bounds size ps i d within.2 (omega (arith, l))

-- spans within a size are within a larger one
pub wider : (size more : ℕ) (spans : List FieldSpan) → size ≤ more → LieWithin size spans → LieWithin more spans
wider size more [] le within = tt
wider size more (p ∷ ps) le within = (within.0, omega (arith, le, within.1), wider size more ps le within.2)

-- one more span
pub more_spans : (size : ℕ) (spans : List FieldSpan) (p : FieldSpan) → LieWithin size spans → p.start ≤ p.end → p.end ≤ size → LieWithin size (spans ++ p ∷ [])
more_spans size [] p within s e = (s, e, tt)
more_spans size (q ∷ qs) p within s e = (within.0, within.1, more_spans size qs p within.2 s e)

pub more_pieces : (bytes : List ℕ) (spans : List FieldSpan) (p : FieldSpan) → pieces bytes (spans ++ p ∷ []) ≡ pieces bytes spans ++ part bytes p ∷ []
more_pieces bytes [] p = refl
more_pieces bytes (q ∷ qs) p = ap (λ (l : List (List ℕ)). part bytes q ∷ l) (more_pieces bytes qs p)

-- more bytes after the spans leave the parts unchanged
pub more_bytes : (bytes more : List ℕ) (spans : List FieldSpan) → LieWithin (length bytes) spans → pieces (bytes ++ more) spans ≡ pieces bytes spans
more_bytes bytes more [] within = refl
more_bytes bytes more (p ∷ ps) within =
    let first : part (bytes ++ more) p ≡ part bytes p =
    ap (take (p.end - p.start)) (drop-append-le p.start bytes more (omega (arith, within.0, within.1)))
    ∙ take-append-le (p.end - p.start) (drop p.start bytes) more (omega (arith, within.0, within.1, length-drop p.start bytes)) in
    ap (λ (l : List (List ℕ)). part (bytes ++ more) p ∷ l) (more_bytes bytes more ps within.2) ∙ ap (λ (f : List ℕ). f ∷ pieces bytes ps) first

-- the bytes from a start to the end are the part that begins there
pub last_part : (bytes : List ℕ) (start : ℕ) → take (length bytes - start) (drop start bytes) ≡ drop start bytes
last_part bytes start = ap (λ n. take n (drop start bytes)) (sym (length-drop start bytes)) ∙ take-length (drop start bytes)

-- one more part, after the bytes that are added for it
pub pushed : (bytes more : List ℕ) (spans : List FieldSpan) (p : FieldSpan) → LieWithin (length bytes) spans → p.start ≡ length bytes → p.end ≡ length (bytes ++ more)
    → pieces (bytes ++ more) (spans ++ p ∷ []) ≡ pieces bytes spans ++ more ∷ []
pushed bytes more spans p within starts ends =
    let start : drop p.start (bytes ++ more) ≡ more = ap (λ n. drop n (bytes ++ more)) starts ∙ drop-append_seam bytes more in
    let size : p.end - p.start ≡ length more = omega (arith, starts, ends, length-append bytes more) in
    let last : part (bytes ++ more) p ≡ more = rw (size, start) (take-length more) in
    more_pieces (bytes ++ more) spans p ∙ ap (λ (f : List ℕ). pieces (bytes ++ more) spans ++ f ∷ []) last ∙ ap (λ (l : List (List ℕ)). l ++ more ∷ []) (more_bytes bytes more spans within)

pub pushed_within : (bytes more : List ℕ) (spans : List FieldSpan) (p : FieldSpan) → LieWithin (length bytes) spans → p.start ≡ length bytes → p.end ≡ length (bytes ++ more)
    → LieWithin (length (bytes ++ more)) (spans ++ p ∷ [])
pushed_within bytes more spans p within starts ends =
    let grown : length bytes ≤ length (bytes ++ more) = omega (arith, length-append bytes more) in
    more_spans (length (bytes ++ more)) spans p (wider (length bytes) (length (bytes ++ more)) spans grown within) (omega (arith, starts, ends, grown)) (omega (arith, ends))

-- ---- the bytes of the fields so far, followed by those of the current field

pub same_fields : (bytes new : List ℕ) (spans spans_new : List FieldSpan) → new ≡ bytes → spans_new ≡ spans → pieces new spans_new ≡ pieces bytes spans
same_fields bytes new spans spans_new b p = rw (b, p) refl

pub same_field : (bytes new : List ℕ) (start start_new : ℕ) → new ≡ bytes → start_new ≡ start → drop start_new new ≡ drop start bytes
same_field bytes new start start_new b s = rw (b, s) refl

-- one more byte of the current field
pub copied_fields : (bytes new : List ℕ) (spans spans_new : List FieldSpan) (start byte : ℕ) → LieWithin start spans → start ≤ length bytes → new ≡ bytes ++ byte ∷ [] → spans_new ≡ spans
    → pieces new spans_new ≡ pieces bytes spans
copied_fields bytes new spans spans_new start byte within starts b p = rw (b, p) (more_bytes bytes (byte ∷ []) spans (wider start (length bytes) spans starts within))

pub copied_field : (bytes new : List ℕ) (start start_new byte : ℕ) → start ≤ length bytes → new ≡ bytes ++ byte ∷ [] → start_new ≡ start → drop start_new new ≡ drop start bytes ++ byte ∷ []
copied_field bytes new start start_new byte starts b s = rw (b, s) (drop-append-le start bytes (byte ∷ []) starts)

-- the end of the current field
pub ended_fields : (bytes new : List ℕ) (spans spans_new : List FieldSpan) (start end : ℕ) → new ≡ bytes → spans_new ≡ spans ++ record { start = start; end = end } ∷ [] → end ≡ length bytes
    → pieces new spans_new ≡ pieces bytes spans ++ drop start bytes ∷ []
ended_fields bytes new spans spans_new start end b p e =
    let q : FieldSpan = record { start = start; end = end } in
    let last : part bytes q ≡ drop start bytes = ap (λ n. take (n - start) (drop start bytes)) e ∙ last_part bytes start in
    same_fields bytes new (spans ++ q ∷ []) spans_new b p ∙ more_pieces bytes spans q ∙ ap (λ (f : List ℕ). pieces bytes spans ++ f ∷ []) last

pub ended_within : (size : ℕ) (spans spans_new : List FieldSpan) (start end : ℕ) → LieWithin start spans → start ≤ end → end ≡ size → spans_new ≡ spans ++ record { start = start; end = end } ∷ []
    → LieWithin size spans_new
ended_within size spans spans_new start end within starts e p =
    rw p (more_spans size spans (record { start = start; end = end }) (wider start size spans (omega (arith, starts, e)) within) starts (omega (arith, e)))

pub none_left : (bytes new : List ℕ) (start : ℕ) → new ≡ bytes → start ≡ length bytes → drop start new ≡ []
none_left bytes new start b s = rw b (drop_all start bytes (omega (arith, s)))
