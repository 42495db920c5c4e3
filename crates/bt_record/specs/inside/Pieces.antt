-- Fields as parts of bytes, by their spans.
use Rattle.std.specs.Prelude.{ℕ, ◌≤◌, ◌-◌, List, [], ◌∷◌, take, drop, map, ⊤}
use Rattle.bt_record.specs.declared.fields.FieldSpan.{FieldSpan}

-- the part of bytes in a span
abbrev pub part : List ℕ → FieldSpan → List ℕ
part bytes span = take (span.end - span.start) (drop span.start bytes)

-- the parts of bytes in these spans
abbrev pub pieces : List ℕ → List FieldSpan → List (List ℕ)
pieces bytes spans = map (λ span. part bytes span) spans

-- the spans are within this many bytes
abbrev pub LieWithin : ℕ → List FieldSpan → Type 0
LieWithin size [] = ⊤
LieWithin size (span ∷ spans) = (span.start ≤ span.end) × (span.end ≤ size) × LieWithin size spans
