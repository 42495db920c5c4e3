use Rattle.std.proofs.Common.{◌≡◌, ◌+◌, ◌<◌, ◌≤◌, ◌++◌, List, ℕ, arith, sym, ap, subst, ◌∙◌, length, length-drop, drop, take, set}
use Rattle.bt_row.specs.inside.Packing.{IsPacked, packed_value, unpacked, width_of}
use Rattle.bt_value.specs.Views.{value_of_ref}
use Rattle.bt_value.specs.declared.value.Value.{Value}
use Rattle.bt_row.proofs.Replacements.{Replaces, replaced, replaced_packed, set_past_end, width_fits}
use Rattle.bt_row.proofs.rows.row.Row.set.Goals as goal

pub returns-then-at-bytes-clause-ok : goal.returns-then-at-bytes-clause-ok
returns-then-at-bytes-clause-ok c =
    let bytes = c.as_slice-bytes.result.now in
    let same : unpacked bytes ≡ c.args.self.now = ap unpacked c.as_slice-bytes.ensures ∙ c.self.view_is in
    let past = set_past_end bytes c.args.place c.offset-at.result (value_of_ref c.args.value) c.offset-at.ensures (omega (arith, c.if-at-bytes.true)) in
    subst (λ (row : List Value). row ≡ set row c.args.place (value_of_ref c.args.value)) same (sym past)

-- the value that begins at a place ends within the bytes
ends_within : (bytes : List ℕ) (at width : ℕ) → at ≤ length bytes → IsPacked (drop at bytes) → width ≡ width_of (drop at bytes) → at + width ≤ length bytes
ends_within bytes at width within rest is = omega (arith, within, is, width_fits (drop at bytes) rest, length-drop at bytes)

pub overflow_add-end : goal.overflow_add-end
overflow_add-end c =
    let end = ends_within c.as_slice-bytes.result.now c.offset-at.result c.width_at.result c.offset-at.ensures.within c.offset-at.ensures.rest c.width_at.ensures in
    search (arith, end)

pub replacement-requires-clause-within : goal.replacement-requires-clause-within
replacement-requires-clause-within c = ends_within c.as_slice-bytes.result.now c.offset-at.result c.width_at.result c.offset-at.ensures.within c.offset-at.ensures.rest c.width_at.ensures

-- how the new bytes are made from the old ones
replaces_value : (bytes new : List ℕ) (at width : ℕ) (v : Value) → new ≡ take at bytes ++ (packed_value v ++ drop (at + width) bytes) → width ≡ width_of (drop at bytes) → Replaces bytes new at v
replaces_value bytes new at width v is wide = record { bytes = is ∙ ap (λ w. take at bytes ++ (packed_value v ++ drop (at + w) bytes)) wide }

begins : (bytes : List ℕ) (at : ℕ) → at ≤ length bytes → (at ≡ length bytes → ⊥) → at < length bytes
begins bytes at within other = omega (arith, within, other)

pub invariant_of-self : goal.invariant_of-self
invariant_of-self c =
    let bytes = c.as_slice-bytes.result.now in
    let is = subst IsPacked (sym c.as_slice-bytes.ensures) c.self.invariant in
    replaced_packed bytes c.in_ok-new.new c.args.place c.offset-at.result (value_of_ref c.args.value) is c.offset-at.ensures
    (begins bytes c.offset-at.result c.offset-at.ensures.within c.if-at-bytes.false)
    c.in_ok-new.ensures.in_range
    (replaces_value bytes c.in_ok-new.new c.offset-at.result c.width_at.result (value_of_ref c.args.value) c.in_ok-new.ensures.bytes c.width_at.ensures)

pub returns-clause-ok : goal.returns-clause-ok
returns-clause-ok c =
    let bytes = c.as_slice-bytes.result.now in
    let is = subst IsPacked (sym c.as_slice-bytes.ensures) c.self.invariant in
    let same : unpacked bytes ≡ c.args.self.now = ap unpacked c.as_slice-bytes.ensures ∙ c.self.view_is in
    replaced bytes c.in_ok-new.new c.args.place c.offset-at.result (value_of_ref c.args.value) is c.offset-at.ensures
    (begins bytes c.offset-at.result c.offset-at.ensures.within c.if-at-bytes.false)
    c.in_ok-new.ensures.in_range
    (replaces_value bytes c.in_ok-new.new c.offset-at.result c.width_at.result (value_of_ref c.args.value) c.in_ok-new.ensures.bytes c.width_at.ensures)
    ∙ ap (λ (row : List Value). set row c.args.place (value_of_ref c.args.value)) same
