use Rattle.std.proofs.Common.{ℕ, List, ◌≡◌, ◌<◌, ◌≤◌, ◌∙◌, arith, ap, subst, sym, length, take, Box, Vec, Global}
use Rattle.std.proofs.lemmas.List.{length-take}
use Rattle.bt_value.specs.inside.Shorts.{FitsInside, bytes_of, most_short}
use Rattle.bt_value.specs.Paddings.{padded}
use Rattle.bt_value.specs.declared.bytes.BytesStorage.{BytesStorage}
use Rattle.bt_value.specs.declared.bytes.BytesStorage.TheVariants.{Short, Long}
use Rattle.bt_value.proofs.Paddings.{length-padded, padded-all}
use Rattle.bt_value.proofs.bytes.Bytes.padded.Goals as goal

-- the whole array of a value that keeps its bytes in itself
all_places : (storage : BytesStorage) (len : ℕ) (places seen bytes : List ℕ) → storage ≡ Short len places → FitsInside storage → bytes_of storage ≡ bytes
    → seen ≡ places → (length seen ≡ most_short) × (seen ≡ padded most_short bytes)
all_places storage len places seen bytes is fits shown same =
    let inside : FitsInside (Short len places) = subst FitsInside is fits in
    let front : take len places ≡ bytes = sym (ap bytes_of is) ∙ shown in
    let whole : seen ≡ padded most_short bytes = same ∙ inside.1 ∙ ap (λ (bs : List ℕ). padded most_short bs) front in
    (ap length whole ∙ length-padded most_short bytes, whole)

-- there are no more bytes than places in the array
fewer : (storage : BytesStorage) (len : ℕ) (places seen bytes : List ℕ) → storage ≡ Short len places → bytes_of storage ≡ bytes → seen ≡ places → length bytes ≤ length seen
fewer storage len places seen bytes is shown same =
    omega (arith, ap length (sym (ap bytes_of is) ∙ shown), length-take len places, ap length same)

pub returns-in-Short-clause-bytes : goal.returns-in-Short-clause-bytes
returns-in-Short-clause-bytes c =
    let seen = all_places c.self.inside.storage c.in-Short.field-0 c.in-Short.bytes c.as_slice.result.now c.args.self.now c.in-Short.is c.self.invariant c.self.view_is c.as_slice.ensures in
    seen.1 ∙ ap (λ n. padded n c.args.self.now) (sym seen.0)

pub returns-in-Short-clause-room : goal.returns-in-Short-clause-room
returns-in-Short-clause-room c =
    let seen = all_places c.self.inside.storage c.in-Short.field-0 c.in-Short.bytes c.as_slice.result.now c.args.self.now c.in-Short.is c.self.invariant c.self.view_is c.as_slice.ensures in
    omega (arith, seen.0)

pub returns-in-Short-clause-whole : goal.returns-in-Short-clause-whole
returns-in-Short-clause-whole c =
    fewer c.self.inside.storage c.in-Short.field-0 c.in-Short.bytes c.as_slice.result.now c.args.self.now c.in-Short.is c.self.view_is c.as_slice.ensures

-- the bytes of a value that keeps them elsewhere, which are more than the array has
all_bytes : (storage : BytesStorage) (long : Box (Vec ℕ Global) Global) (seen bytes : List ℕ) → storage ≡ Long long → FitsInside storage
    → bytes_of storage ≡ bytes → seen ≡ long.value.items → (most_short < length seen) × (seen ≡ bytes)
all_bytes storage long seen bytes is fits shown same =
    let inside : FitsInside (Long long) = subst FitsInside is fits in
    (omega (arith, inside, ap length same), same ∙ sym (ap bytes_of is) ∙ shown)

pub returns-in-Long-clause-bytes : goal.returns-in-Long-clause-bytes
returns-in-Long-clause-bytes c =
    let is = c.as_slice-in-Long.ensures.value ∙ ap (λ (v : Vec ℕ Global). v.items) c.deref.ensures in
    let seen = all_bytes c.self.inside.storage c.in-Long.bytes c.as_slice-in-Long.result.now c.args.self.now c.in-Long.is c.self.invariant c.self.view_is is in
    rw seen.1 (sym (padded-all c.args.self.now))

pub returns-in-Long-clause-room : goal.returns-in-Long-clause-room
returns-in-Long-clause-room c =
    let is = c.as_slice-in-Long.ensures.value ∙ ap (λ (v : Vec ℕ Global). v.items) c.deref.ensures in
    let seen = all_bytes c.self.inside.storage c.in-Long.bytes c.as_slice-in-Long.result.now c.args.self.now c.in-Long.is c.self.invariant c.self.view_is is in
    omega (arith, seen.0)

pub returns-in-Long-clause-whole : goal.returns-in-Long-clause-whole
returns-in-Long-clause-whole c =
    let is = c.as_slice-in-Long.ensures.value ∙ ap (λ (v : Vec ℕ Global). v.items) c.deref.ensures in
    let seen = all_bytes c.self.inside.storage c.in-Long.bytes c.as_slice-in-Long.result.now c.args.self.now c.in-Long.is c.self.invariant c.self.view_is is in
    omega (arith, ap length seen.1)
