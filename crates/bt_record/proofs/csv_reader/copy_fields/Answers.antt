use Rattle.std.proofs.Common.{arith, ℕ, List, [], ◌∷◌, ◌++◌, ◌+◌, ◌<◌, ◌≡◌, ◌∙◌, sym, ap, take, length, Some}
use Rattle.std.proofs.lemmas.List.{take_more}
use Rattle.csv.specs.Records.{field_at, fields_of}
use Rattle.csv.proofs.RecordFacts.{field-get, field-there}
use Rattle.bt_record.proofs.csv_reader.copy_fields.Goals.{in-Some+in_ok-push, in_default}
use Rattle.bt_record.proofs.csv_reader.copy_fields.Goals as goal

-- one more field
one_more : (fields : List (List ℕ)) (i : ℕ) (field : List ℕ) → i < length fields → field_at fields i ≡ Some field → take i fields ++ field ∷ [] ≡ take (i + 1) fields
one_more fields i field within at = sym (take_more fields i [] within ∙ ap (λ (x : List ℕ). take i fields ++ x ∷ []) (field-get fields i field at))

pub loop-place-preserved : goal.loop-place-preserved
loop-place-preserved c =
    let all = fields_of c.args.record.now in
    let within : c.loop-place.place < length all = omega arith in
    elim c.match-get.branch [
      | in-Some+in_ok-push w ↦
          let more = one_more all c.loop-place.place w.in-Some.field.now within (sym w.in-Some.ensures.value) in
          w.fields-is ∙ w.in_ok-push.ensures.ok ∙ ap (λ (fs : List (List ℕ)). fs ++ w.in-Some.field.now ∷ []) c.loop-place.invariant ∙ more
      | in_default w ↦ absurd (field-there all c.loop-place.place within (sym w.in_default.ensures.value))
    ]
