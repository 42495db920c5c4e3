-- The comparison of two lists of values is true if the lists are equal. Serves the messages of an index, and groups.
use Rattle.std.proofs.Common.{◌≡◌, true, ◌&&◌, List, [], ◌∷◌, refl, sym, ap, ◌∙◌, true≢false}
use Rattle.std.specs.Cmp.{booleans_Decides, signed_Decides}
use Rattle.std.specs.Cmp.Lexicographic.{bytes_decides, same_text}
use Rattle.bt_value.specs.Kinds.{Content, Number, Bytes, Bit, content_of, kind_of, value_with}
use Rattle.bt_value.specs.Values.{same_content, same_kind, same_value, same_values}
use Rattle.bt_value.specs.declared.value.Value.{Value}
use Rattle.bt_value.proofs.offered.Tests.{both_true, first_true, second_true}
use Rattle.bt_value.proofs.offered.Kinds.{same_kind-itself, same_kind-sound, with_content}

same_content-sound : (a b : Content) → same_content a b ≡ true → a ≡ b
same_content-sound (Number a) (Number b) h = ap Number ((signed_Decides a b).0 h)
same_content-sound (Bytes a) (Bytes b) h = ap Bytes (same_text a b (sym h))
same_content-sound (Bit a) (Bit b) h = ap Bit ((booleans_Decides a b).0 h)
same_content-sound a b h = absurd (true≢false (sym h))

same_value-sound : (a b : Value) → same_value a b ≡ true → a ≡ b
same_value-sound a b h =
    let kinds = same_kind-sound (kind_of a) (kind_of b) (first_true (same_kind (kind_of a) (kind_of b)) (same_content (content_of a) (content_of b)) h) in
    let contents = same_content-sound (content_of a) (content_of b) (second_true (same_kind (kind_of a) (kind_of b)) (same_content (content_of a) (content_of b)) h) in
    sym (with_content a) ∙ ap (λ k. value_with k (content_of a)) kinds ∙ ap (value_with (kind_of b)) contents ∙ with_content b

pub same_values-sound : (a b : List Value) → same_values a b ≡ true → a ≡ b
same_values-sound [] [] h = refl
same_values-sound [] (b ∷ bs) h = absurd (true≢false (sym h))
same_values-sound (a ∷ more) [] h = absurd (true≢false (sym h))
same_values-sound (a ∷ more) (b ∷ bs) h =
    let one = first_true (same_value a b) (same_values more bs) h in
    let others = second_true (same_value a b) (same_values more bs) h in
    ap (λ v. v ∷ more) (same_value-sound a b one) ∙ ap (λ vs. b ∷ vs) (same_values-sound more bs others)

same_content-itself : (c : Content) → same_content c c ≡ true
same_content-itself (Number n) = (signed_Decides n n).1 refl
same_content-itself (Bytes bytes) = (bytes_decides bytes bytes).1 refl
same_content-itself (Bit bit) = (booleans_Decides bit bit).1 refl

same_value-itself : (v : Value) → same_value v v ≡ true
same_value-itself v = both_true (same_kind (kind_of v) (kind_of v)) (same_content (content_of v) (content_of v)) (same_kind-itself (kind_of v)) (same_content-itself (content_of v))

same_values-itself : (vs : List Value) → same_values vs vs ≡ true
same_values-itself [] = refl
same_values-itself (v ∷ vs) = ap (λ b. b && same_values vs vs) (same_value-itself v) ∙ same_values-itself vs

pub same_values-complete : (a b : List Value) → a ≡ b → same_values a b ≡ true
same_values-complete a b e = ap (λ c. same_values a c) (sym e) ∙ same_values-itself a
