-- A name is ASCII. Serves the reading of a name as text.
use Rattle.std.proofs.Common.{ℕ, Bool, List, [], ◌∷◌, ◌<◌, ◌≡◌, refl, true, false, ◌&&◌, arith, inl, inr}
use Rattle.std.proofs.lemmas.Bool.{cases_Bool}
use Rattle.std.proofs.lemmas.Bool.Decides.{nat_tests}
use Rattle.std.proofs.lemmas.Str.{IsUtf8-from_ascii}
use Rattle.std.proofs.lemmas.Str.Ascii.{IsAscii-cons, IsAscii-nil}
use Rattle.std.specs.List.{list_all}
use Rattle.std.specs.Prelude.{IsUtf8}
use Rattle.std.specs.Str.{IsAscii}
use Rattle.bt_script.specs.Lines.{is_name, is_name_byte}

name_byte_small : (b : ℕ) → is_name_byte b ≡ true → b < 128
name_byte_small b test = grind (arith, nat_tests)

both_first : (a b : Bool) → (a && b) ≡ true → a ≡ true
both_first true b e = refl
both_first false b e = cc

both_second : (a b : Bool) → (a && b) ≡ true → b ≡ true
both_second true b e = e
both_second false b e = cc

name_bytes_ascii : (word : List ℕ) → list_all is_name_byte word ≡ true → IsAscii word
name_bytes_ascii [] test = IsAscii-nil
name_bytes_ascii (b ∷ bs) test = IsAscii-cons b bs (name_byte_small b (both_first _ _ test)) (name_bytes_ascii bs (both_second _ _ test))

-- bytes that are not text are not a name
pub no_name : (word : List ℕ) → ¬ (IsUtf8 word) → is_name word ≡ false
no_name word broken = elim (cases_Bool (is_name word)) [
  | inl test ↦ absurd (broken (IsUtf8-from_ascii word (name_bytes_ascii word (both_second _ _ test))))
  | inr test ↦ test
]
