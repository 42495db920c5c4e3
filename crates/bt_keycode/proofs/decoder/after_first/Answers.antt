use Rattle.std.proofs.Common.{ℕ, List, refl, subst, sym}
use Rattle.bt_value.specs.Kinds.{Content, Number, Bytes, Bit, value_with}
use Rattle.bt_value.specs.Views.{content_of_ref}
use Rattle.bt_value.specs.declared.value.Form.TheVariants as form
use Rattle.bt_value.specs.declared.value.Kind.TheVariants as kind
use Rattle.bt_value.specs.declared.value.Value.{Value}
use Rattle.bt_keycode.specs.inside.CodeBeginnings.{BeginsWith, BeginsWithContent}
use Rattle.bt_keycode.proofs.Decoding.{value_found}
use Rattle.bt_keycode.proofs.decoder.after_first.Goals as goal

-- each number is that of an int
int_found : (bytes : List ℕ) (c : Content) (rest : List ℕ) → BeginsWithContent form.Number bytes c rest → (first : Value) × BeginsWith kind.Int bytes first rest
int_found bytes (Number n) rest b = (value_with kind.Int (Number n), value_found kind.Int bytes (Number n) rest b refl)
int_found bytes (Bytes others) rest b = let same = b.of_form in cc
int_found bytes (Bit bit) rest b = let same = b.of_form in cc

pub returns-in-Int-clause-found : goal.returns-in-Int-clause-found
returns-in-Int-clause-found c =
    let bytes = c.args.bytes.now in
    let rest = c.in_ok-rest.rest.now in
    subst (λ k. (first : Value) × BeginsWith k bytes first rest) (sym c.in-Int.is) (int_found bytes (content_of_ref c.in_ok-rest.field-0-0) rest c.in_ok-rest.ensures.found)
