use Rattle.std.proofs.Common.{◌≡◌, ◌++◌, ◌∷◌, ◌∙◌, [], ℕ, List, ap, append_assoc, false, nat_eq, sym}
use Rattle.std.specs.List.{list_any}
use Rattle.bt_keycode.specs.Codes.{escaped}
use Rattle.bt_keycode.proofs.Escapes.{escaped_no_zero, escaped_parts}
use Rattle.bt_keycode.proofs.code_builder.CodeBuilder.add_bytes.Goals as goal

-- one more part was added, and the zero byte after it
one_more : (wanted now new rest part following : List ℕ) → wanted ≡ now ++ escaped rest → rest ≡ part ++ 0 ∷ following → list_any (λ b. nat_eq b 0) part ≡ false →
    new ≡ now ++ (part ++ (0 ∷ 255 ∷ [])) → wanted ≡ new ++ escaped following
one_more wanted now new rest part following so_far whole none is =
    so_far ∙ ap (λ bs. now ++ bs) (escaped_parts rest part following whole none ∙ sym (append_assoc part (0 ∷ 255 ∷ []) (escaped following)))
    ∙ sym (append_assoc now (part ++ (0 ∷ 255 ∷ [])) (escaped following)) ∙ ap (λ bs. bs ++ escaped following) (sym is)

-- the last part and the end
all_added : (old plain now rest end : List ℕ) → old ++ escaped plain ≡ now ++ escaped rest → list_any (λ b. nat_eq b 0) rest ≡ false →
    now ++ (rest ++ end) ≡ old ++ (escaped plain ++ end)
all_added old plain now rest end so_far none =
    sym (append_assoc now rest end) ∙ ap (λ bs. bs ++ end) (ap (λ bs. now ++ bs) (sym (escaped_no_zero rest none)) ∙ sym so_far)
    ∙ append_assoc old (escaped plain) end

pub loop-part-preserved : goal.loop-part-preserved
loop-part-preserved c =
    one_more _ c.loop-part.self c.push.new.self c.loop-part.rest.now c.in-Some.part.now c.in-Some.following.now
    c.loop-part.invariant c.in-Some.ensures.parts c.in-Some.ensures.first c.in_ok-push.ensures.ok

pub returns : goal.returns
returns c = rw (all_added c.args.self.now c.args.bytes.now c.loop-part.self c.loop-part.rest.now (0 ∷ 1 ∷ []) c.loop-part.invariant c.in_default.ensures.none) at c.push-2.ensures.ok
