use Rattle.std.proofs.Common.{◌≡◌, arith, ◌∙◌, ◌++◌, ◌∷◌, [], ap, append_assoc, length, refl, sym}
use Rattle.std.proofs.lemmas.Bool.{eqb-false}
use Rattle.bt_value.specs.Views.{value_of_ref}
use Rattle.bt_value.specs.declared.value.Kind.TheVariants as kind
use Rattle.bt_keycode.proofs.Decoding.{goes_on, goes_past, no_values, none_begins, of_all}
use Rattle.bt_keycode.proofs.decoder.decode_onto.Goals as goal

pub returns-in_default-clause-none : goal.returns-in_default-clause-none
returns-in_default-clause-none c = λ _. no_values c.args.kinds.now c.args.bytes.now
    (none_begins c.args.kinds.now c.loop-kind.kind-index kind.Int c.args.bytes.now c.loop-kind.invariant.0 c.loop-kind.code.now c.loop-kind-test.true
    c.loop-kind.invariant.1.1 c.in_default.ensures.none)

pub loop-kind-preserved : goal.loop-kind-preserved
loop-kind-preserved c =
    let values = c.loop-kind.invariant.0 in
    let value = value_of_ref c.in-Some.value in (
      values ++ value ∷ [],
      (
        c.in-Ok.ensures.ok ∙ ap (λ row. row ++ value ∷ []) c.loop-kind.invariant.1.0 ∙ append_assoc c.args.row.now values (value ∷ []),
        goes_on c.args.kinds.now c.loop-kind.kind-index kind.Int c.args.bytes.now values (values ++ value ∷ []) value c.loop-kind.code.now c.in-Some.rest.now
            c.loop-kind-test.true refl c.loop-kind.invariant.1.1 c.in-Some.ensures.found,
      ),
    )

pub returns-else-is_empty-clause-none : goal.returns-else-is_empty-clause-none
returns-else-is_empty-clause-none c = λ _.
    let all : c.loop-kind.kind-index ≡ length c.args.kinds.now = omega arith in
    goes_past c.args.kinds.now c.args.bytes.now c.loop-kind.invariant.0 c.loop-kind.code.now
    (of_all c.args.kinds.now c.loop-kind.kind-index c.args.bytes.now c.loop-kind.invariant.0 c.loop-kind.code.now all c.loop-kind.invariant.1.1)
    (λ none. eqb-false (length c.loop-kind.code.now) 0 (sym c.is_empty.ensures ∙ c.if-is_empty.false) (ap length none))
