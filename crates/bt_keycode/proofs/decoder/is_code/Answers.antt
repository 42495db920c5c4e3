use Rattle.std.proofs.Common.{◌≡◌, arith, ◌∙◌, ◌++◌, ◌∷◌, [], ap, length, refl, sym}
use Rattle.std.proofs.lemmas.Bool.{eqb-false, eqb-true}
use Rattle.bt_value.specs.declared.value.Kind.TheVariants as kind
use Rattle.bt_keycode.proofs.Decoding.{goes_on, goes_past, no_values, none_begins, nothing, nothing_past, of_all}
use Rattle.bt_keycode.specs.inside.CodeBeginnings.{BeginsWithAll}
use Rattle.bt_keycode.proofs.decoder.is_code.Goals as goal

pub returns-in_default-clause-no : goal.returns-in_default-clause-no
returns-in_default-clause-no c = λ _. no_values c.args.kinds.now c.args.bytes.now
    (none_begins c.args.kinds.now c.loop-kind.kind-index kind.Int c.args.bytes.now c.loop-kind.invariant.0 c.loop-kind.code.now c.loop-kind-test.true c.loop-kind.invariant.1 c.in_default.ensures.none)

pub loop-kind-preserved : goal.loop-kind-preserved
loop-kind-preserved c =
    let found = c.in-Some.ensures.found in (
      c.loop-kind.invariant.0 ++ found.0 ∷ [],
      goes_on c.args.kinds.now c.loop-kind.kind-index kind.Int c.args.bytes.now c.loop-kind.invariant.0 (c.loop-kind.invariant.0 ++ found.0 ∷ []) found.0
          c.loop-kind.code.now c.in-Some.rest.now c.loop-kind-test.true refl c.loop-kind.invariant.1 found.1,
    )

all_begun : (c : goal.After-is_empty) → BeginsWithAll c.args.kinds.now c.args.bytes.now c.loop-kind.invariant.0 c.loop-kind.code.now
all_begun c =
    let all : c.loop-kind.kind-index ≡ length c.args.kinds.now = omega arith in
    of_all c.args.kinds.now c.loop-kind.kind-index c.args.bytes.now c.loop-kind.invariant.0 c.loop-kind.code.now all c.loop-kind.invariant.1

pub returns-clause-yes : goal.returns-clause-yes
returns-clause-yes c = λ empty. nothing_past c.args.kinds.now c.args.bytes.now c.loop-kind.invariant.0 c.loop-kind.code.now (all_begun c)
    (nothing c.loop-kind.code.now (eqb-true (length c.loop-kind.code.now) 0 (sym c.is_empty.ensures ∙ empty)))

pub returns-clause-no : goal.returns-clause-no
returns-clause-no c = λ more. goes_past c.args.kinds.now c.args.bytes.now c.loop-kind.invariant.0 c.loop-kind.code.now (all_begun c)
    (λ none. eqb-false (length c.loop-kind.code.now) 0 (sym c.is_empty.ensures ∙ more) (ap length none))
