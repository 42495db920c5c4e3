use Rattle.std.proofs.Common.{◌∷◌, [], ap, arith, length}
use Rattle.std.proofs.lemmas.List.{length-append}
use Rattle.bt_keycode.specs.Codes.{escaped}
use Rattle.bt_keycode.proofs.CodeLengths.{one_part, short_escaped}
use Rattle.bt_keycode.proofs.Escapes.{escaped_no_zero}
use Rattle.bt_keycode.proofs.lengths.bytes_len.Goals as goal

pub overflow_add-len-in-Some : goal.overflow_add-len-in-Some
overflow_add-len-in-Some c = record {
  fits = omega (arith, c.loop-part.invariant, one_part _ _ _ c.in-Some.ensures.parts c.in-Some.ensures.first, short_escaped c.args.bytes.now c.requires);
}

pub loop-part-preserved : goal.loop-part-preserved
loop-part-preserved c = omega (arith, c.loop-part.invariant, one_part _ _ _ c.in-Some.ensures.parts c.in-Some.ensures.first)

pub overflow_add-result : goal.overflow_add-result
overflow_add-result c = record { fits = omega (arith, c.loop-part.invariant, ap length (escaped_no_zero c.loop-part.rest.now c.in_default.ensures.none), short_escaped c.args.bytes.now c.requires) }

pub returns : goal.returns
returns c = omega (arith, c.loop-part.invariant, ap length (escaped_no_zero c.loop-part.rest.now c.in_default.ensures.none), length-append (escaped c.args.bytes.now) (0 ∷ 1 ∷ []))
