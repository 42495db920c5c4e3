use Rattle.std.proofs.Common.{◌++◌, ◌∙◌, Some, ap, rules, sym}
use Rattle.bt_keycode.specs.Codes.{IsNoCode}
use Rattle.bt_keycode.proofs.Decoding.{one_code}
use Rattle.bt_keycode.proofs.offered.Decoded.{code_decoded, none_decoded}
use Rattle.bt_keycode.proofs.library_calls.decode.Goals as goal

pub returns-clause-only : goal.returns-clause-only
returns-clause-only c = λ other h.
    let added = c.in_ok-decode_onto.ensures.code in
    one_code c.args.kinds.now c.args.bytes.now added.0 added.1.1 other h ∙ sym (added.1.0 ∙ ap (λ row. row ++ added.0) c.new-row.ensures)

pub returns-clause-decoded : goal.returns-clause-decoded
returns-clause-decoded c =
    let added = c.in_ok-decode_onto.ensures.code in
    code_decoded c.args.kinds.now c.args.bytes.now added.0 added.1.1 ∙ ap Some (sym (added.1.0 ∙ ap (λ row. row ++ added.0) c.new-row.ensures))

pub returns-in_err-decode_onto-clause-undecoded : goal.returns-in_err-decode_onto-clause-undecoded
returns-in_err-decode_onto-clause-undecoded c = λ is.
    let other : IsNoCode c.args.kinds.now c.args.bytes.now = search rules in
    none_decoded c.args.kinds.now c.args.bytes.now other
