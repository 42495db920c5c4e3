use Rattle.std.proofs.Common.{rules, ◌≡◌, ◌∙◌, ◌++◌, List, Some, ap, length, sym, take}
use Rattle.std.proofs.Math.Seq.{take-length}
use Rattle.std.specs.Prelude.{option_map}
use Rattle.bt_value.specs.declared.value.Value.{Value}
use Rattle.bt_keycode.specs.Codes.{IsCodeOf, IsNoCode}
use Rattle.bt_keycode.proofs.offered.Decoded.{code_decoded, none_decoded}
use Rattle.bt_show.proofs.entry_rows.row_of_entry.Goals as goal

pub returns-in-Err-NotACode : goal.returns-in-Err-NotACode
returns-in-Err-NotACode c =
    let no : IsNoCode c.args.kinds.now c.args.key.now = search rules in
    ap (option_map (λ values. values ++ c.args.entry.now)) (sym (none_decoded c.args.kinds.now c.args.key.now no))

pub returns : goal.returns
returns c =
    let kinds = c.args.kinds.now in
    let key = c.args.key.now in
    let included = c.args.entry.now in
    let read : (values : List Value) × ((c.decode_onto.new.row ≡ c.new-row.result ++ values) × IsCodeOf kinds key values) = c.in-Ok.ensures.code in
    let added : c.push_first.new.self ≡ c.decode_onto.new.row ++ take (length included) included = search rules in
    sym (
    ap (option_map (λ values. values ++ included)) (code_decoded kinds key read.0 read.1.1)
    ∙ ap (λ more. Some (read.0 ++ more)) (sym (take-length included))
    ∙ ap (λ row. Some (row ++ take (length included) included)) (sym (read.1.0 ∙ ap (λ row. row ++ read.0) c.new-row.ensures))
    ∙ ap Some (sym added)
    )
