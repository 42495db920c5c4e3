use Rattle.std.proofs.Common.{◌∙◌, ◌≢◌, sym, get_or}
use Rattle.std.proofs.lemmas.Bool.{eqb-true, eqb-false}
use Rattle.bt_value.proofs.IntTexts.{int_utf8, plus_none, read_signed}
use Rattle.bt_value.proofs.int.read_long_int.Goals as goal

pub returns-then-begins_with : goal.returns-then-begins_with
returns-then-begins_with c = sym (plus_none c.args.field.now (eqb-true (get_or c.args.field.now 0 0) 43 (sym c.begins_with.ensures ∙ c.if-begins_with.true)))

pub returns-in-Ok : goal.returns-in-Ok
returns-in-Ok c =
    let same = c.in-Ok.ensures.cases.0 in
    let plus : get_or c.args.field.now 0 0 ≢ 43 = eqb-false (get_or c.args.field.now 0 0) 43 (sym c.begins_with.ensures ∙ c.if-begins_with.false) in
    c.ok.ensures.value ∙ read_signed c.args.field.now c.parse.result (rw same at c.parse.ensures.value.0) plus

pub returns-in-Err : goal.returns-in-Err
returns-in-Err c = sym (int_utf8 c.args.field.now c.in-Err.ensures.cases.0)
