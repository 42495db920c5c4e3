use Rattle.std.proofs.Common.{ℕ, ◌+◌, ◌∙◌, List, ap, arith, drop, length-drop, subst, sym, take}
use Rattle.bt_value.specs.PlainFields.{EndsPlain}
use Rattle.bt_value.specs.Values.{value_of}
use Rattle.bt_value.specs.Views.{value_of_ref}
use Rattle.bt_value.specs.declared.value.Value.{Value}
use Rattle.bt_rowtype.proofs.PlainRows.{EncodesValue, ReadTo, read_columns, read_more, read_none}
use Rattle.bt_rowtype.proofs.plain_row.read_plain_columns.Goals as goal

pub loop-column-init : goal.loop-column-init
loop-column-init c = record { within = omega arith; so_far = read_none c.args.columns.now c.args.text.now c.new-row.result c.new-row.ensures }

pub loop-column-preserved : goal.loop-column-preserved
loop-column-preserved c =
    let columns = c.args.columns.now in
    let text = c.args.text.now in
    let i = c.loop-column.column-index in
    let at = c.loop-column.at in
    let column = c.column-item.result in
    let end = c.in-Some.end in
    let v = value_of_ref c.in-Some.value in
    let rest_is = c.tail.ensures in
    let ends : EndsPlain (drop at text) end = subst (λ (l : List ℕ). EndsPlain l end) rest_is c.in-Some.ensures.ends in
    let field : EncodesValue columns text i at end v = record {
      column = column;
      inside = c.loop-column-test.true;
      is_column = sym c.column-item.is;
      within = c.if-at-text.false;
      ends = ends;
      value = ap (λ (l : List ℕ). value_of column.kind (take end l)) (sym rest_is) ∙ c.in-Some.ensures.value;
    } in
    record {
      within = omega (arith, field.within, ends.within, length-drop at text);
      so_far = subst (λ (row : List Value). ReadTo columns text row (i + 1) (at + (end + 1))) (sym c.in_ok-push.ensures.ok) (read_more c.loop-column.invariant.so_far field);
    }

pub returns : goal.returns
returns c = read_columns c.args.columns.now c.args.text.now c.loop-column.row c.loop-column.column-index c.loop-column.at c.loop-column.invariant.so_far (omega arith)
