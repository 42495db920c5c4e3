use Rattle.std.proofs.Common.{◌≡◌, ◌≤◌, drop, length}
use Rattle.std.specs.List.{list_any}
use Rattle.bt_record.specs.inside.Pieces.{LieWithin}
use Rattle.bt_value.specs.PlainFields.{is_special}
use Rattle.bt_record.proofs.Plain.{Cut}
use Rattle.bt_record.proofs.commas.cut_plain.Given as goal

-- the parts before this place were found, and no byte before it is special
abbrev pub invariant-loop-place : goal.invariant-loop-place
invariant-loop-place l = record {
  starts : l.start ≤ l.place;
  within : LieWithin (length l.text) l.spans.items;
  parts : Cut l.text l.spans.items l.start l.place;
  plain : list_any is_special l.text ≡ list_any is_special (drop l.place l.text);
}
