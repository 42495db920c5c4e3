use Rattle.std.proofs.Common.{◌≡◌, ◌≤◌, ◌-◌, length, take, true}
use Rattle.std.specs.List.{list_all}
use Rattle.bt_value.specs.PlainFields.{is_plain}
use Rattle.bt_value.proofs.plain_fields.plain_end.Given as goal

-- the bytes before this place are plain
abbrev pub invariant-loop-end : goal.invariant-loop-end
invariant-loop-end l = record {
  within : l.end ≤ length l.text;
  plain : list_all is_plain (take l.end l.text) ≡ true;
}

abbrev pub decreases-loop-end : goal.decreases-loop-end
decreases-loop-end l = length l.text - l.end
