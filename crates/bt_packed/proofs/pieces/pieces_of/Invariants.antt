use Rattle.std.proofs.Common.{List, ◌≤◌, ◌++◌, length}
use Rattle.std.specs.List.{All}
use Rattle.bt_packed.specs.Pieces.{AreInRow, IsWithin}
use Rattle.bt_packed.specs.declared.pieces.ChangePiece.{ChangePiece}
use Rattle.bt_packed.proofs.pieces.pieces_of.Given as goal

-- the pieces so far, before any others that are in a row from here on, are in a row
abbrev pub invariant-loop-left : goal.invariant-loop-left
invariant-loop-left l = record {
  row : (others : List ChangePiece) → AreInRow l.start l.left others (length l.bytes) → AreInRow 0 l.fn.count (l.pieces.items ++ others) (length l.bytes);
  within : All (IsWithin l.bytes) l.pieces.items;
  start : l.start ≤ length l.bytes;
}

abbrev pub decreases-loop-left : goal.decreases-loop-left
decreases-loop-left l = l.left
