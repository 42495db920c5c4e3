use Rattle.std.proofs.Common.{◌≡◌, ◌≤◌, ◌+◌, ◌-◌, ◌/◌, ◌++◌, drop, length, vec_capacity, vec_len}
use Rattle.bt_gang.specs.Pieces.{AreEven, AreInRow}
use Rattle.bt_gang.proofs.PieceLists.{items_of}
use Rattle.bt_gang.proofs.EvenPieces.{IsEvenRest}
use Rattle.bt_gang.proofs.pieces.pieces_of.Given as goal

-- the pieces so far, followed by the items that are left
abbrev pub invariant-loop-place : goal.invariant-loop-place
invariant-loop-place g l = record {
  whole : items_of l.pieces.items ++ drop l.start l.items ≡ l.items;
  start : l.start ≡ length (items_of l.pieces.items);
  row : AreInRow 0 l.pieces.items;
  within : l.start ≤ length l.items;
  even : AreEven (length l.items / l.count) l.pieces.items;
  rest : IsEvenRest (length l.items / l.count) (l.count - l.place + 1) (length l.items - l.start);
  number : vec_len l.pieces + 1 ≡ l.place;
  capacity : l.count ≤ vec_capacity l.pieces;
}
