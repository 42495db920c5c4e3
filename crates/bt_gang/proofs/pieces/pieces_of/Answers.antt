use Rattle.std.proofs.Common.{rules, ◌≡◌, ◌≤◌, ◌+◌, ◌-◌, ◌/◌, length, refl, arith}
use Rattle.bt_gang.proofs.PieceLists.{all_items, items_left, next_start, row_more}
use Rattle.bt_gang.proofs.EvenPieces.{even_more, first_rest, last_part, next_rest}
use Rattle.bt_gang.proofs.pieces.pieces_of.Goals as goal

pub loop-place-init : goal.loop-place-init
loop-place-init g c = record {
  whole = search rules;
  start = search rules;
  row = search rules;
  within = search rules;
  even = search rules;
  rest = first_rest (length c.args.items.now) c.args.count _ _ c.requires.some (omega (arith, c.requires.some)) (omega arith);
  number = search rules;
  capacity = search rules;
}

pub loop-place-preserved : goal.loop-place-preserved
loop-place-preserved g c =
    let all = c.args.items.now in
    let start = c.loop-place.start in
    let end = start + (length all - start) / (c.args.count - c.loop-place.place + 1) in
    let ordered : start ≤ end = search rules in
    let within : end ≤ length all = search rules in
    let pieces = c.loop-place.pieces.items in
    let more = c.push_reserved.new.self.items in
    let piece = c.piece_at.result in
    let is = c.push_reserved.ensures.items in
    let i = c.loop-place.invariant in
    let share = length all / c.args.count in
    let next = next_rest share c.args.count c.loop-place.place start end (length all) (search rules) ordered refl i.rest in
    record {
      whole = items_left all start end pieces more piece is ordered c.piece_at.ensures.items i.whole;
      start = next_start all start end pieces more piece is ordered c.piece_at.ensures.items i.whole within;
      row = row_more all start end pieces more piece is i.row i.start c.piece_at.ensures.before;
      within = within;
      even = even_more share start end all pieces more piece is c.piece_at.ensures.items within i.even next.0;
      rest = next.1;
      number = search rules;
      capacity = search rules;
    }

pub returns-clause-whole : goal.returns-clause-whole
returns-clause-whole g c =
    let all = c.args.items.now in
    let i = c.loop-place.invariant in
    all_items all c.loop-place.start (length all) c.loop-place.pieces.items c.push_reserved-2.new.self.items c.piece_at-2.result
    c.push_reserved-2.ensures.items i.within c.piece_at-2.ensures.items i.whole refl

pub returns-clause-row : goal.returns-clause-row
returns-clause-row g c =
    let i = c.loop-place.invariant in
    row_more c.args.items.now c.loop-place.start (length c.args.items.now) c.loop-place.pieces.items c.push_reserved-2.new.self.items c.piece_at-2.result
    c.push_reserved-2.ensures.items i.row i.start c.piece_at-2.ensures.before

pub returns-clause-even : goal.returns-clause-even
returns-clause-even g c =
    let all = c.args.items.now in
    let i = c.loop-place.invariant in
    let share = length all / c.args.count in
    let places : c.args.count - c.loop-place.place + 1 ≡ 1 = search rules in
    even_more share c.loop-place.start (length all) all c.loop-place.pieces.items c.push_reserved-2.new.self.items c.piece_at-2.result
    c.push_reserved-2.ensures.items c.piece_at-2.ensures.items (omega arith) i.even (last_part share _ _ places i.rest)
