use Rattle.bt_gang.proofs.run_room.Places.new.Goals as goal

pub returns : goal.returns
returns g c = record {
  slots = c.in_ok-empty_places.ensures;
  taken = (c.in_ok-with_capacity.ensures.items, c.in_ok-with_capacity.ensures.capacity);
  done = (c.in_ok-with_capacity-2.ensures.items, c.in_ok-with_capacity-2.ensures.capacity);
}
