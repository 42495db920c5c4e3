use Rattle.std.proofs.Common.{◌≡◌, ◌+◌, ap, length, rules}
use Rattle.bt_messages.proofs.Sharing.{new_room}
use Rattle.bt_messages.proofs.buffer.Buffer.room_with.Goals as goal

pub returns : goal.returns
returns g c =
    let len : c.len.result ≡ length c.self.inside.messages.items = search rules in
    rw (← c.self.view_is) (new_room c.with_capacity.result c.args.more (c.len.result + c.args.more) c.self.inside.messages.items
    (ap (λ n. n + c.args.more) len) c.with_capacity.ensures.items c.with_capacity.ensures.capacity)
