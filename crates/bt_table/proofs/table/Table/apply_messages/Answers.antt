use Rattle.std.proofs.Common.{sym, subst}
use Rattle.bt_messages.proofs.offered.Pieces.{sorted_batch-sorted}
use Rattle.bt_table.specs.inside.Parts.{AreSoundParts}
use Rattle.bt_table.proofs.Steps.{each_has_packet, fit_as_held, messages_are_step, messages_keep_sound, suit}
use Rattle.bt_table.proofs.table.Table.apply_messages.Goals as goal

pub fan_out-requires-clause-suits : goal.fan_out-requires-clause-suits
fan_out-requires-clause-suits g c =
    let fit = fit_as_held c.self.inside.schema c.self.inside.heads.items c.self.inside.trees c.in-Some.trees c.in-Some.is c.args.self.now c.self.view_is
    c.args.packet c.requires.suits in
    rw (c.as_slice.ensures.value)
    (suit c.self.inside.schema c.self.inside.heads.items c.self.inside.trees c.in-Some.trees c.in-Some.is c.self.invariant c.args.packet
    (sorted_batch-sorted c.args.packet c.iter-sorted.ensures.sorted) fit)

pub sunk_all-requires-clause-same : goal.sunk_all-requires-clause-same
sunk_all-requires-clause-same g c =
    let fit = fit_as_held c.self.inside.schema c.self.inside.heads.items c.self.inside.trees c.in-Some.trees c.in-Some.is c.args.self.now c.self.view_is
    c.args.packet c.requires.suits in
    let packets = rw (c.as_slice.ensures.value) at c.in_ok-packets.ensures.packets in
    each_has_packet c.self.inside.schema c.self.inside.heads.items c.self.inside.trees c.in-Some.trees c.in-Some.is c.self.invariant c.args.packet
    (sorted_batch-sorted c.args.packet c.iter-sorted.ensures.sorted) fit _ packets _ c.take_trees-trees.ensures.taken

-- the table is lost if memory runs out
pub invariant_of-self : goal.invariant_of-self
invariant_of-self g c = subst (AreSoundParts c.self.inside.schema c.self.inside.heads.items) (sym c.take_trees-trees.ensures.none) (tt, tt)

-- the table is sound after the messages
pub invariant_of-self-2 : goal.invariant_of-self-2
invariant_of-self-2 g c =
    let fit = fit_as_held c.self.inside.schema c.self.inside.heads.items c.self.inside.trees c.in-Some.trees c.in-Some.is c.args.self.now c.self.view_is
    c.args.packet c.requires.suits in
    let packets = rw (c.as_slice.ensures.value) at c.in_ok-packets.ensures.packets in
    let sent = rw (c.as_slice.ensures.value) at c.in_ok-packets.ensures.sent in
    messages_keep_sound c.self.inside.schema c.self.inside.heads.items c.self.inside.trees c.in-Some.trees c.in-Some.is c.self.invariant c.args.packet
    (sorted_batch-sorted c.args.packet c.iter-sorted.ensures.sorted) fit _ packets _ c.take_trees-trees.ensures.taken _ sent _ _ c.put_trees.ensures
    c.in_ok-after.ensures.rows c.in_ok-after.ensures.entries

pub returns-clause-done : goal.returns-clause-done
returns-clause-done g c =
    let fit = fit_as_held c.self.inside.schema c.self.inside.heads.items c.self.inside.trees c.in-Some.trees c.in-Some.is c.args.self.now c.self.view_is
    c.args.packet c.requires.suits in
    let packets = rw (c.as_slice.ensures.value) at c.in_ok-packets.ensures.packets in
    let sent = rw (c.as_slice.ensures.value) at c.in_ok-packets.ensures.sent in
    let taken = messages_are_step c.self.inside.schema c.self.inside.heads.items c.self.inside.trees c.in-Some.trees c.in-Some.is c.self.invariant c.args.packet
    (sorted_batch-sorted c.args.packet c.iter-sorted.ensures.sorted) fit _ packets _ c.take_trees-trees.ensures.taken _ sent _ _ c.put_trees.ensures
    c.in_ok-after.ensures.rows c.in_ok-after.ensures.entries c.args.self.now c.self.view_is in
    rw c.len-count.ensures.count taken
