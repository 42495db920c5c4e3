-- A slot owns what the box of its session owns, and a session may go to another thread.
use mir.Raw.{raw}
use base.Fraction.{full_share}
use base.Shift.{Keyless}
use denote.Memory.{lone}
use denote.RawPtr.{Ptr, block_ptr, null_ptr}
use denote.Param.Send.{IsSend, owning_send, part_keyless, sendable}
use Rattle.std.specs.Box.Ownership.{box_owns}
use Rattle.std.specs.declared.alloc.Global.{Global}
use Rattle.std.specs.declared.option.Option.{Option}
use Rattle.std.specs.declared.option.Option.TheVariants.{None, Some}
use Rattle.std.specs.contracts.impls.GlobalAllocator.TheImpl.{ghosts}
use Rattle.std.proofs.Crossing.{frees}
use Rattle.bt_c.specs.Owned.{owned}
use Rattle.bt_c.specs.contracts.session.Session as session
use Rattle.bt_c.specs.contracts.slot.Slot.{the_row, the_type}
use Rattle.bt_c.specs.declared.session.Session.{Session}
use Rattle.bt_c.proofs.Crossing as crossing

box_keyless : (at : Ptr) (heap : Global) (value : Session) → Keyless (box_owns (ghosts.dealloc_token heap) session.the_row at value)
box_keyless (block_ptr b o) heap value = (part_keyless session.the_row crossing.session full_share value b o, frees.frees heap (raw (lone session.the_row.mir)) (block_ptr b o))
box_keyless null_ptr heap value = (tt, frees.frees heap (raw (lone session.the_row.mir)) null_ptr)

owned_keyless : (at : Ptr) (heap : Global) (value : Option Session) → Keyless (owned at heap value)
owned_keyless at heap None = tt
owned_keyless at heap (Some value) = box_keyless at heap value

pub send : IsSend the_row
send = owning_send the_type (search sendable, (search sendable, tt)) (λ d. owned_keyless d.at d.heap d.value) (λ k x w. tt)
