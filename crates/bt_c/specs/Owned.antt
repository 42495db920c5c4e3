-- What a slot owns, and the session of a handle.
use base.Fml.{Fml, ftrue}
use base.Stored.{Coded}
use denote.RawPtr.{Ptr}
use Rattle.std.specs.Coded.{coded_option}
use Rattle.std.specs.Box.Ownership.{box_owns}
use Rattle.std.specs.declared.alloc.Global.{Global}
use Rattle.std.specs.declared.option.Option.{Option}
use Rattle.std.specs.declared.option.Option.TheVariants.{None, Some}
use Rattle.std.specs.contracts.impls.GlobalAllocator.TheImpl.{ghosts}
use Rattle.bt_c.specs.contracts.session.Session.{the_row}
use Rattle.bt_c.specs.declared.session.Session.{Session}

-- nothing is owned if there is no session, and otherwise what a box of the session owns
abbrev pub owned : Ptr → Global → Option Session → Fml
owned at heap None = ftrue
owned at heap (Some session) = box_owns (ghosts.dealloc_token heap) the_row at session

abbrev pub session_coded : Coded (Option Session)
session_coded = coded_option the_row.coded
