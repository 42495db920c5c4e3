use Rattle.std.proofs.Common.{length, subst, sym}
use Rattle.bt_fanout.specs.Entries.{IsWithin}
use Rattle.test_calls.proofs.indexes.filtered_entry.Goals as goal

pub entry-found-requires : goal.entry-found-requires
entry-found-requires c = subst (λ values. IsWithin c.in_ok-def.def (length values)) (sym c.in_ok-row.ensures) c.in_ok-def.ensures.within
