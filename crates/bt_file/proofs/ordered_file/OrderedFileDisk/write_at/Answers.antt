use Rattle.std.proofs.Common.{rules, true, refl}
use Rattle.bt_journal.specs.declared.disk.HostCall.TheVariants as host
use Rattle.bt_file.specs.Calls.{events_of}
use Rattle.bt_file.specs.declared.calls.Call.TheVariants.{Written}
use Rattle.bt_file.proofs.DueCalls.{one_more}
use Rattle.bt_file.proofs.ordered_file.OrderedFileDisk.write_at.Goals as goal

pub invariant_of-self-2 : goal.invariant_of-self-2
invariant_of-self-2 c =
    one_more c.self.inside.pending.items c.push_reserved.new.self.items (events_of c.self.inside.calls) (events_of c.note-2.new.self) (host.Write c.args.at c.args.bytes)
    (Written c.args.at true, c.args.bytes) c.self.invariant (refl, refl) refl refl (search rules) c.note-2.ensures
