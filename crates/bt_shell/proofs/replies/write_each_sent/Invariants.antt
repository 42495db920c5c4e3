use Rattle.std.proofs.Common.{◌≡◌, ◌++◌, drop}
use Rattle.std.specs.Prelude.{flat_map}
use Rattle.bt_shell.specs.Replies.{sent_text}
use Rattle.bt_shell.proofs.replies.write_each_sent.Given as goal

-- those so far, followed by those of the indexes that are left
abbrev pub invariant-loop-one : goal.invariant-loop-one
invariant-loop-one l = l.out.items ++ flat_map sent_text (drop l.one-index l.sent) ≡ l.fn.out.items ++ flat_map sent_text l.sent
