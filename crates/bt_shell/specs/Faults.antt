-- Where a fault stops a run: how many commands have their whole replies, and which table is left.
use Rattle.std.specs.Prelude.{ℕ, ◌≡◌, ◌≤◌, ◌+◌, ◌⊎◌, List, length, take, Some, Ok, Err}
use Rattle.bt_value.specs.declared.refusal.Refusal.TheVariants.{Failed, TableExists}
use Rattle.bt_script.specs.Commands.{Answer, commands}
use Rattle.bt_script.specs.declared.command.Command.TheVariants.{Table}
use Rattle.bt_table.specs.Tables.{Lost}
use Rattle.bt_shell.specs.declared.log.ReplyKind.{ReplyKind}
use Rattle.bt_shell.specs.Logs.{logged}
use Rattle.bt_shell.specs.Replies.{refused_text}
use Rattle.bt_shell.specs.Runs.{after_commands, replies}
use Rattle.bt_shell.specs.Steps.{State}

-- the table that is left is the one after the first n commands, the one after n + 1, or lost
abbrev pub IsLeftAfter : State → State → List Answer → ℕ → Type 0
IsLeftAfter begin left answers n = (left ≡ after_commands begin (take n answers)) ⊎ (left ≡ after_commands begin (take (n + 1) answers)) ⊎ (left ≡ Some Lost)

-- `AreWritten` says what it means that some bytes were written
module _ (AreWritten : List ℕ → Type 0) where
  -- Between two replies: the whole replies to the first n commands of a script are written, and the table is the one after n or n + 1 commands, or lost.
  abbrev pub StopsBetweenReplies : State → State → List ℕ → Type 0
  StopsBetweenReplies begin left script = (n : ℕ) × AreWritten (replies begin (take n (commands script))) × IsLeftAfter begin left (commands script) n

  -- Within a reply: the table is the one after n + 1 commands of a script, and the first k bytes of their replies are written. These include the whole replies
  -- to the first n commands.
  abbrev pub StopsWithinReply : State → State → List ℕ → Type 0
  StopsWithinReply begin left script =
      (n : ℕ) × (left ≡ after_commands begin (take (n + 1) (commands script)))
      × ((k : ℕ) × (length (replies begin (take n (commands script))) ≤ k) × AreWritten (take k (replies begin (take (n + 1) (commands script)))))

-- After a fault, a log has the first n commands of a script: the whole replies to them are written, and the first bytes of the reply to the next command, perhaps
-- all of them.
module _ {L : Type 0} (added : L → ℕ → ReplyKind → L) (AreWritten : List ℕ → Type 0) where
  abbrev pub LogsWholeReplies : L → L → ℕ → State → List ℕ → Type 0
  LogsWholeReplies old new at begin script =
      (n : ℕ) × (new ≡ logged added old at begin (take n (commands script)))
      × ((k : ℕ) × (length (replies begin (take n (commands script))) ≤ k) × AreWritten (take k (replies begin (take (n + 1) (commands script)))))

-- the reply of a lost table: each command except `table` is refused as Failed, and a wrong line is refused as always
abbrev pub lost_reply : Answer → List ℕ
lost_reply (Err refusal) = refused_text refusal
lost_reply (Ok (Table form)) = refused_text TableExists
lost_reply (Ok other) = refused_text Failed
