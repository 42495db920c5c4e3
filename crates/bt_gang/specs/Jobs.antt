-- The jobs of a call, and the passes of their queue.
use Rattle.crossbeam_queue.specs.Passes.{IsPassOf, Pass}
use Rattle.bt_gang.specs.declared.answers.AnswerRoom.{AnswerRoom}
use Rattle.bt_gang.specs.declared.jobs.Jobs.{Jobs}
use Rattle.bt_gang.specs.declared.rule.Known.{Known}
use Rattle.bt_gang.specs.declared.rule.NumberedJob.{NumberedJob}

-- the pass belongs to the queue of these jobs
abbrev pub IsJobPass : {J D F : Type 0} → Jobs J D F → Pass (NumberedJob J (AnswerRoom D F)) (Known J) → Type 0
IsJobPass jobs pass = IsPassOf jobs.queue pass
