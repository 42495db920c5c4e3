use Rattle.bt_c.proofs.answered.Goals as goal

pub returns : goal.returns
returns c =
    let by = c.question_reply.ensures in
    record {
      closed = by.closed;
      ends = by.ends;
      done = by.done;
      refused = by.refused;
      unanswered = by.unanswered;
      unmarked = by.unmarked;
      certain = by.certain;
      table = by.table;
      file = by.file;
    }
