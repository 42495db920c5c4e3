use Rattle.std.proofs.Common.{◌≡◌, ◌<◌, false, length}
use Rattle.bt_script.specs.Streams.{has_failed, has_unflushed}
use Rattle.bt_frame.proofs.offered.Exchanges.{HasServed}
use Rattle.bt_frame.proofs.service.serve.Given as goal

-- some of what arrived has its replies
abbrev pub invariant-exchanges : goal.invariant-exchanges
invariant-exchanges g l = record {
  so_far : HasServed g.S.Service.after g.S.Service.reply g.R.Read.remaining g.W.Write.contents l.most l.fn.service g.S.Service.changes
      l.fn.reader l.reader l.fn.writer l.writer l.service l._count l.is_change;
  reads : has_failed l.reader ≡ false;
  writes : has_failed l.writer ≡ false;
  flushed : has_unflushed l.writer ≡ false;
  piece : 0 < length l.buffers.piece.items;
}
