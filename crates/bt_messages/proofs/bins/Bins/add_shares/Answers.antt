use Rattle.std.proofs.Common.{◌∙◌, ap, length, map, sym}
use Rattle.bt_messages.specs.Bins.{each_with}
use Rattle.bt_messages.specs.Parts.{parted, total}
use Rattle.bt_messages.specs.Shares.{counts}
use Rattle.bt_messages.proofs.Errors.{at_error}
use Rattle.bt_messages.proofs.bins.Bins.add_shares.Goals as goal

pub add_shares-requires-clause-len : goal.add_shares-requires-clause-len
add_shares-requires-clause-len g c = c.requires.len ∙ sym (ap length c.self.view_is)

pub invariant_of-self : goal.invariant_of-self
invariant_of-self g c = c.self.invariant ∙ sym (ap (λ buffers. total (map length buffers)) c.in_err-add_shares.ensures.err)

pub returns-in_err-add_shares-clause-err : goal.returns-in_err-add_shares-clause-err
returns-in_err-add_shares-clause-err g c = at_error c.from_residual.result (c.in_err-add_shares.ensures.err ∙ c.self.view_is)

pub returns-in_err-add_shares-clause-err_stream : goal.returns-in_err-add_shares-clause-err_stream
returns-in_err-add_shares-clause-err_stream g c = at_error c.from_residual.result c.in_err-add_shares.ensures.err_stream

pub invariant_of-self-2 : goal.invariant_of-self-2
invariant_of-self-2 g c = c.count_all-self-inside.ensures ∙ ap (λ buffers. total (map length buffers)) c.as_slice.ensures.value

pub returns-clause-added : goal.returns-clause-added
returns-clause-added g c = c.in_ok-add_shares.ensures.added ∙ ap (each_with (parted (counts c.args.shares.now) c.args.stream.now)) c.self.view_is

pub returns-clause-left : goal.returns-clause-left
returns-clause-left g c = c.in_ok-add_shares.ensures.left
