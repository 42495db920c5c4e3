use Rattle.std.proofs.Common.{◌≤◌, ℕ, length, subst}
use Rattle.bt_durable.proofs.RestoredRequests.{all_restored}
use Rattle.bt_durable.proofs.once.compact_once.Goals as goal

pub returns-clause-restores : goal.returns-clause-restores
returns-clause-restores g c =
    let s = g.S.Service in
    let known = c.once.inside.known in
    let valid = c.len-count.ensures.valid in
    all_restored s.after s.reply s.changes s.blank c.compact.new.self known.entries c.in-Ok.frames.items c.in_ok-all.all.items c.in-Ok.ensures.frames
    c.in-Ok.ensures.kept valid.0 (subst (λ (most : ℕ). length known.entries ≤ most) c.once.invariant valid.1) c.in_ok-all.ensures.restores
