use Rattle.std.proofs.Common.{rules, ◌≡◌, [], arith, get_or, length}
use Rattle.bt_load.specs.Steps.{IsKeyOrNone, no_key}
use Rattle.bt_load.proofs.Pieces.{in_piece}
use Rattle.bt_load.proofs.loading.InThreadsLoading.encode_keys.Goals as goal

pub returns-clause-encoded : goal.returns-clause-encoded
returns-clause-encoded g c k low =
    let same : length c.par_chunks_mut_for_each.new.s ≡ length c.args.placed.now = search rules in
    let at = (c.par_chunks_mut_for_each.ensures.by_index k no_key (omega (arith, low, same))).1 in
    let inside = at.offset_in_chunk in
    let long = at.call.0 in
    in_piece (λ n. IsKeyOrNone c.args.keys (get_or c.args.rows.now n []) n) at.after_call.now at.start at.offset k no_key _
    at.start_plus_offset (omega (arith, inside, long)) at.call.1 at.new_element
