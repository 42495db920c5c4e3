use Rattle.std.proofs.Common.{rules, ◌≡◌, [], arith, get_or, length}
use Rattle.bt_load.specs.Steps.{IsRowOrNone}
use Rattle.bt_load.proofs.Pieces.{in_piece}
use Rattle.bt_load.proofs.loading.InThreadsLoading.type_records.Goals as goal

pub returns-clause-typed : goal.returns-clause-typed
returns-clause-typed g c k low =
    let same : length c.par_chunks_mut_for_each.new.s ≡ length c.args.rows.now = search rules in
    let at = (c.par_chunks_mut_for_each.ensures.by_index k [] (omega (arith, low, same))).1 in
    let inside = at.offset_in_chunk in
    let long = at.call.0 in
    in_piece (λ n. IsRowOrNone c.args.schema.now.columns (get_or c.args.records.now n [])) at.after_call.now at.start at.offset k [] _
    at.start_plus_offset (omega (arith, inside, long)) at.call.1 at.new_element
