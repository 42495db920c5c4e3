use Rattle.std.proofs.Common.{◌∙◌, ◌-◌, ◌++◌, ℕ, List, ap, drop, length, rules, slice_index_or, take}
use Rattle.std.proofs.lemmas.List.{take_rest}
use Rattle.std.specs.Int.{from_le_bytes, w64}
use Rattle.bt_durable.proofs.KnownRequests.{known_is}
use Rattle.bt_durable.proofs.once.known_in.Goals as goal

pub returns : goal.returns
returns c =
    let payload = c.args.payload.now in
    known_is payload c.id_at.result c.number_at.result (slice_index_or payload 24 0) c.extend_from_slice.new.self.items (search rules) c.id_at.ensures
    (c.number_at.ensures ∙ ap (from_le_bytes w64) (take_rest payload 16)) (search rules)
    (c.in_ok-extend_from_slice.ensures.items ∙ ap (λ (l : List ℕ). l ++ take (length payload - 25) (drop 25 payload)) c.new-reply.ensures.items ∙ take_rest payload 25)
