use Rattle.std.proofs.Common.{◌≡◌, Some, length, map, subst}
use Rattle.std.specs.Prelude.{IfSome}
use Rattle.bt_packed.specs.Pieces.{AreInRow, reading_of}
use Rattle.bt_packed.proofs.PieceReadings.{packet_of_schema, packets_joined}
use Rattle.bt_packed.proofs.pieces.read_pieces.Goals as goal

pub returns-in_ok-merged-in-Some-3-clause-read : goal.returns-in_ok-merged-in-Some-3-clause-read
returns-in_ok-merged-in-Some-3-clause-read g c =
    let schema = c.args.schema.now in
    let bytes = c.in-Some.changes.now in
    let count = c.in-Some.count in
    let pieces = c.in-Some-2.pieces.items in
    let readings = c.in_ok-readings.readings.items in
    let packets = c.in-Some-3.packets.items in
    let row = subst (λ found. IfSome found (λ pieces. AreInRow 0 count pieces.items (length bytes))) c.in-Some-2.is c.in_ok-pieces.ensures.row in
    let read : readings ≡ map (reading_of schema bytes) pieces = c.in_ok-readings.ensures.values (reading_of schema bytes) (λ job d is. is.0) in
    let all = subst (λ found. IfSome found (λ packets. readings ≡ map Some packets.items)) c.in-Some-3.is c.in_ok-packets.ensures in
    packets_joined schema bytes c.args.bytes.now pieces readings packets c.in_ok-merged-in-Some-3.field-0 count c.in-Some.ensures row read all c.in_ok-merged-in-Some-3.ensures

pub returns-in_ok-merged-in-Some-3-clause-of_schema : goal.returns-in_ok-merged-in-Some-3-clause-of_schema
returns-in_ok-merged-in-Some-3-clause-of_schema g c =
    let readings = c.in_ok-readings.readings.items in
    let all = subst (λ found. IfSome found (λ packets. readings ≡ map Some packets.items)) c.in-Some-3.is c.in_ok-packets.ensures in
    packet_of_schema c.args.schema.now readings c.in-Some-3.packets.items c.in_ok-merged-in-Some-3.field-0 all (λ n reading is. (c.in_ok-readings.ensures.answered.1 n reading is).2.1)
    c.in_ok-merged-in-Some-3.ensures
