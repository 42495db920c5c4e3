use Rattle.std.proofs.Common.{◌+◌, refl, sym}
use Rattle.std.proofs.lemmas.List.{append-nil}
use Rattle.bt_script.specs.Lines.{lines}
use Rattle.bt_script.proofs.LinePieces.{lines-split}
use Rattle.bt_script.proofs.line_pieces.split_lines.Goals as goal

pub returns-in-Some : goal.returns-in-Some
returns-in-Some c =
    let place = c.in-Some.place in
    lines-split c.args.text.now c.args.least place (c.args.least + place + 1) c.requires c.in-Some.ensures.0.high c.in-Some.ensures.1 refl

pub returns-in-None : goal.returns-in-None
returns-in-None c = sym (append-nil (lines c.args.text.now))
