use Rattle.std.proofs.Common.{◌≡◌, [], rules}
use Rattle.std.proofs.lemmas.List.Elements.{All-push, All-same}
use Rattle.bt_gang.specs.declared.answers.Answers.{Answers}
use Rattle.bt_gang.specs.Numbered.{present}
use Rattle.bt_gang.proofs.run_room.empty_answers.Goals as goal

pub loop-preserved : goal.loop-preserved
loop-preserved g c =
    let P : Answers g.row.D.Denot g.row.F.Denot → Type 0 = λ a. (present a.list ≡ []) × (a.spare ≡ c.args.n) in
    record {
      each = All-same P _ _ c.push_reserved.ensures.items (All-push P c.loop.answers.items _ c.loop.invariant.each c.in_ok-new.ensures);
      count = search rules;
      room = search rules;
    }
