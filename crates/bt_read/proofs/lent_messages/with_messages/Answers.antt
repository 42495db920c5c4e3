use Rattle.std.proofs.Common.{◌≡◌, ◌∙◌, [], rules}
use Rattle.bt_keycode.specs.Keys.{Key}
use Rattle.bt_message.specs.declared.message.Message.{Message}
use Rattle.bt_read.proofs.lemmas.code.LentMessages.{AreMoved, merge_end, merge_step, rest_sorted_from}
use Rattle.bt_read.proofs.lent_messages.with_messages.Goals as goal

pub loop-key-preserved : goal.loop-key-preserved
loop-key-preserved g c =
    let o : Key × Message g.row.V.Denot g.row.V-Delta.Denot = (c.in-Some.key.now, c.in-Some.message.now) in
    let move : AreMoved o c.loop-key.newer c.move_before.new.others c.loop-key.messages c.push.new.self = record {
      moved = c.move_before.new.self;
      moved_are = c.in_ok-move_before.ensures.moved;
      left_are = c.in_ok-move_before.ensures.left;
      pushed = c.in_ok-push.ensures;
    } in
    record {
      wanted = merge_step o c.next.new.self c.in-Some.ensures.steps c.loop-key.invariant.sorted c.loop-key.invariant.wanted move;
      sorted = rest_sorted_from c.in-Some.key.now c.loop-key.newer c.move_before.new.others c.loop-key.invariant.sorted c.in_ok-move_before.ensures.left;
    }

pub returns : goal.returns
returns g c =
    let none : c.loop-key.key-iterator ≡ [] = search rules in
    c.in_ok-append.ensures ∙ merge_end c.loop-key.key-iterator c.loop-key.newer c.loop-key.messages _ none c.loop-key.invariant.sorted c.loop-key.invariant.wanted
