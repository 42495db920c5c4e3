use Rattle.std.proofs.Common.{◌≡◌, ◌++◌}
use Rattle.std.specs.Prelude.{flat_map}
use Rattle.bt_form.specs.Walks.{messages_of}
use Rattle.bt_show.specs.Images.{message_line}
use Rattle.bt_show.proofs.tree_image.write_messages.Given as goal

-- the lines so far, followed by those of the messages that are left
abbrev pub invariant-loop-key : goal.invariant-loop-key
invariant-loop-key g l =
    let line = message_line (g.D.Drawing.value_text l.drawing) (g.D.Drawing.delta_text l.drawing) l.indent in
    l.out.items ++ flat_map line l.key-iterator ≡ l.fn.out.items ++ flat_map line (messages_of l.walk)
