-- How contracts see borrowed actions.
use Rattle.bt_row.specs.Arithmetic as arithmetic
use Rattle.bt_row.specs.declared.operations.op.Action as lent_action
use Rattle.bt_row.specs.declared.operations.op.Action.TheVariants as action

-- what an operation does, from what its reference holds
abbrev pub action_of_ref : lent_action.Action → arithmetic.Action
action_of_ref (action.Set place new) = arithmetic.Sets place new.now
action_of_ref (action.Make how place n) = arithmetic.Makes how place n
