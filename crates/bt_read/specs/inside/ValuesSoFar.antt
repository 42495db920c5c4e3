-- Values that are borrowed or made.
use Rattle.std.specs.Prelude.{◌≡◌, Option, Some, None}
use Rattle.bt_keycode.specs.Keys.{Key}
use Rattle.bt_message.specs.declared.message.Message.{Message}
use Rattle.bt_form.specs.Messages.{Messages, value_after}
use Rattle.bt_read.specs.declared.value_so_far.ValueSoFar.{ValueSoFar}
use Rattle.bt_read.specs.declared.value_so_far.ValueSoFar.TheVariants.{Absent, Lent, Made}

-- the value, if there is one
abbrev pub option_of : {V D : Type 0} → ValueSoFar V D → Option V
option_of Absent = None
option_of (Lent value) = Some value.now
option_of (Made value) = Some value

-- a message leaves this value at its key, for any old one
abbrev pub Resets : {V M : Type 0} → (Option V → M → Option V) → M → Option V → Type 0
Resets {V} effect m new = (old : Option V) → effect old m ≡ new

-- the start value of messages: this one if there is one, else the old one
abbrev pub start_value : {V D : Type 0} → Option (ValueSoFar V D) → Option V → Option V
start_value None old = old
start_value (Some held) old = option_of held

-- for each old value at a key, all messages give the same as those that are left, applied to the start value
abbrev pub BeginsWith : {V D : Type 0} → (Option V → Message V D → Option V) → Key → Messages (Message V D) → Option (ValueSoFar V D) → Messages (Message V D) → Type 0
BeginsWith {V} effect k ms start left = (old : Option V) → value_after effect k ms old ≡ value_after effect k left (start_value start old)
