use Rattle.std.proofs.Common.{◌≡◌, false, rules}
use Rattle.std.specs.Option.{option_copied}
use Rattle.bt_keycode.specs.Keys.{is_before_upper}
use Rattle.bt_read.proofs.lemmas.code.LentMessages.{first_stops}
use Rattle.bt_read.proofs.lent_messages.LentMessages.next_before.Goals as goal

pub returns-then-not-lies_before-clause-none : goal.returns-then-not-lies_before-clause-none
returns-then-not-lies_before-clause-none g c =
    let past : is_before_upper (option_copied c.args.high) c.in_ok-first.first.now.key.now ≡ false = search rules in
    first_stops (λ m. (m.key.now, m.message.now)) c.self.inside.messages.items c.in_ok-first.first.now c.args.self.now (option_copied c.args.high)
    c.self.view_is c.in_ok-first.ensures.lookup c.requires past
