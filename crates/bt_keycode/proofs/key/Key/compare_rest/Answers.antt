use Rattle.std.proofs.Common.{◌≤◌, length, rules}
use Rattle.bt_keycode.proofs.Prefixes.{lengths_decide}
use Rattle.bt_keycode.proofs.key.Key.compare_rest.Goals as goal

pub returns-then-len-le-SHORT_KEY-2 : goal.returns-then-len-le-SHORT_KEY-2
returns-then-len-le-SHORT_KEY-2 c =
    let few : length c.args.self.now ≤ 22 = search rules in
    let less : length c.args.other.now ≤ 22 = search rules in
    let decided = lengths_decide 22 c.args.self.now c.args.other.now few less c.requires in
    cc
