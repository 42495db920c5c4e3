use Rattle.bt_keycode.proofs.Prefixes.{padded_decided, padded_tied}
use Rattle.bt_keycode.proofs.key.Key.compare.Goals as goal

pub compare_rest-requires : goal.compare_rest-requires
compare_rest-requires c =
    padded_tied 22 _ _ c.padded.result.now c.padded-2.result.now c.args.self.now c.args.other.now c.compare_short.result
    c.padded.ensures.bytes c.padded-2.ensures.bytes c.padded.ensures.room c.padded-2.ensures.room c.compare_short.ensures c.in-Equal.is

pub returns-in_default : goal.returns-in_default
returns-in_default c =
    padded_decided 22 _ _ c.padded.result.now c.padded-2.result.now c.args.self.now c.args.other.now c.compare_short.result
    c.padded.ensures.bytes c.padded-2.ensures.bytes c.padded.ensures.room c.padded-2.ensures.room c.compare_short.ensures c.in_default.not-Equal
