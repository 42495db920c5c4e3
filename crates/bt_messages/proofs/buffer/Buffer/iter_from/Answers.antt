use Rattle.std.proofs.Common.{◌∙◌, ap, drop, rules, sym}
use Rattle.bt_keycode.specs.Keys.{IsSorted}
use Rattle.bt_messages.proofs.Cuts.{tail_sorted}
use Rattle.bt_messages.proofs.buffer.Buffer.iter_from.Goals as goal

pub of_sorted-requires : goal.of_sorted-requires
of_sorted-requires g c =
    let same = c.deref.ensures.value ∙ sym c.as_slice.ensures.value in
    let sorted : IsSorted c.as_slice.result.now = search rules in
    tail_sorted c.args.key.now c.as_slice.result.now _ c.count_before-place.result sorted (ap (drop c.count_before-place.result) same ∙ c.count_before-place.ensures.from)
