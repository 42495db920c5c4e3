use Rattle.std.proofs.Common.{◌≡◌, ◌++◌, ◌∙◌, ap, append-nil, subst, sym}
use Rattle.bt_keycode.specs.Keys.{IsSorted}
use Rattle.bt_value.specs.Lists.{concatenation}
use Rattle.bt_messages.proofs.RunLists.{pieces_joined, sorted_left, sorted_right}
use Rattle.bt_messages.proofs.stream.Stream.messages.Goals as goal

pub of_sorted-requires : goal.of_sorted-requires
of_sorted-requires g c =
    let pieces = c.as_slices.result in
    sorted_left pieces.0.now pieces.1.now (subst IsSorted (sym c.as_slices.ensures.items) (sorted_left c.self.inside.first.items (concatenation c.self.inside.rest.items) c.self.invariant.sorted))

pub of_sorted-requires-2 : goal.of_sorted-requires-2
of_sorted-requires-2 g c =
    let pieces = c.as_slices.result in
    sorted_right pieces.0.now pieces.1.now (subst IsSorted (sym c.as_slices.ensures.items) (sorted_left c.self.inside.first.items (concatenation c.self.inside.rest.items) c.self.invariant.sorted))

pub returns : goal.returns
returns g c =
    let first = c.as_slices.result in
    let rest = c.as_slices-2.result in
    let front : c.following.result ≡ first.0.now = c.following.ensures ∙ append-nil _ ∙ c.of_sorted.ensures in
    let middle : c.following-2.result ≡ first.1.now ++ concatenation rest.0.now = c.following-2.ensures ∙ ap (λ ms. ms ++ concatenation rest.0.now) c.of_sorted-2.ensures in
    let all : c.following.result ++ (c.following-2.result ++ c.of.result) ≡ c.self.inside.first.items ++ concatenation c.self.inside.rest.items =
    rw (front, middle, c.of.ensures, ← c.as_slices.ensures.items, ← c.as_slices-2.ensures.items) (pieces_joined first.0.now first.1.now rest.0.now rest.1.now) in
    c.of-2.ensures ∙ all ∙ c.self.view_is
