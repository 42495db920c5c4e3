use Rattle.std.proofs.Common.{◌≡◌, ◌∙◌, None, ap, rules, subst, sym}
use Rattle.std.specs.Option.{option_copied, option_or}
use Rattle.bt_keycode.specs.Keys.{IsSorted, is_between}
use Rattle.bt_value.specs.Lists.{concatenation}
use Rattle.bt_messages.specs.Bins.{LieBetween}
use Rattle.bt_message.specs.Effects.{effect_of}
use Rattle.bt_form.specs.inside.NodeKinds.{HasBins, tree_of}
use Rattle.bt_read.proofs.lemmas.code.ChildBounds.{or_copied, present}
use Rattle.bt_read.proofs.lemmas.code.FirstChild.{FirstChild, child_and_others, child_meets, fewer_left, last_child, lower, others_meet}
use Rattle.bt_read.proofs.lemmas.code.PivotSearch.{pivots_rise}
use Rattle.bt_form.proofs.offered.keys.SortedLists.{sorted-where}
use Rattle.bt_read.proofs.lemmas.lookups.BinOfKey.{bin-there}
use Rattle.bt_read.proofs.portions.first_child.Given.{Over}
use Rattle.bt_read.proofs.portions.first_child.Goals.{After-is_none}
use Rattle.bt_read.proofs.portions.first_child.Goals as goal

pub first_place-place-requires : goal.first_place-place-requires
first_place-place-requires g c =
    pivots_rise c.portion.inside.node.now c.in-Inner.children (concatenation c.in-Inner.bins) c.pivots-pivots.result.now (c.kind.ensures.tree
    ∙ ap tree_of c.in-Inner.is) c.pivots-pivots.ensures.pivots c.portion.invariant.0

pub bin_between-requires : goal.bin_between-requires
bin_between-requires g c =
    bin-there c.pivots-pivots.result.now c.in-Inner.bins c.first_place-place.result
    (subst (λ ps. LieBetween ps c.in-Inner.bins) (sym c.pivots-pivots.ensures.pivots) (subst HasBins c.in-Inner.is c.kind.ensures.divided)) c.first_place-place.ensures.bound

pub with_messages-requires : goal.with_messages-requires
with_messages-requires g c =
    subst IsSorted (sym c.in_ok-above.ensures.taken) (sorted-where (is_between None (option_copied c.or-high.result)) c.portion.inside.newer c.portion.invariant.1)

-- the first child, from what the code knows about it before it branches
abbrev first : (g : Over) (c : After-is_none g) → FirstChild c.args.portion
first g c =
    let chosen : c.or-high.result ≡ option_or c.next_pivot-next.result c.portion.inside.high = search rules in
    record {
      low = _;
      to = _;
      tree = _;
      newer = _;
      xs = c.in-Inner.children;
      bins = c.in-Inner.bins;
      ts = c.nodes.result.now;
      ps = c.pivots-pivots.result.now;
      place = c.first_place-place.result;
      child = c.index-nodes-place.result;
      next = _;
      high = _;
      above = _;
      own = _;
      merged = _;
      seen = c.portion.view_is;
      order = c.portion.invariant.0;
      sorted = c.portion.invariant.1;
      within = c.portion.invariant.2;
      here = c.kind.ensures.tree ∙ ap tree_of c.in-Inner.is;
      lie = subst (λ ps. LieBetween ps c.in-Inner.bins) (sym c.pivots-pivots.ensures.pivots) (subst HasBins c.in-Inner.is c.kind.ensures.divided);
      items = c.nodes.ensures;
      pivots = c.pivots-pivots.ensures.pivots;
      some = c.pivots-pivots.ensures.some;
      begins = c.first_place-place.ensures.place;
      bound = c.first_place-place.ensures.bound;
      next_is = c.next_pivot-next.ensures;
      high_is = ap option_copied chosen ∙ or_copied c.next_pivot-next.result c.portion.inside.high;
      at = c.index-nodes-place.is;
      above_is = c.in_ok-above.ensures.taken;
      own_is = c.bin_between.ensures.messages;
      own_sorted = c.bin_between.ensures.sorted;
      merged_is = c.in_ok-messages.ensures;
    }

pub invariant_of-child : goal.invariant_of-child
invariant_of-child g c = child_meets (first g c.before)

pub invariant_of-child-2 : goal.invariant_of-child-2
invariant_of-child-2 g c = child_meets (first g c.before)

pub returns-then-is_none : goal.returns-then-is_none
returns-then-is_none g c =
    let none : option_copied c.next_pivot-next.result ≡ None = search rules in
    record {
      parts = last_child (first g c.before.before) (effect_of g.V.Merge.terms.merged) none;
      lower = lower (first g c.before.before);
      fewer = tt;
    }

pub invariant_of-rest : goal.invariant_of-rest
invariant_of-rest g c =
    others_meet (first g c.before) c.take_before.new.self c.in_ok-above.ensures.left (present c.next_pivot-next.result (search rules))

pub returns : goal.returns
returns g c =
    let there = present c.next_pivot-next.result (search rules) in
    record {
      parts = child_and_others (first g c.before) c.take_before.new.self c.in_ok-above.ensures.left there (effect_of g.V.Merge.terms.merged);
      lower = lower (first g c.before);
      fewer = fewer_left (first g c.before) c.take_before.new.self c.in_ok-above.ensures.left there;
    }
