use Rattle.std.proofs.Common.{[], get_or}
use Rattle.bt_keycode.specs.Keys.{AllFrom, IsSorted}
use Rattle.bt_message.specs.Effects.{effect_of}
use Rattle.bt_read.specs.inside.ValuesSoFar.{BeginsWith}
use Rattle.bt_read.proofs.lemmas.code.LookupPath.{LeadsTo}
use Rattle.bt_read.proofs.lookup.since_reset.Given as goal

-- the messages after the last reset so far, and those that are still to be read
abbrev pub invariant-loop-at : goal.invariant-loop-at
invariant-loop-at g l = record {
  next : (goal.iterator-loop-at g).can_next l.rest;
  finite : (goal.iterator-loop-at g).is_finite l.rest;
  value : BeginsWith (effect_of g.V.Merge.terms.merged) l.key (get_or l.bins l.place []) l.start l.left;
  from : AllFrom l.key l.left;
  sorted : IsSorted l.left;
  rest : LeadsTo (effect_of g.V.Merge.terms.merged) l.key (get_or l.bins l.place []) l.rest;
  rest_from : AllFrom l.key l.rest;
  rest_sorted : IsSorted l.rest;
}
