use Rattle.std.proofs.Common.{rules, arith, subst, sym, ap, ◌∙◌, take, drop, List, ℕ, ◌+◌, ◌++◌, ◌-◌, ◌≡◌, ◌≤◌, length, take_all, length-drop, length-take}
use Rattle.std.proofs.Math.Seq.{take-add}
use Rattle.bt_script.specs.Streams.{Counts, Took}
use Rattle.bt_script.specs.declared.counted.Counted.{Counted}
use Rattle.bt_script.proofs.offered.Streams.{Took-trans}
use Rattle.bt_script.proofs.streams.write_text.Goals as goal

-- the first at + taken bytes; the taken ones come from what is left
prefix_more : (at taken : ℕ) (text : List ℕ) → take (at + taken) text ≡ take at text ++ take taken (take (length text - at) (drop at text))
prefix_more at taken text =
    let whole : take (length text - at) (drop at text) ≡ drop at text = take_all (length text - at) (drop at text) (omega (arith, length-drop at text)) in
    take-add at taken text ∙ ap (λ (l : List ℕ). take at text ++ take taken l) (sym whole)

-- this many bytes of what is left
taken_of : (at taken : ℕ) (text : List ℕ) → taken ≤ length (take (length text - at) (drop at text)) → length (take taken (take (length text - at) (drop at text))) ≡ taken
taken_of at taken text within = omega (arith, length-take taken (take (length text - at) (drop at text)))

counted : {W : Type 0} (a b : Counted W) (taken : ℕ) (last : List ℕ) → length last ≡ taken → Counts a b taken → Counts a b (length last)
counted a b taken last long count = omega arith

pub loop-at-preserved : goal.loop-at-preserved
loop-at-preserved g c =
    let at = c.loop-at.at in
    let taken = c.in-Ok.taken in
    let text = c.args.text.now in
    let last = take taken (take (length text - at) (drop at text)) in
    let took : Took g.W.Write.contents c.loop-at.writer c.write.new.self last =
    (c.in-Ok.ensures.bytes, counted c.loop-at.writer c.write.new.self taken last (taken_of at taken text c.in-Ok.ensures.bound) c.in-Ok.ensures.count) in
    let both = Took-trans g.W.Write.contents c.args.writer.now c.loop-at.writer c.write.new.self (take at text) last c.loop-at.invariant.so_far took in
    record {
      within = search rules;
      so_far = subst (λ (b : List ℕ). Took g.W.Write.contents c.args.writer.now c.write.new.self b) (sym (prefix_more at taken text)) both;
      failed = search rules;
    }
