-- What a stream gave or took in several calls, for the loops over reads and writes of this crate and of those above.
use Rattle.std.proofs.Common.{ℕ, List, [], ◌++◌, ◌≡◌, ◌≤◌, ◌-◌, ◌^◌, ◌∙◌, Option, length, take, drop, ap, sym, subst, arith, refl, length-append, append_assoc, take-append-drop}
use Rattle.std.proofs.Math.Seq.{take-length}
use Rattle.std.proofs.lemmas.List.{take_at}
use Rattle.std.proofs.KnownBytes.{Appends-kept, Appends-nil, Appends-trans, Consumes-trans}
use Rattle.std.specs.Io.KnownBytes.{Keeps}
use Rattle.bt_script.specs.Streams.{Gave, Took, TookPrefix, count_of, source_of}
use Rattle.bt_script.specs.declared.counted.Counted.{Counted}

pub Gave-trans : {R : Type 0} (remaining : R → Option (List ℕ)) (a b c : Counted R) (bs cs : List ℕ) → Gave remaining a b bs → Gave remaining b c cs → Gave remaining a c (bs ++ cs)
Gave-trans remaining a b c bs cs first second = (
  Consumes-trans (remaining (source_of a)) (remaining (source_of b)) (remaining (source_of c)) bs cs first.0 second.0,
  omega (arith, length-append bs cs, first.1, second.1),
)

-- nothing was taken
pub Took-nil : {W : Type 0} (contents : W → Option (List ℕ)) (a : Counted W) → count_of a ≤ 2 ^ 64 - 1 → Took contents a a []
Took-nil contents a held = (Appends-nil (contents (source_of a)), omega (arith, held))

pub Took-trans : {W : Type 0} (contents : W → Option (List ℕ)) (a b c : Counted W) (bs cs : List ℕ) → Took contents a b bs → Took contents b c cs → Took contents a c (bs ++ cs)
Took-trans contents a b c bs cs first second = (
  Appends-trans (contents (source_of a)) (contents (source_of b)) (contents (source_of c)) bs cs first.0 second.0,
  omega (arith, length-append bs cs, first.1, second.1),
)

-- a flush takes nothing
pub Took-kept : {W : Type 0} (contents : W → Option (List ℕ)) (a b c : Counted W) (bs : List ℕ) → Took contents a b bs
    → Keeps (contents (source_of b)) (contents (source_of c)) → count_of c ≡ count_of b → Took contents a c bs
Took-kept contents a b c bs took kept count = (
  Appends-kept (contents (source_of a)) (contents (source_of b)) (contents (source_of c)) bs took.0 kept,
  count ∙ took.1,
)

-- the part of a text that was taken is a prefix of it
pub prefix-done : {W : Type 0} (contents : W → Option (List ℕ)) (a b : Counted W) (all done rest : List ℕ) → Took contents a b done → all ≡ done ++ rest → TookPrefix contents a b all
prefix-done contents a b all done rest took whole =
    (length done, subst (λ (text : List ℕ). Took contents a b text) (sym (ap (take (length done)) whole ∙ take_at done rest (length done) refl)) took)

-- and so is that part followed by a prefix of what comes next
pub prefix-more : {W : Type 0} (contents : W → Option (List ℕ)) (a b c : Counted W) (all done text rest : List ℕ) → Took contents a b done → all ≡ done ++ (text ++ rest)
    → TookPrefix contents b c text → TookPrefix contents a c all
prefix-more contents a b c all done text rest took whole prefix =
    let n = prefix.0 in
    let parts : done ++ (text ++ rest) ≡ (done ++ take n text) ++ (drop n text ++ rest) =
    ap (λ (t : List ℕ). done ++ (t ++ rest)) (sym (take-append-drop n text))
    ∙ ap (λ (t : List ℕ). done ++ t) (append_assoc (take n text) (drop n text) rest)
    ∙ sym (append_assoc done (take n text) (drop n text ++ rest)) in
    prefix-done contents a c all (done ++ take n text) (drop n text ++ rest) (Took-trans contents a b c done (take n text) took prefix.1) (whole ∙ parts)

-- all of a text is a prefix of it
pub prefix-all : {W : Type 0} (contents : W → Option (List ℕ)) (a b : Counted W) (text : List ℕ) → Took contents a b text → TookPrefix contents a b text
prefix-all contents a b text took = (length text, subst (λ (prefix : List ℕ). Took contents a b prefix) (sym (take-length text)) took)
