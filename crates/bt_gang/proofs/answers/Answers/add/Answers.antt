use Rattle.std.proofs.Common.{◌≡◌, ◌∙◌, ◌+◌, ◌-◌, ◌^◌, ◌<◌, ◌++◌, ◌∷◌, [], List, ℕ, length, length-append, ap, arith}
use Rattle.bt_gang.proofs.Serving.{present-more, same_more}
use Rattle.bt_gang.proofs.answers.Answers.add.Goals as goal

-- a list that grew by one, with one fewer to come
still_within : {A : Type 0} (old more new : List A) (x : A) (spare : ℕ) → new ≡ old ++ more → more ≡ x ∷ [] → 0 < spare → length old + spare < 2 ^ 63 → length new + (spare - 1) < 2 ^ 63
still_within old more new x spare e f some within = let a = ap length e in let b = length-append old more in let d = ap length f in omega arith

pub returns-clause-list : goal.returns-clause-list
returns-clause-list g c = present-more c.args.self.now.list _ _ (c.join-2.ensures ∙ ap (λ l. c.args.self.now.list ++ l) c.put_first.ensures)

pub invariant_of-self-clause-room : goal.invariant_of-self-clause-room
invariant_of-self-clause-room g c = still_within c.args.self.now.list _ _ _ c.args.self.now.spare c.join-2.ensures c.put_first.ensures c.requires c.args.self.now.room

pub invariant_of-self-clause-space : goal.invariant_of-self-clause-space
invariant_of-self-clause-space g c = still_within c.args.self.now.numbers _ _ _ c.args.self.now.spare c.join.ensures c.put_first-2.ensures c.requires c.args.self.now.space

pub invariant_of-self-clause-same : goal.invariant_of-self-clause-same
invariant_of-self-clause-same g c =
    same_more _ _ _ _ _ c.args.self.now.same (c.join.ensures ∙ ap (λ l. c.args.self.now.numbers ++ l) c.put_first-2.ensures)
    (present-more c.args.self.now.list _ _ (c.join-2.ensures ∙ ap (λ l. c.args.self.now.list ++ l) c.put_first.ensures))
