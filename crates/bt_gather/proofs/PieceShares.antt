-- Trees of a round side by side: each takes its share of the pieces.
use Rattle.std.proofs.Common.{◌≡◌, ◌≤◌, ◌+◌, ◌∙◌, ℕ, zero, suc, List, [], ◌∷◌, ◌++◌, Vec, ap, add-one, append_assoc, arith, drop, length, length-take, map, refl, subst, sym, take}
use Rattle.std.proofs.Math.Seq.{take-length}
use Rattle.std.proofs.lemmas.List.{drop-append-le, drop-map, length-map, take-append-le, take-map}
use Rattle.std.proofs.lemmas.List.Elements.{All-append}
use Rattle.std.specs.Global.{Global}
use Rattle.bt_keycode.specs.Keys.{Key}
use Rattle.bt_message.specs.declared.message.Message.{Message}
use Rattle.bt_form.specs.Messages.{Meaning}
use Rattle.bt_form.specs.Trees.{Shape, Siblings, Tree}
use Rattle.bt_plan.specs.declared.job.Place as code_place
use Rattle.bt_plan.specs.Pieces.{Holed, Pieces, Place}
use Rattle.bt_plan.specs.Views.{node_place}
use Rattle.bt_gather.specs.declared.flush_work.ShapedJob.{ShapedJob}
use Rattle.bt_gather.specs.declared.round_tree.RoundTree.{RoundTree}
use Rattle.bt_gather.specs.declared.round_tree.RoundTree.TheVariants.{Whole, Cut, Dealt}
use Rattle.bt_gather.specs.Views.{pieces_of}
use Rattle.bt_gather.specs.inside.RoundJobs.{IsRunnable, all_pieces, piece_of}
use Rattle.bt_gather.specs.inside.RoundTrees.{AreFilledBy, AreJobsOf, AreJobsOfAll, IsCutFilledBy, IsDealtFilledBy, IsEmptyWithRoom, IsFilledBy, job_count, tree_with, trees_with}

-- ---- lists

drop-length : {X : Type 0} (xs : List X) → drop (length xs) xs ≡ []
drop-length [] = refl
drop-length (x ∷ xs) = drop-length xs

-- one more item is taken
taken-suc : {X : Type 0} (n : ℕ) (xs : List X) (x : X) (rest : List X) → drop n xs ≡ x ∷ rest → (take (suc n) xs ≡ take n xs ++ x ∷ []) × (drop (suc n) xs ≡ rest)
taken-suc zero [] x rest e = cc e
taken-suc zero (y ∷ ys) x rest e = (cc e, cc e)
taken-suc (suc n) [] x rest e = cc e
taken-suc (suc n) (y ∷ ys) x rest e = let more = taken-suc n ys x rest e in (ap (λ zs. y ∷ zs) more.0, more.1)

pub one_more : {X : Type 0} (n : ℕ) (xs : List X) (x : X) (rest : List X) → drop n xs ≡ x ∷ rest → (take (n + 1) xs ≡ take n xs ++ x ∷ []) × (drop (n + 1) xs ≡ rest)
one_more n xs x rest e = let more = taken-suc n xs x rest e in (ap (λ k. take k xs) (add-one n) ∙ more.0, ap (λ k. drop k xs) (add-one n) ∙ more.1)

module _ {V D : Type 0} where
  -- ---- the share of one tree

  pub take-pieces : (n : ℕ) (items : List (code_place.Place × Siblings V (Message V D))) → pieces_of (take n items) ≡ take n (pieces_of items)
  take-pieces n items = sym (take-map (λ p. (node_place p.0, p.1)) n items)

  drop-pieces : (n : ℕ) (items : List (code_place.Place × Siblings V (Message V D))) → pieces_of (drop n items) ≡ drop n (pieces_of items)
  drop-pieces n items = sym (drop-map (λ p. (node_place p.0, p.1)) n items)

  module _ (weigh : Key × Message V D → ℕ) where
    count-is : (t : RoundTree V D) (ps : Pieces V (Message V D)) → IsFilledBy weigh t ps → length ps ≡ job_count t
    count-is (Whole tree) ps e = ap length e
    count-is (Cut holed jobs room) ps e = e.count
    count-is (Dealt shape starts room) ps e = e.1.count

    few-enough : (t : RoundTree V D) (ps : Pieces V (Message V D)) → IsFilledBy weigh t (take (job_count t) ps) → job_count t ≤ length ps
    few-enough t ps e = omega (arith, count-is t _ e, length-take (job_count t) ps)

    -- the pieces that a tree that was cut takes
    module _ (t : RoundTree V D) (holed : Shape × Holed V (Message V D) Place) (jobs : ℕ) (room : Vec (code_place.Place × Siblings V (Message V D)) Global) (is : t ≡ Cut holed jobs room)
        (items : List (code_place.Place × Siblings V (Message V D))) (fill : IsFilledBy weigh t (take (job_count t) (pieces_of items))) where
      as-cut : IsCutFilledBy weigh holed jobs room (take jobs (pieces_of items))
      as-cut = subst (λ t. IsFilledBy weigh t (take (job_count t) (pieces_of items))) is fill

      pub own-room : IsEmptyWithRoom room jobs
      own-room = as-cut.roomy

      pub own-enough : jobs ≤ length items
      own-enough =
          let by_node_place : code_place.Place × Siblings V (Message V D) → Place × Siblings V (Message V D) = λ p. (node_place p.0, p.1) in
          omega (arith, as-cut.count, length-take jobs (pieces_of items), length-map items by_node_place)

      module _ (own : List (code_place.Place × Siblings V (Message V D))) (next : own ≡ take jobs items) where
        own-pieces : pieces_of own ≡ take jobs (pieces_of items)
        own-pieces = ap pieces_of next ∙ take-pieces jobs items

        pub own-fill : IsCutFilledBy weigh holed jobs room (pieces_of own)
        own-fill = subst (IsCutFilledBy weigh holed jobs room) (sym own-pieces) as-cut

        pub own-tree : tree_with (Cut holed jobs room) (pieces_of own) ≡ tree_with t (take (job_count t) (pieces_of items))
        own-tree = ap (tree_with (Cut holed jobs room)) own-pieces ∙ sym (ap (λ t. tree_with t (take (job_count t) (pieces_of items))) is)

    -- the pieces that a tree that was dealt takes
    module _ (t : RoundTree V D) (shape : Shape) (starts : Vec Key Global) (room : Vec (code_place.Place × Siblings V (Message V D)) Global) (is : t ≡ Dealt shape starts room)
        (items : List (code_place.Place × Siblings V (Message V D))) where
      pub dealt-fill : IsFilledBy weigh t (take (job_count t) (pieces_of items)) →
          IsEmptyWithRoom room (length starts.items) × IsDealtFilledBy weigh shape starts.items (take (length starts.items) (pieces_of items))
      dealt-fill = subst (λ t. IsFilledBy weigh t (take (job_count t) (pieces_of items))) is

      pub dealt-tree : tree_with (Dealt shape starts room) (take (length starts.items) (pieces_of items)) ≡ tree_with t (take (job_count t) (pieces_of items))
      dealt-tree = sym (ap (λ t. tree_with t (take (job_count t) (pieces_of items))) is)

    -- there are as many pieces as it takes
    pub dealt-enough : (shape : Shape) (starts : List Key) (items : List (code_place.Place × Siblings V (Message V D))) →
        IsDealtFilledBy weigh shape starts (take (length starts) (pieces_of items)) → length starts ≤ length items
    dealt-enough shape starts items fill =
        let by_node_place : code_place.Place × Siblings V (Message V D) → Place × Siblings V (Message V D) = λ p. (node_place p.0, p.1) in
        omega (arith, fill.count, length-take (length starts) (pieces_of items), length-map items by_node_place)

  -- one tree is put together, and the others are left
  module _ (t : RoundTree V D) (rest rest' : List (RoundTree V D)) (one : rest ≡ t ∷ rest') (items items' : List (code_place.Place × Siblings V (Message V D)))
      (left : items' ≡ drop (job_count t) items) where
    left-pieces : pieces_of items' ≡ drop (job_count t) (pieces_of items)
    left-pieces = ap pieces_of left ∙ drop-pieces (job_count t) items

    pub next-fill : (weigh : Key × Message V D → ℕ) → AreFilledBy weigh rest (pieces_of items) → IsFilledBy weigh t (take (job_count t) (pieces_of items)) × AreFilledBy weigh rest' (pieces_of items')
    next-fill weigh e = let all = subst (λ ts. AreFilledBy weigh ts (pieces_of items)) one e in (all.0, subst (AreFilledBy weigh rest') (sym left-pieces) all.1)

    pub next-trees : (trees trees' : List (Shape × Tree V (Message V D))) (u : Shape × Tree V (Message V D)) → trees' ≡ trees ++ u ∷ [] → u ≡ tree_with t (take (job_count t) (pieces_of items)) →
        (all : List (Shape × Tree V (Message V D))) → trees ++ trees_with rest (pieces_of items) ≡ all → trees' ++ trees_with rest' (pieces_of items') ≡ all
    next-trees trees trees' u pushed is all so_far =
        ap (λ ts. ts ++ trees_with rest' (pieces_of items')) pushed
        ∙ append_assoc trees (u ∷ []) (trees_with rest' (pieces_of items'))
        ∙ ap (λ ps. trees ++ u ∷ trees_with rest' ps) left-pieces
        ∙ ap (λ v. trees ++ v ∷ trees_with rest' (drop (job_count t) (pieces_of items))) is
        ∙ ap (λ ts. trees ++ trees_with ts (pieces_of items)) (sym one)
        ∙ so_far

  -- ---- one more tree

  module _ (weigh : Key × Message V D → ℕ) where
    own-all : (t : RoundTree V D) (ps : Pieces V (Message V D)) → IsFilledBy weigh t ps → (take (job_count t) ps ≡ ps) × (drop (job_count t) ps ≡ [])
    own-all t ps e =
        let n = count-is weigh t ps e in
        (ap (λ k. take k ps) (sym n) ∙ take-length ps, ap (λ k. drop k ps) (sym n) ∙ drop-length ps)

    module _ (t : RoundTree V D) (qs : Pieces V (Message V D)) (one : IsFilledBy weigh t qs) where
      fill-more : (ts : List (RoundTree V D)) (ps : Pieces V (Message V D)) → AreFilledBy weigh ts ps → AreFilledBy weigh (ts ++ t ∷ []) (ps ++ qs)
      fill-more [] ps none =
          let mine = own-all t qs one in
          subst (λ ps. AreFilledBy weigh (t ∷ []) (ps ++ qs)) (sym none) (subst (IsFilledBy weigh t) (sym mine.0) one, mine.1)
      fill-more (x ∷ ts) ps all =
          let few = few-enough weigh x ps all.0 in (
            subst (IsFilledBy weigh x) (sym (take-append-le (job_count x) ps qs few)) all.0,
            subst (AreFilledBy weigh (ts ++ t ∷ [])) (sym (drop-append-le (job_count x) ps qs few)) (fill-more ts (drop (job_count x) ps) all.1),
          )

      trees-more : (ts : List (RoundTree V D)) (ps : Pieces V (Message V D)) → AreFilledBy weigh ts ps → trees_with (ts ++ t ∷ []) (ps ++ qs) ≡ trees_with ts ps ++ tree_with t qs ∷ []
      trees-more [] ps none = ap (λ ps. trees_with (t ∷ []) (ps ++ qs)) none ∙ ap (λ ps. tree_with t ps ∷ []) (own-all t qs one).0
      trees-more (x ∷ ts) ps all =
          let few = few-enough weigh x ps all.0 in
          ap (λ y. tree_with x y ∷ trees_with (ts ++ t ∷ []) (drop (job_count x) (ps ++ qs))) (take-append-le (job_count x) ps qs few)
          ∙ ap (λ y. tree_with x (take (job_count x) ps) ∷ trees_with (ts ++ t ∷ []) y) (drop-append-le (job_count x) ps qs few)
          ∙ ap (λ ys. tree_with x (take (job_count x) ps) ∷ ys) (trees-more ts (drop (job_count x) ps) all.1)

  module _ (meaning : Meaning V (Message V D)) where
    pub pieces-append : (js more : List (ShapedJob V D)) → all_pieces meaning (js ++ more) ≡ all_pieces meaning js ++ all_pieces meaning more
    pieces-append [] more = refl
    pieces-append (j ∷ js) more = ap (λ ps. (node_place j.job.place, (piece_of meaning j).1) ∷ ps) (pieces-append js more)

    -- the jobs of trees, and of one more
    pub more-jobs : (ts : List (RoundTree V D)) (js : List (ShapedJob V D)) (us : List (Shape × Tree V (Message V D))) → AreJobsOfAll meaning ts js us →
        (t : RoundTree V D) (more : List (ShapedJob V D)) (u : Shape × Tree V (Message V D)) → AreJobsOf meaning t more u →
        (ts' : List (RoundTree V D)) → ts' ≡ ts ++ t ∷ [] → (js' : List (ShapedJob V D)) → js' ≡ js ++ more → AreJobsOfAll meaning ts' js' (us ++ u ∷ [])
    more-jobs ts js us all t more u one ts' pushed js' added =
        subst (λ ts. AreJobsOfAll meaning ts js' (us ++ u ∷ [])) (sym pushed) (subst (λ js. AreJobsOfAll meaning (ts ++ t ∷ []) js (us ++ u ∷ [])) (sym added) (record {
          runnable = All-append IsRunnable js more all.runnable one.runnable;
          fill = subst (AreFilledBy meaning.weigh (ts ++ t ∷ [])) (sym (pieces-append js more)) (fill-more meaning.weigh t (all_pieces meaning more) one.fill ts (all_pieces meaning js) all.fill);
          give = ap (trees_with (ts ++ t ∷ [])) (pieces-append js more)
              ∙ trees-more meaning.weigh t (all_pieces meaning more) one.fill ts (all_pieces meaning js) all.fill
              ∙ ap (λ us. us ++ tree_with t (all_pieces meaning more) ∷ []) all.give
              ∙ ap (λ u. us ++ u ∷ []) one.give;
        }))

    -- the tree after the pieces of all its jobs are filled in
    pub tree-outcome : (t : RoundTree V D) (jobs : List (ShapedJob V D)) (u : Shape × Tree V (Message V D)) → AreJobsOf meaning t jobs u →
        (items : List (code_place.Place × Siblings V (Message V D))) → items ≡ map (piece_of meaning) jobs →
        IsFilledBy meaning.weigh t (take (job_count t) (pieces_of items)) × (tree_with t (take (job_count t) (pieces_of items)) ≡ u)
    tree-outcome t jobs u all items are =
        let own = (own-all meaning.weigh t (all_pieces meaning jobs) all.fill).0 in (
          subst (λ xs. IsFilledBy meaning.weigh t (take (job_count t) (pieces_of xs))) (sym are) (subst (IsFilledBy meaning.weigh t) (sym own) all.fill),
          ap (λ xs. tree_with t (take (job_count t) (pieces_of xs))) are ∙ ap (tree_with t) own ∙ all.give,
        )

    -- and the trees
    pub trees-outcome : (ts : List (RoundTree V D)) (jobs : List (ShapedJob V D)) (us : List (Shape × Tree V (Message V D))) → AreJobsOfAll meaning ts jobs us →
        (items : List (code_place.Place × Siblings V (Message V D))) → items ≡ map (piece_of meaning) jobs →
        AreFilledBy meaning.weigh ts (pieces_of items) × (trees_with ts (pieces_of items) ≡ us)
    trees-outcome ts jobs us all items are =
        (subst (λ xs. AreFilledBy meaning.weigh ts (pieces_of xs)) (sym are) all.fill, ap (λ xs. trees_with ts (pieces_of xs)) are ∙ all.give)
