-- A tree without rows whose packet is dealt: with the results of its jobs it is the tree after its packet.
use Rattle.std.proofs.Common.{◌≡◌, ◌∙◌, ◌-◌, ◌*◌, ◌≤◌, ◌<◌, ℕ, zero, suc, true, List, [], ◌∷◌, ◌++◌, Vec, ap, arith, drop, length, length-append, refl, subst, sym, take, true≢false}
use Rattle.std.proofs.lemmas.Bool.{ne_eqb}
use Rattle.std.proofs.lemmas.Grind.{div_ceil_times}
use Rattle.std.proofs.lemmas.List.Elements.{All-append, All-cons, All-nil}
use Rattle.std.specs.Global.{Global}
use Rattle.std.specs.Int.{div_ceil}
use Rattle.std.specs.declared.option.Option.TheVariants.{None}
use Rattle.bt_keycode.specs.Keys.{Key}
use Rattle.bt_message.specs.Meanings.{Meaning, meaning_of}
use Rattle.bt_message.specs.Terms.{Terms}
use Rattle.bt_message.specs.declared.message.Message.{Message}
use Rattle.bt_form.specs.Fits.{AreFit, HasShape, IsInOrder, IsLed}
use Rattle.bt_form.specs.Flushes.{absorb, crown, first_key, flush_in, pivot_first}
use Rattle.bt_form.specs.Messages.{Messages}
use Rattle.bt_form.specs.Trees.{Shape, Siblings, Tree, inner, leaf}
use Rattle.bt_form.specs.declared.mode.Mode.TheVariants.{Absorb}
use Rattle.bt_node.proofs.offered.FlushSteps.{anywhere, fit_there}
use Rattle.bt_plan.specs.declared.job.Place as code_place
use Rattle.bt_plan.specs.Views.{node_place}
use Rattle.bt_gather.specs.declared.flush_work.ShapedJob.{ShapedJob}
use Rattle.bt_gather.specs.declared.round_tree.RoundTree.TheVariants.{Dealt}
use Rattle.bt_gather.specs.Rounds.{sunk_tree}
use Rattle.bt_gather.specs.inside.NewLeaves.{are_new_rows, first_items, is_bare, led_pieces}
use Rattle.bt_gather.specs.inside.RoundJobs.{AreRunnable, IsLeafJob, IsRunnable, all_pieces, piece_of}
use Rattle.bt_gather.specs.inside.RoundTrees.{AreJobsOf, IsDealtFilledBy, IsEmptyWithRoom}
use Rattle.bt_gather.proofs.EvenParts.{IsTight}
use Rattle.bt_gather.proofs.LeafParts.{all-parts, leaves_in, led-more, made_of, next-part, part-tight}
use Rattle.bt_gather.proofs.NewRows.{new-drop, rows_put}
use Rattle.bt_gather.proofs.PieceShares.{pieces-append}

some-led : {V M : Type 0} (xs : Siblings V M) → IsLed (pivot_first [] xs) → 1 ≤ length xs
some-led [] led = absurd led
some-led (x ∷ xs) led = omega arith

-- a leaf without rows
bare-leaf : {V M : Type 0} (t : Tree V M) → is_bare t ≡ true → t ≡ leaf []
bare-leaf (leaf []) bare = refl
bare-leaf (leaf (r ∷ rows)) bare = absurd (true≢false (sym bare ∙ ne_eqb (length (r ∷ rows)) 0 (λ e. omega (arith, e))))
bare-leaf (inner ns buffer) bare = absurd (true≢false (sym bare))

-- some items are dealt into some parts
pub some-parts : (n most : ℕ) → 0 < n → 0 < most → 1 ≤ div_ceil n most
some-parts n most some l = of (div_ceil n most) (div_ceil_times n most l).0
  where
    of : (c : ℕ) → n ≤ c * most → 1 ≤ c
    of zero few = absurd (omega (arith, few, some))
    of (suc c) few = omega arith

module _ {V D : Type 0} (terms : Terms V D) (shape : Shape) where
  abbrev meaning : Meaning V (Message V D)
  meaning = meaning_of terms

  -- the result of a job that makes leaves
  leaf-outcome : (packet : Messages (Message V D)) (job : ShapedJob V D) → IsLeafJob shape packet job → (piece_of meaning job).1 ≡ made_of terms.merged shape packet
  leaf-outcome packet job is =
      ap (λ s. flush_in meaning job.job.mode s job.job.node job.job.packet) is.same
      ∙ ap (λ m. flush_in meaning m shape job.job.node job.job.packet) is.absorbs
      ∙ ap (λ t. flush_in meaning Absorb shape t job.job.packet) is.bare
      ∙ ap (flush_in meaning Absorb shape (leaf [])) is.takes

  leaf-runnable : (packet : Messages (Message V D)) (job : ShapedJob V D) → IsLeafJob shape packet job → IsRunnable job
  leaf-runnable packet job is = subst IsInOrder (sym is.bare) (0, None, None, tt)

  -- The leaves of the jobs so far come before those of the messages that are left, which are this many.
  pub record IsDealing (packet : Messages (Message V D)) (all : ℕ) (starts : List Key) (jobs : List (ShapedJob V D)) (stream : Messages (Message V D)) (left : ℕ) : Type 0 where
    pub made : led_pieces starts (all_pieces meaning jobs) ++ leaves_in (Message V D) left (rows_put stream) ≡ leaves_in (Message V D) all (rows_put packet)
    pub new : are_new_rows None stream ≡ true
    pub tight : 1 ≤ left → IsTight shape.leaf (length stream) left
    pub aligned : length starts ≡ length (all_pieces meaning jobs)
    pub runnable : AreRunnable jobs

  module _ (roomy : 0 < shape.leaf) (packet : Messages (Message V D)) (all : ℕ) (starts : List Key) (jobs : List (ShapedJob V D)) (ms : Messages (Message V D)) (k : ℕ)
      (so_far : IsDealing packet all starts jobs ms k) (some : 1 ≤ k) (m : ℕ) (one : 1 ≤ m) (few : m ≤ k) (s : ℕ) (size : s ≡ first_items (length ms) k m) where
    dealt-now : (start : Key) (job : ShapedJob V D) → start ≡ first_key (λ m. m.0) (take s ms) → IsLeafJob shape (take s ms) job →
        IsDealing packet all (starts ++ start ∷ []) (jobs ++ job ∷ []) (drop s ms) (k - m)
    dealt-now start job lowest is =
        let tight = so_far.tight some in
        let ps = all_pieces meaning jobs in
        let added = pieces-append meaning jobs (job ∷ []) in
        let more = led-more starts ps start (node_place job.job.place, (piece_of meaning job).1) so_far.aligned in
        record {
          made = next-part terms.merged shape roomy ms so_far.new k tight m one few s size (led_pieces starts ps) (led_pieces (starts ++ start ∷ []) (all_pieces meaning (jobs ++ job ∷ [])))
              (leaves_in (Message V D) all (rows_put packet)) start lowest
              (ap (led_pieces (starts ++ start ∷ [])) added ∙ more ∙ ap (λ xs. led_pieces starts ps ++ pivot_first start xs) (leaf-outcome (take s ms) job is)) so_far.made;
          new = new-drop s None ms so_far.new;
          tight = λ l. (part-tight terms.merged shape roomy ms so_far.new k tight m one few s size).1 (omega (arith, l));
          aligned = omega (arith, so_far.aligned, ap length added, length-append starts (start ∷ []), length-append ps ((node_place job.job.place, (piece_of meaning job).1) ∷ []));
          runnable = All-append IsRunnable jobs (job ∷ []) so_far.runnable (All-cons IsRunnable job [] (leaf-runnable (take s ms) job is) (All-nil IsRunnable));
        }

    -- one more part
    pub dealt-next : (rest : Messages (Message V D)) → rest ≡ drop s ms → (start : Key) → start ≡ first_key (λ m. m.0) (take s ms) → (job : ShapedJob V D) → IsLeafJob shape (take s ms) job →
        (starts' : List Key) → starts' ≡ starts ++ start ∷ [] → (jobs' : List (ShapedJob V D)) → jobs' ≡ jobs ++ job ∷ [] → (left : ℕ) → left ≡ k - m → IsDealing packet all starts' jobs' rest left
    dealt-next rest rest-is start lowest job is starts' starts-are jobs' jobs-are left left-is =
        subst (IsDealing packet all starts' jobs' rest) (sym left-is)
        (subst (λ r. IsDealing packet all starts' jobs' r (k - m)) (sym rest-is)
        (subst (λ js. IsDealing packet all starts' js (drop s ms) (k - m)) (sym jobs-are)
        (subst (λ ks. IsDealing packet all ks (jobs ++ job ∷ []) (drop s ms) (k - m)) (sym starts-are) (dealt-now start job lowest is))))

  -- nothing is dealt at first
  pub none-dealt : (packet stream : Messages (Message V D)) (all left : ℕ) (starts : List Key) (jobs : List (ShapedJob V D)) → starts ≡ [] → jobs ≡ [] → stream ≡ packet → left ≡ all →
      are_new_rows None packet ≡ true → IsTight shape.leaf (length packet) all → IsDealing packet all starts jobs stream left
  none-dealt packet stream all left starts jobs no_starts no_jobs same whole new tight =
      subst (λ ks. IsDealing packet all ks jobs stream left) (sym no_starts)
      (subst (λ js. IsDealing packet all [] js stream left) (sym no_jobs)
      (subst (λ ms. IsDealing packet all [] [] ms left) (sym same)
      (subst (IsDealing packet all [] [] packet) (sym whole)
      (record { made = refl; new = new; tight = λ some. tight; aligned = refl; runnable = All-nil IsRunnable }))))

  -- all is dealt
  module _ (root : Tree V (Message V D)) (has : HasShape meaning.weigh shape root) (bare : is_bare root ≡ true) (packet : Messages (Message V D)) (new : are_new_rows None packet ≡ true)
      (all : ℕ) (some : 1 ≤ all) (tight : IsTight shape.leaf (length packet) all) (starts : List Key) (jobs : List (ShapedJob V D)) (stream : Messages (Message V D)) (left : ℕ) (none : left ≡ 0)
      (dealt : IsDealing packet all starts jobs stream left) where
    dealt-leaves : pivot_first [] (led_pieces starts (all_pieces meaning jobs)) ≡ absorb meaning shape root packet
    dealt-leaves =
        all-parts terms.merged shape (omega (arith, has.roomy.leaf)) packet new all some tight (led_pieces starts (all_pieces meaning jobs)) left stream none dealt.made
        ∙ ap (λ t. absorb meaning shape t packet) (sym (bare-leaf root bare))

    dealt-fit : AreFit meaning.weigh shape (pivot_first [] (led_pieces starts (all_pieces meaning jobs)))
    dealt-fit =
        subst (AreFit meaning.weigh shape) (sym dealt-leaves)
        (has.levels, fit_there meaning Absorb shape has.roomy root packet (absorb meaning shape root packet) refl has.levels None None has.fits (anywhere packet))

    pub dealt-jobs : (starts' : Vec Key Global) → starts'.items ≡ starts → (room : Vec (code_place.Place × Siblings V (Message V D)) Global) → IsEmptyWithRoom room (length starts) →
        (shape' : Shape) → shape' ≡ shape → AreJobsOf meaning (Dealt shape' starts' room) jobs (sunk_tree meaning ((shape, root), packet))
    dealt-jobs starts' are room roomy shape' same =
        subst (λ s. AreJobsOf meaning (Dealt s starts' room) jobs (sunk_tree meaning ((shape, root), packet))) (sym same) (record {
          runnable = dealt.runnable;
          fill = (
            subst (λ ks. IsEmptyWithRoom room (length ks)) (sym are) roomy,
            subst (λ ks. IsDealtFilledBy meaning.weigh shape ks (all_pieces meaning jobs)) (sym are)
                (record { count = sym dealt.aligned; some = some-led (led_pieces starts (all_pieces meaning jobs)) dealt-fit.1.led; fit = dealt-fit }),
          );
          give = ap (λ ks. (shape, crown shape (pivot_first [] (led_pieces ks (all_pieces meaning jobs))))) are ∙ ap (λ xs. (shape, crown shape xs)) dealt-leaves;
        })
