-- Jobs that are run one after the other.
use Rattle.std.specs.Prelude.{◌≡◌, ◌⊎◌, List, [], ◌∷◌, ◌++◌, Some, reverse}
use Rattle.std.specs.FinMap.{find}
use Rattle.std.specs.List.{AllByRecursion as Each}
use Rattle.bt_message.specs.declared.message.Message.{Message}
use Rattle.bt_form.specs.Fits.{IsInOrder}
use Rattle.bt_form.specs.Messages.{Meaning}
use Rattle.bt_form.specs.Trees.{Shape, Siblings}
use Rattle.bt_plan.specs.Cuts.{outcome}
use Rattle.bt_plan.specs.Pieces.{Pieces, Place, node_place_cmp}
use Rattle.bt_plan.specs.Views.{job_of, node_place}
use Rattle.bt_plan.specs.declared.job.Job as code

-- the node of each job is in order
abbrev pub AreInOrder : {V D : Type 0} → List (code.Job V D) → Type 0
AreInOrder = Each (λ job. IsInOrder job.node)

-- the same jobs, from the first to the last or from the last to the first
abbrev pub AreTurned : {X : Type 0} → List X → List X → Type 0
AreTurned jobs turned = (turned ≡ jobs) ⊎ (turned ≡ reverse jobs)

-- an item is one of these
abbrev pub Among : {X : Type 0} → X → List X → Type 0
Among x [] = ⊥
Among x (y ∷ ys) = (x ≡ y) ⊎ Among x ys

-- the first piece at the place of each job is the result of the job, or the place is one of those that are left
abbrev pub AreRun : {V D : Type 0} → Meaning V (Message V D) → Shape → List (code.Job V D) → Pieces V (Message V D) → List Place → Type 0
AreRun meaning shape jobs pieces left =
    Each (λ job. (find node_place_cmp (node_place job.place) pieces ≡ Some (outcome meaning shape (job_of job))) ⊎ Among (node_place job.place) left) jobs

-- the same for the jobs before those that are still to come
abbrev pub AreRunBefore : {V D : Type 0} → Meaning V (Message V D) → Shape → List (code.Job V D) → List (code.Job V D) → Pieces V (Message V D) → List Place → Type 0
AreRunBefore {V} {D} meaning shape jobs coming pieces left = (seen : List (code.Job V D)) × (jobs ≡ seen ++ coming) × AreRun meaning shape seen pieces left

-- the first piece at the place of each job, if there is one, is the result of the job
abbrev pub AreOdd : {V D : Type 0} → Meaning V (Message V D) → Shape → List (code.Job V D) → Pieces V (Message V D) → Type 0
AreOdd {V} {D} meaning shape jobs pieces =
    Each (λ job. (xs : Siblings V (Message V D)) → find node_place_cmp (node_place job.place) pieces ≡ Some xs → xs ≡ outcome meaning shape (job_of job)) jobs
