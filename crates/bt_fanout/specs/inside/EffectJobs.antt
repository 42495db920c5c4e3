-- The effects of a packet, in jobs.
use Rattle.std.specs.Prelude.{ℕ, suc, ◌+◌, ◌≡◌, List, [], ◌∷◌, Option, drop, length, map}
use Rattle.bt_value.specs.declared.value.Value.{Value}
use Rattle.bt_message.specs.Messages.{Messages}
use Rattle.bt_form.specs.Parts.{AreRising}
use Rattle.bt_form.specs.Portions.{value_in}
use Rattle.bt_fanout.specs.Effects.{RowMessage, row_effect}
use Rattle.bt_fanout.specs.declared.effect.Effect.{Effect}
use Rattle.bt_fanout.specs.declared.effect_jobs.EffectJob.{EffectJob}
use Rattle.bt_fanout.specs.inside.Groups.{effects_in}

-- the rows that the portion of a job has at its keys
abbrev pub rows_there : EffectJob → List (Option (List Value))
rows_there job = map (λ k. value_in row_effect k.now job.portion) job.keys.now

-- the effects of messages at the keys of a job
abbrev pub effects_there : Messages RowMessage → EffectJob → List Effect
effects_there messages job = effects_in (map (λ k. k.now) job.keys.now) job.others.now (rows_there job) (drop job.skipped messages)

-- the keys rise, and each has a number of messages
abbrev pub IsWhole : EffectJob → Type 0
IsWhole job = AreRising (map (λ k. k.now) job.keys.now) × (length job.others.now ≡ length job.keys.now)

-- the number of messages of keys that have this many after their first ones
abbrev pub message_total : List ℕ → ℕ
message_total [] = 0
message_total (n ∷ others) = suc n + message_total others
