-- Streams that record whether a call failed, how many bytes passed and whether all were flushed, in terms of the bytes that a reader has left and a writer
-- holds.
use Rattle.std.specs.Prelude.{codes, ◌≡◌, ◌==◌, ◌&&◌, ◌++◌, ◌+◌, ◌<◌, ◌≤◌, ◌⊎◌, length, not, ℕ, Bool, false, true, List, take, Option, Result, Ok, Err, MatchResult}
use Rattle.std.specs.Io.KnownBytes.{Appends, Consumes}
use Rattle.std.specs.Io.Iter.{u64_saturate}
use Rattle.bt_script.specs.declared.counted.Counted.{Counted}
use Rattle.bt_script.specs.declared.streams.RunFault.{RunFault}
use Rattle.bt_script.specs.declared.streams.RunFault.TheVariants.{OutOfMemory, Read, Write}

-- the largest number of bytes of a script, 64 MiB
abbrev pub script_limit : ℕ
script_limit = 67108864

-- the inner reader or writer
abbrev pub source_of : {T : Type 0} → Counted T → T
source_of stream = stream.inner

-- a call on it failed
abbrev pub has_failed : {T : Type 0} → Counted T → Bool
has_failed stream = stream.failed

-- it took bytes as a writer, and no flush since then succeeded
abbrev pub has_unflushed : {T : Type 0} → Counted T → Bool
has_unflushed stream = stream.unflushed

-- how many bytes it gave as a reader, or took as a writer; the count stops at the largest u64
abbrev pub count_of : {T : Type 0} → Counted T → ℕ
count_of stream = u64_saturate stream.count

-- a stream counted this many more bytes
abbrev pub Counts : {T : Type 0} → Counted T → Counted T → ℕ → Type 0
Counts old new more = count_of new ≡ u64_saturate (count_of old + more)

-- a read or write counted the bytes that it passed on, and none if it failed
abbrev pub CountsPassed : {T E : Type 0} → Counted T → Counted T → Result ℕ E → Type 0
CountsPassed old new result = MatchResult result (λ passed. Counts old new passed) (λ _. count_of new ≡ count_of old)

-- a reader gave these bytes: it counted them, and if its bytes are known, they began with them
abbrev pub Gave : {R : Type 0} → (R → Option (List ℕ)) → Counted R → Counted R → List ℕ → Type 0
Gave remaining old new bytes = Consumes (remaining (source_of old)) (remaining (source_of new)) bytes × Counts old new (length bytes)

-- a reader gave some bytes, at most a limit of them
abbrev pub GaveAtMost : {R : Type 0} → (R → Option (List ℕ)) → Counted R → Counted R → ℕ → Type 0
GaveAtMost remaining old new limit = (bytes : List ℕ) × (length bytes ≤ limit) × Gave remaining old new bytes

-- a reader failed, or gave more bytes than a limit
abbrev pub FailsToGive : {R : Type 0} → (R → Option (List ℕ)) → Counted R → Counted R → ℕ → Type 0
FailsToGive remaining old new limit = (has_failed new ≡ true) ⊎ ((bytes : List ℕ) × (limit < length bytes) × Gave remaining old new bytes)

-- a reader has not failed, and gave at most a limit of bytes
abbrev pub GivesWithin : {R : Type 0} → (R → Option (List ℕ)) → Counted R → Counted R → ℕ → Type 0
GivesWithin remaining old new limit = (has_failed new ≡ false) × GaveAtMost remaining old new limit

-- a writer took these bytes: it counted them, and if its bytes are known, they grew by them
abbrev pub Took : {W : Type 0} → (W → Option (List ℕ)) → Counted W → Counted W → List ℕ → Type 0
Took contents old new bytes = Appends (contents (source_of old)) (contents (source_of new)) bytes × Counts old new (length bytes)

-- a writer took some prefix of a text
abbrev pub TookPrefix : {W : Type 0} → (W → Option (List ℕ)) → Counted W → Counted W → List ℕ → Type 0
TookPrefix contents old new text = (count : ℕ) × Took contents old new (take count text)

-- a write of this many bytes failed: an error, or it took none of some
abbrev pub write_failed : {E : Type 0} → Result ℕ E → ℕ → Bool
write_failed (Ok taken) offered = (taken == 0) && not (offered == 0)
write_failed (Err error) offered = true

-- a write took a byte
abbrev pub took_some : {E : Type 0} → Result ℕ E → Bool
took_some (Ok taken) = not (taken == 0)
took_some (Err error) = false

-- why a run ends early, in words
abbrev pub fault_text : RunFault → List ℕ
fault_text Read = codes "read failed"
fault_text Write = codes "write failed"
fault_text OutOfMemory = codes "out of memory"

-- the line of the error stream with this message
abbrev pub error_line : List ℕ → List ℕ
error_line message = codes "betable: " ++ (message ++ codes "\n")
