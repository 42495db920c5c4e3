-- A fact that holds after any result, in the form of a clause on errors.
use Rattle.std.proofs.Common.{Result, Ok, Err, OnErr}

pub at_error : {X E P : Type 0} (r : Result X E) → P → OnErr r P
at_error (Ok x) h = tt
at_error (Err e) h = h
