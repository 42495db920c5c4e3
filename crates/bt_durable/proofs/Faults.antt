-- What is true after an error.
use Rattle.std.proofs.Common.{OnErr, Result, Ok, Err}

pub on_err : {A E : Type 0} (result : Result A E) {Fact : Type 0} → Fact → OnErr result Fact
on_err (Ok a) fact = tt
on_err (Err e) fact = fact
