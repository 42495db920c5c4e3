-- Facts about the result of a call, if it succeeds.
use Rattle.std.proofs.Common.{Result, Ok, Err, OnOk}

-- a fact that holds for any result
pub on_ok : {A E : Type 0} (P : Type 0) (r : Result A E) → P → OnOk r P
on_ok P (Ok x) p = p
on_ok P (Err e) p = tt
