-- What holds of a result that may be an error.
use Rattle.std.proofs.Common.{Result, Ok, Err}
use Rattle.std.specs.Prelude.{IfOk, OnOk}

-- a fact of the value, and one that holds where there is a value
pub both_ok : {T E : Type 0} (r : Result T E) (P : T → Type 0) (Q : Type 0) → IfOk r P → OnOk r Q → IfOk r (λ t. P t × Q)
both_ok (Ok t) P Q p q = (p, q)
both_ok (Err e) P Q p q = tt
