-- What follows where no refusal is answered.
use Rattle.std.proofs.Common.{◌≡◌, Bool, false, is_some, Option, Some, None, Result, Ok, Err, IfNone, IfOk, sym}
use Rattle.rb_base.specs.declared.memory.Memory.{Memory}
use Rattle.file_faults.specs.declared.fault.ImageCause.{ImageCause}

pub where_none : {P : Type 0} (answer : Result (Option ImageCause) Memory) (b : Bool) → IfOk answer (λ cause. is_some cause ≡ b) → (b ≡ false → P) → IfOk answer (λ cause. IfNone cause P)
where_none (Ok None) b e h = h (sym e)
where_none (Ok (Some c)) b e h = tt
where_none (Err m) b e h = tt
