-- What comes of a literal.
use Rattle.std.specs.Prelude.{Option, Some, None}
use Rattle.run_model.specs.Values.{unsupported}
use Rattle.run_model.specs.Store.{Store, ends_by, Result, fine, leaves}

-- the thing, and where there is none the error of what is only kept
abbrev pub given : {A : Type 0} → Option A → Store → Result A
given (Some a) s = fine a s
given None s = leaves (ends_by unsupported) s
