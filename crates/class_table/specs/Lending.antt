-- What an image becomes when a part of it is lent and written.
use Rattle.std.specs.Prelude.{ℕ, List}
use Rattle.std.specs.Borrow.{Lends, LendsIf, MutBor, Fml}
use Rattle.std.specs.Prelude.{Option}
use Rattle.rb_base.specs.contracts.names.Names as names
use Rattle.st_tree.specs.contracts.tree.Method as method
use Rattle.st_tree.specs.contracts.tree.Sequence as sequence
use Rattle.st_tree.specs.declared.tree.Method.{Method}
use Rattle.st_tree.specs.declared.tree.Sequence.{Sequence}
use Rattle.class_table.specs.declared.record.MethodRec.{MethodRec}
use Rattle.class_table.specs.declared.record.DoIt.{DoIt}
use Rattle.class_table.specs.contracts.image.Image as image
use Rattle.class_table.specs.Changing.{changed_at}
use Rattle.class_table.specs.Slots.{Slots}

-- the image ends with the last value behind r as its names
abbrev pub LendsNames : MutBor Slots → MutBor (List (List ℕ)) → Fml
LendsNames s r = Lends image.the_row names.the_row s r (λ w. record s.now { names = w })

-- the slots with another tree in the slot of a method
abbrev pub with_tree : Slots → ℕ → Method → Slots
with_tree s k tree = record s { methods = changed_at (λ (m : MethodRec). record m { tree = tree }) s.methods k }

-- the slots with another body of the do-it of a number
abbrev pub with_body : Slots → ℕ → Sequence → Slots
with_body s n body = record s { doits = changed_at (λ (d : DoIt). record d { body = body }) s.doits n }

-- the image ends with the last value behind r as the tree of the method, and as it is where nothing is lent
abbrev pub LendsTreeIf : MutBor Slots → ℕ → Option (MutBor Method) → Fml
LendsTreeIf s k r = LendsIf image.the_row method.the_row s r (with_tree s.now k) s.now

-- the image ends with the last value behind r as the body of the do-it, and as it is where nothing is lent
abbrev pub LendsBodyIf : MutBor Slots → ℕ → Option (MutBor Sequence) → Fml
LendsBodyIf s n r = LendsIf image.the_row sequence.the_row s r (with_body s.now n) s.now
