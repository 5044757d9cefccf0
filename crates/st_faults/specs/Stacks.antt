-- The stack of the machine, as the program holds it: the part that comes next is the last one.
use Rattle.std.specs.Prelude.{◌≡◌, ◌<◌, Bool, true, false, List, [], ◌∷◌, length, take, Option, Some, None}
use Rattle.tree_model.specs.Tree.{LiteralOf}
use Rattle.grammar_model.specs.Terminal.{Text}
use Rattle.grammar_model.specs.Machine.{Stack, step}
use Rattle.st_faults.specs.declared.sort.Sort.{Sort}
use Rattle.st_faults.specs.declared.part.Part.{Part}
use Rattle.st_faults.specs.declared.stack.Found.{Found}
use Rattle.st_faults.specs.Sorts.{terminal}
use Rattle.st_faults.specs.Moves.{part_of, put_all}

-- these parts on top of a stack
abbrev pub stacked : Stack → List Part → Stack
stacked ss [] = ss
stacked ss (p ∷ ps) = stacked (part_of p ∷ ss) ps

-- the stack that these parts are
abbrev pub stack_of : List Part → Stack
stack_of ps = stacked [] ps

-- what becomes of the stack at each token of the sort
abbrev pub Finds : List Part → Sort → Option Found → Type 0
Finds ps sort None = (s : Text) (l : LiteralOf Text) → step (stack_of ps) (terminal sort s l) ≡ None
Finds ps sort (Some f) = (f.below < length ps) × ((s : Text) (l : LiteralOf Text) → step (stack_of ps) (terminal sort s l) ≡ Some (put_all f.parts (stack_of (take f.below ps))))

-- whether each token of the sort can stand, and the stack behind it
abbrev pub Steps : List Part → Sort → Bool → List Part → Type 0
Steps old sort true new = (s : Text) (l : LiteralOf Text) → step (stack_of old) (terminal sort s l) ≡ Some (stack_of new)
Steps old sort false new = (new ≡ old) × ((s : Text) (l : LiteralOf Text) → step (stack_of old) (terminal sort s l) ≡ None)
