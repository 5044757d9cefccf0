-- What replies of primitives stand for, and what is done with them.
use Rattle.std.specs.Prelude.{List, [], ◌∷◌, ◌++◌, set, Option, Some, None}
use Rattle.run_model.specs.Values.{Value, Event}
use Rattle.run_model.specs.Store as run
use Rattle.run_model.specs.Store.{Heap, with_object, with_array, Result, fine, leaves, ends_by, out_of_ticks}
use Rattle.run_model.specs.Acts.{acts}
use Rattle.run_model.specs.Views.{elements}
use Rattle.run_model.specs.Calls as call
use Rattle.run_model.specs.Eval.{Evaluator, follows}
use Rattle.prim_calls.specs.declared.reply.Reply.{Reply}
use Rattle.prim_calls.specs.declared.reply.Reply.TheVariants as reply
use Rattle.prim_calls.specs.declared.reply.Change.{Change}
use Rattle.prim_calls.specs.declared.reply.Change.TheVariants as change
use Rattle.prim_calls.specs.declared.outcome.PrimResult.{PrimResult}
use Rattle.prim_calls.specs.declared.outcome.PrimResult.TheVariants as result

-- the heap after a change
abbrev pub changed : Heap → Change → Heap
changed h change.Nothing = h
changed h (change.NewObject o) = with_object h o
changed h (change.NewArray vs) = with_array h vs
changed h (change.Element k at v) = record h { arrays = set h.arrays k (set (elements h k) at v) }

-- the store with an event told, if there is one
abbrev pub told_in : Option Event → run.Store → run.Store
told_in (Some e) s = record s { events = s.events ++ e ∷ [] }
told_in None s = s

-- the store with a change of its heap
abbrev pub changed_in : Change → run.Store → run.Store
changed_in c s = record s { memory = record s.memory { heap = changed s.memory.heap c } }

-- what a primitive comes to in a heap
abbrev pub reply_of : Heap → Reply → call.PrimResult
reply_of h (reply.Answers n told v c) = call.answers n told v (changed h c)
reply_of h (reply.Faults e) = call.faults e
reply_of h (reply.Enters k) = call.enters k

-- what a run comes to after a primitive; a closure is entered with the arguments
abbrev pub ends_as : Evaluator acts → List Value → PrimResult → run.Store → Result Value
ends_as go args (result.Answer v) s = fine v s
ends_as go args (result.Fault e) s = leaves (ends_by e) s
ends_as go args result.Spent s = leaves out_of_ticks s
ends_as go args (result.Enter k) s = follows acts go args (call.enters k) s
