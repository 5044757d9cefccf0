-- What the machine has yet to do, in the words of the definition of runs, where `names` are the texts of the names in its trees.
use Rattle.std.specs.Prelude.{ℕ, ◌+◌, ◌*◌, List, [], ◌∷◌, ◌++◌, length, false, Option}
use Rattle.rb_base.specs.Names.{name_at}
use Rattle.image_model.specs.Image.{ImageOf}
use Rattle.run_model.specs.Values.{Name, Value, nil_value}
use Rattle.run_model.specs.Store.{Frame, Store, Exit as run_exit, returns, ends_by, out_of_ticks, Result, fine, leaves}
use Rattle.run_model.specs.Operations.{looks}
use Rattle.run_model.specs.Acts.{Act, then_do, gives, and_then, acts, out_of_home}
use Rattle.run_model.specs.Store.{lives}
use Rattle.run_model.specs.Reading.{assigns}
use Rattle.run_model.specs.Eval.{node, turn, statements, sequence, makes_home, outermost, values, in_place, message, sends, chooses, takes, goes_on, messages, makes_brace, returns_home, evaluates}
use Rattle.tree_model.specs.Tree.{TreeOf, SequenceOf}
use Rattle.st_meaning.specs.StoreView.{store_of}
use Rattle.st_interp.specs.Trees.{tree_at, trees_at, messages_at, statements_at, sequence_at}
use Rattle.st_interp.specs.Shapes.{branch_from}
use Rattle.st_interp.specs.declared.state.Purpose.{Purpose}
use Rattle.st_interp.specs.declared.state.Purpose.TheVariants as purpose
use Rattle.st_interp.specs.declared.state.Loop.{Loop}
use Rattle.st_interp.specs.declared.state.Pending.{Pending}
use Rattle.st_interp.specs.declared.state.Pending.TheVariants as pending
use Rattle.st_interp.specs.declared.state.Exit.{Exit}
use Rattle.st_interp.specs.declared.state.Exit.TheVariants as exit
use Rattle.st_interp.specs.declared.state.Ending.{Ending}
use Rattle.st_interp.specs.declared.state.Ending.TheVariants as ending
use Rattle.st_interp.specs.declared.state.Next.{Next}
use Rattle.st_interp.specs.declared.state.Next.TheVariants as next
use Rattle.st_interp.specs.declared.state.Machine.{Machine}

-- how an evaluation leaves off
abbrev pub exit_of : Exit → run_exit
exit_of (exit.Back h v) = returns h v
exit_of (exit.Failed e) = ends_by e
exit_of exit.Spent = out_of_ticks

-- what an evaluation came to, in a store
abbrev pub ended : Ending → Store → Result Value
ended (ending.Value v) s = fine v s
ended (ending.Exit e) s = leaves (exit_of e) s

-- what is done with the values of trees
abbrev pub completed : ImageOf Name → List Name → Purpose → Frame → List Value → Act Value
completed i names (purpose.Send v n s) f vs = sends acts i (evaluates i) f (tree_at names n.now) v (name_at names s) vs
completed i names (purpose.Message v s) f vs = message acts i (evaluates i) v (name_at names s) vs
completed i names purpose.Brace f vs = makes_brace acts vs

-- the values of trees, after those that are known, and what is done with them
abbrev pub completes : ImageOf Name → List Name → Purpose → Frame → List Value → List (TreeOf ℕ) → Act Value
completes i names p f done ts = and_then (values acts (evaluates i) f (trees_at names ts)) (λ vs. completed i names p f (done ++ vs))

-- the next turn of a loop
abbrev pub turns : ImageOf Name → List Name → Frame → Loop → Act Value
turns i names f l = evaluates i (turn f l.sense (sequence_at names l.test.now) (sequence_at names l.body.now))

-- what follows on the value of a loop's test
abbrev pub tested : ImageOf Name → List Name → Frame → Loop → Value → Act Value
tested i names f l v =
    goes_on acts l.sense v (and_then (in_place acts (evaluates i) f (sequence_at names l.body.now)) (λ u. turns i names f l))

-- a value is returned to the home of a frame
abbrev pub returned : Frame → Value → Act Value
returned f v = and_then (looks acts (λ m. lives m f.home.number)) (λ b. returns_home acts f v b)

-- a do-it, which is read as a method of a class
abbrev pub runs_doit : ImageOf Name → Option Name → SequenceOf Name → Act Value
runs_doit i c b = and_then (makes_home acts) (λ h. acts.at_home h (sequence acts (evaluates i) (outermost c false nil_value h) [] [] b))

-- what becomes of a result that something waits for
abbrev pub resume : ImageOf Name → List Name → Pending → Result Value → Result Value
resume i names (pending.Receiver n s args c) r = then_do r (λ v. completes i names (purpose.Send v n s) c.value [] args.now)
resume i names (pending.Arguments p done left c) r = then_do r (λ v. completes i names p c.value (done ++ v ∷ []) left.now)
resume i names (pending.Assign n c) r = then_do r (λ v. assigns acts i c.value (name_at names n) v)
resume i names (pending.Return c) r = then_do r (λ v. returned c.value v)
resume i names (pending.Cascade ms c) r = then_do r (λ v. messages acts i (evaluates i) c.value v nil_value (messages_at names ms.now))
resume i names (pending.Cascaded v left c) r = then_do r (λ u. messages acts i (evaluates i) c.value v u (messages_at names left.now))
resume i names (pending.Sequence left c) r = then_do r (λ u. statements acts (evaluates i) c.value u (statements_at names left.now))
resume i names (pending.Answer v) r = then_do r (λ u. gives v)
resume i names (pending.Home h) r = out_of_home h r
resume i names (pending.Branch a b c) r =
    then_do r (λ v. chooses acts v (takes acts (evaluates i) c.value (branch_from names a)) (takes acts (evaluates i) c.value (branch_from names b)))
resume i names (pending.Tested l c) r = then_do r (λ v. tested i names c.value l v)
resume i names (pending.Turned l c) r = then_do r (λ u. turns i names c.value l)

-- what becomes of a result for which the whole stack waits; the innermost is last
unfoldable pub plug : ImageOf Name → List Name → List Pending → Result Value → Result Value
plug i names [] r = r
plug i names (k ∷ ks) r = resume i names k (plug i names ks r)

-- the act in the store of the machine, and then the stack
abbrev pub goes_on_with : ImageOf Name → List Name → Machine → Act Value → Result Value
goes_on_with i names m act = plug i names m.stack.items (act (store_of names m.store))

-- what is left to be done
abbrev pub rest : ImageOf Name → List Name → Machine → Next → Result Value
rest i names m (next.Evaluate t c) = goes_on_with i names m (evaluates i (node c.value (tree_at names t.now)))
rest i names m (next.Give v) = goes_on_with i names m (λ s. fine v s)
rest i names m (next.Leave e) = goes_on_with i names m (λ s. leaves (exit_of e) s)
rest i names m (next.Over e) = ended e (store_of names m.store)

-- what comes after an ending that the stack may have to know
abbrev pub next_of : Ending → Next
next_of (ending.Value v) = next.Give v
next_of (ending.Exit e) = next.Leave e

-- what falls at each step that takes no tick

abbrev pub pending_load : Pending → ℕ
pending_load (pending.Receiver n s args c) = 3
pending_load (pending.Arguments p done left c) = 3
pending_load (pending.Tested l c) = 2
pending_load (pending.Cascade ms c) = 3 * length ms.now + 1
pending_load (pending.Cascaded v left c) = 3 * length left.now + 1
pending_load k = 1

unfoldable pub stack_load : List Pending → ℕ
stack_load [] = 0
stack_load (k ∷ ks) = pending_load k + stack_load ks

abbrev pub next_load : Next → ℕ
next_load (next.Evaluate t c) = 1
next_load (next.Give v) = 4
next_load (next.Leave e) = 4
next_load (next.Over e) = 0

abbrev pub machine_load : Machine → ℕ
machine_load m = stack_load m.stack.items

abbrev pub load : Machine → Next → ℕ
load m n = next_load n + machine_load m

-- a node is next, or nothing
abbrev pub IsAtNode : Next → Type 0
IsAtNode (next.Evaluate t c) = Unit {0}
IsAtNode (next.Over e) = Unit {0}
IsAtNode n = ⊥
