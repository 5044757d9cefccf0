-- Evaluation of resolved code, step for step as that of trees with names: arguments and temporaries are found by their places, and other names are read and assigned by what they mean.
use Rattle.std.specs.Prelude.{ℕ, zero, suc, Bool, true, false, if◌then◌else◌, List, [], ◌∷◌, ◌++◌, length, replicate, slice_get, Option, Some, None, option_map, unwrap_or, codes}
use Rattle.rb_base.specs.Names.{text_eq}
use Rattle.run_model.specs.Values.{Name, Value, nil_value, class_value, transcript_value, undeclared_name, not_assignable, does_not_understand, bad_argument, cannot_return}
use Rattle.run_model.specs.Store.{Binding, holds, in_cell, Frame, Memory, lives, value_of, same_pair, field_of, with_field, class_side_of, with_class_side, with_shared, value_in_cell, with_cell}
use Rattle.run_model.specs.Operations.{looks, changes}
use Rattle.run_model.specs.Views.{class_name_of, is_meta}
use Rattle.run_model.specs.Calls.{PrimResult, answers, faults, enters}
use Rattle.run_model.specs.Primitives.{primitive}
use Rattle.run_model.specs.Reading.{reads_pseudo}
use Rattle.run_model.specs.Eval.{literal_value, tells_any, makes_home, chooses, goes_on, makes_brace, outermost}
use Rattle.resolved_model.specs.ResolvedTrees.{Reference, of_word, of_local, of_instance_variable, of_class_side_variable, of_class_variable, of_named_class, of_transcript, of_nothing, Target, to_temporary, to_instance_variable, to_class_side_variable, to_class_variable, to_fixed, to_nothing, ResolvedTree, reading, constant, sending, cascading, assigning, block_of, brace_of, returning, ResolvedTrees, no_nodes, more_nodes, ResolvedMessages, no_sends, more_sends, ResolvedStatements, no_lines, more_lines, ResolvedCode}
use Rattle.resolved_model.specs.ResolvedImages.{Doing, by_primitive, by_code, ResolvedMethod, ResolvedImage, finds, finds_above}
use Rattle.resolved_model.specs.ResolvedActs.{ResolvedFrame, ResolvedClosure, ResolvedOperations}
use Rattle.resolved_model.specs.ResolvedShapes.{ResolvedBranch, runs_code, gives_just, ResolvedShape, chooses_way, repeats, as_message, resolved_shape}

-- what is to be evaluated: a node, or a turn of a loop with its test and its body
pub data ResolvedTask : Type 0 where
  at_node : ResolvedFrame → ResolvedTree → ResolvedTask
  at_turn : ResolvedFrame → Bool → ResolvedCode → ResolvedCode → ResolvedTask

-- so many arguments with values; one without a value is nil
abbrev pub values_held : ℕ → List Value → List Binding
values_held zero vs = []
values_held (suc n) [] = holds nil_value ∷ values_held n []
values_held (suc n) (v ∷ vs) = holds v ∷ values_held n vs

-- so many temporaries with cells from a number on
abbrev pub cells_from : ℕ → ℕ → List Binding
cells_from zero k = []
cells_from (suc n) k = in_cell k ∷ cells_from n (suc k)

-- the memory with so many new cells, which hold nil
abbrev pub with_nil_cells : Memory → ℕ → Memory
with_nil_cells m n = record m { cells = m.cells ++ replicate n nil_value }

-- the frame with further locals inside the others
abbrev pub within : ResolvedFrame → List Binding → ResolvedFrame
within f bs = record f { locals = bs ++ f.locals }

-- the frame as one in which no names are declared
abbrev pub without_locals : ResolvedFrame → Frame
without_locals f = record { slots = []; me = f.me; home = f.home }

-- where a method's or do-it's statements run, with no locals yet
abbrev pub first_frame : Option Name → Bool → Value → ℕ → ResolvedFrame
first_frame class meta me h = record { locals = []; me = me; home = (outermost class meta me h).home }

-- how many parameters the closure of a number has
abbrev pub parameters_in : List ResolvedClosure → ℕ → ℕ
parameters_in cs k = unwrap_or (option_map (λ (c : ResolvedClosure). c.code.parameters) (slice_get cs k)) 0

-- whether a node is the name `super`
abbrev pub reads_super : ResolvedTree → Bool
reads_super (reading (of_word n)) = text_eq n (codes "super")
reads_super (reading (of_local k)) = false
reads_super (reading (of_instance_variable n)) = false
reads_super (reading (of_class_side_variable n)) = false
reads_super (reading (of_class_variable c n)) = false
reads_super (reading (of_named_class c)) = false
reads_super (reading of_transcript) = false
reads_super (reading (of_nothing n)) = false
reads_super (constant l) = false
reads_super (sending r s args) = false
reads_super (cascading r ms) = false
reads_super (assigning n t) = false
reads_super (block_of ps ts ss) = false
reads_super (brace_of ts) = false
reads_super (returning t) = false

module _ (w : ResolvedOperations) where
  -- an evaluator
  abbrev pub ResolvedEvaluator : Type 0
  ResolvedEvaluator = ResolvedTask → w.plain.Act Value

  -- the value of an argument, or of a temporary's cell; a place that is not there is nil, and no method or do-it has one
  abbrev pub reads_local : Option Binding → w.plain.Act Value
  reads_local (Some (holds v)) = w.plain.gives v
  reads_local (Some (in_cell k)) = looks w.plain (λ m. value_in_cell m k)
  reads_local None = w.plain.gives nil_value

  -- the value of what is read under a name
  abbrev pub reads_reference : ResolvedFrame → Reference → w.plain.Act Value
  reads_reference f (of_word n) = reads_pseudo w.plain (without_locals f) n
  reads_reference f (of_local k) = reads_local (slice_get f.locals k)
  reads_reference f (of_instance_variable n) = looks w.plain (λ m. field_of m f.me n)
  reads_reference f (of_class_side_variable n) = looks w.plain (λ m. class_side_of m f.me n)
  reads_reference f (of_class_variable c n) = looks w.plain (λ m. value_of same_pair m.shared (c, n))
  reads_reference f (of_named_class c) = w.plain.gives (class_value c)
  reads_reference f of_transcript = w.plain.gives transcript_value
  reads_reference f (of_nothing n) = w.plain.fails (undeclared_name n)

  -- a value is stored in a temporary's cell; a place that is not there, or is an argument's, keeps nothing, and no method or do-it assigns one
  abbrev pub assigns_local : Value → Option Binding → w.plain.Act Value
  assigns_local v (Some (holds u)) = w.plain.gives v
  assigns_local v (Some (in_cell k)) = changes w.plain v (λ m. with_cell m k v)
  assigns_local v None = w.plain.gives v

  -- a value is stored in what is assigned under a name
  abbrev pub assigns_target : ResolvedFrame → Value → Target → w.plain.Act Value
  assigns_target f v (to_temporary k) = assigns_local v (slice_get f.locals k)
  assigns_target f v (to_instance_variable n) = changes w.plain v (λ m. with_field m f.me n v)
  assigns_target f v (to_class_side_variable n) = changes w.plain v (λ m. with_class_side m f.me n v)
  assigns_target f v (to_class_variable c n) = changes w.plain v (λ m. with_shared m c n v)
  assigns_target f v (to_fixed n) = w.plain.fails (not_assignable n)
  assigns_target f v (to_nothing n) = w.plain.fails (undeclared_name n)

  -- each statement in order; v is the value of the one before
  abbrev pub lines : ResolvedEvaluator → ResolvedFrame → Value → ResolvedStatements → w.plain.Act Value
  lines go f v no_lines = w.plain.gives v
  lines go f v (more_lines t ss) = w.plain.and_then (go (at_node f t)) (λ u. lines go f u ss)

  -- the values of nodes from the left
  abbrev pub node_values : ResolvedEvaluator → ResolvedFrame → ResolvedTrees → w.plain.Act (List Value)
  node_values go f no_nodes = w.plain.gives []
  node_values go f (more_nodes t ts) = w.plain.and_then (go (at_node f t)) (λ v. w.plain.and_then (node_values go f ts) (λ vs. w.plain.gives (v ∷ vs)))

  -- so many new cells for temporaries, and the number of the first of them
  abbrev pub makes_nil_cells : ℕ → w.plain.Act ℕ
  makes_nil_cells n = w.plain.with_memory (λ m. (length m.cells, with_nil_cells m n))

  -- Code with arguments that have these values and with new cells for its temporaries; its value is that of its last statement, and nil where there is none.
  abbrev pub does_code : ResolvedEvaluator → ResolvedFrame → List Value → ResolvedCode → w.plain.Act Value
  does_code go f vs c =
      w.plain.and_then (makes_nil_cells c.temporaries) (λ k. lines go (within f (values_held c.parameters vs ++ cells_from c.temporaries k)) nil_value c.statements)

  -- a closure is run with arguments
  abbrev pub enters_closure_with : ResolvedEvaluator → Option ResolvedClosure → List Value → w.plain.Act Value
  enters_closure_with go (Some c) args = does_code go c.frame args c.code
  enters_closure_with go None args = w.plain.fails (bad_argument 50)

  -- what follows on what a primitive comes to: its ticks, then its event, then its change of the heap; or its fault; or the closure that it enters
  abbrev pub follows_on : ResolvedEvaluator → List Value → PrimResult → w.plain.Act Value
  follows_on go args (answers n told v h) =
      w.plain.and_then (w.plain.pays n nil_value) (λ u. w.plain.and_then (tells_any w.plain told) (λ u. w.plain.with_memory (λ m. (v, record m { heap = h }))))
  follows_on go args (faults e) = w.plain.fails e
  follows_on go args (enters k) = w.plain.and_then (w.looks_at (λ cs m. slice_get cs k)) (λ c. enters_closure_with go c args)

  -- the primitive of a number
  abbrev pub does_primitive_of : ResolvedImage → ResolvedEvaluator → ℕ → Value → List Value → w.plain.Act Value
  does_primitive_of i go n v args =
      w.plain.and_then (w.looks_at (λ cs m. primitive (record { number = n; receiver = v; arguments = args; heap = m.heap; arity = parameters_in cs; classes = i.classes })))
      (λ r. follows_on go args r)

  -- a method is run: its primitive, or its statements in a new home, and then it gives self
  abbrev pub runs_method : ResolvedImage → ResolvedEvaluator → ResolvedMethod → Doing → Value → List Value → w.plain.Act Value
  runs_method i go m (by_primitive n) v args = does_primitive_of i go n v args
  runs_method i go m (by_code c) v args =
      w.plain.and_then (makes_home w.plain) (λ h. w.plain.at_home h (w.plain.and_then (does_code go (first_frame m.class m.meta v h) args c) (λ u. w.plain.gives v)))

  -- the method that was found is run; where there is none the receiver does not understand
  abbrev pub runs_one : ResolvedImage → ResolvedEvaluator → Option ResolvedMethod → Value → Name → List Value → w.plain.Act Value
  runs_one i go (Some m) v s args = runs_method i go m m.doing v args
  runs_one i go None v s args = w.plain.and_then (looks w.plain (λ m. class_name_of m.heap v)) (λ c. w.plain.fails (does_not_understand c (is_meta v) s))

  -- a message to a value
  abbrev pub sends_to : ResolvedImage → ResolvedEvaluator → Value → Name → List Value → w.plain.Act Value
  sends_to i go v s args =
      w.plain.and_then (looks w.plain (λ m. class_name_of m.heap v)) (λ c. runs_one i go (finds i (Some c) (is_meta v) s) v s args)

  -- a message to `super`, from the class and side of the running method
  abbrev pub sends_to_super : ResolvedImage → ResolvedEvaluator → ResolvedFrame → Value → Name → List Value → w.plain.Act Value
  sends_to_super i go f v s args = runs_one i go (finds_above i f.home.class f.home.meta s) v s args

  -- the message of a send to a receiver
  abbrev pub sends_message : ResolvedImage → ResolvedEvaluator → ResolvedFrame → ResolvedTree → Value → Name → List Value → w.plain.Act Value
  sends_message i go f r v s args = if reads_super r then sends_to_super i go f v s args else sends_to i go v s args

  -- a branch
  abbrev pub takes_branch : ResolvedEvaluator → ResolvedFrame → ResolvedBranch → w.plain.Act Value
  takes_branch go f (runs_code c) = does_code go f [] c
  takes_branch go f (gives_just v) = w.plain.gives v

  -- a send by its shape: receiver, then the branch that it chooses; a loop; or receiver, arguments and then the message
  abbrev pub does_sending : ResolvedImage → ResolvedEvaluator → ResolvedFrame → ResolvedTree → Name → ResolvedTrees → ResolvedShape → w.plain.Act Value
  does_sending i go f r s args (chooses_way a b) = w.plain.and_then (go (at_node f r)) (λ v. chooses w.plain v (takes_branch go f a) (takes_branch go f b))
  does_sending i go f r s args (repeats sense a b) = go (at_turn f sense a b)
  does_sending i go f r s args as_message = w.plain.and_then (go (at_node f r)) (λ v. w.plain.and_then (node_values go f args) (λ vs. sends_message i go f r v s vs))

  -- a turn of a loop: the test, and where it goes on the body and the next turn; then nil
  abbrev pub takes_turn : ResolvedEvaluator → ResolvedFrame → Bool → ResolvedCode → ResolvedCode → w.plain.Act Value
  takes_turn go f sense a b = w.plain.and_then (does_code go f [] a) (λ v. goes_on w.plain sense v (w.plain.and_then (does_code go f [] b) (λ u. go (at_turn f sense a b))))

  -- each message of a cascade to a receiver with its arguments, in order; x is the value of the one before
  abbrev pub sends_each : ResolvedImage → ResolvedEvaluator → ResolvedFrame → Value → Value → ResolvedMessages → w.plain.Act Value
  sends_each i go f v x no_sends = w.plain.gives x
  sends_each i go f v x (more_sends s args ms) =
      w.plain.and_then (node_values go f args) (λ vs. w.plain.and_then (sends_to i go v s vs) (λ u. sends_each i go f v u ms))

  -- a return to the home of a frame, which has not ended
  abbrev pub returns_to : ResolvedFrame → Value → Bool → w.plain.Act Value
  returns_to f v true = w.plain.goes_home f.home.number v
  returns_to f v false = w.plain.fails cannot_return

  -- a node, once its tick is taken
  abbrev pub does_resolved : ResolvedImage → ResolvedEvaluator → ResolvedFrame → ResolvedTree → w.plain.Act Value
  does_resolved i go f (reading r) = reads_reference f r
  does_resolved i go f (constant l) = literal_value w.plain l
  does_resolved i go f (sending r s args) = does_sending i go f r s args (resolved_shape s r args)
  does_resolved i go f (cascading r ms) = w.plain.and_then (go (at_node f r)) (λ v. sends_each i go f v nil_value ms)
  does_resolved i go f (assigning n t) = w.plain.and_then (go (at_node f t)) (λ v. assigns_target f v n)
  does_resolved i go f (block_of ps ts ss) = w.keeps (record { code = record { parameters = ps; temporaries = ts; statements = ss }; frame = f })
  does_resolved i go f (brace_of ts) = w.plain.and_then (node_values go f ts) (λ vs. makes_brace w.plain vs)
  does_resolved i go f (returning t) = w.plain.and_then (go (at_node f t)) (λ v. w.plain.and_then (looks w.plain (λ m. lives m f.home.number)) (λ b. returns_to f v b))

  -- one step: a node takes a tick first, a turn takes none
  abbrev pub resolved_step : ResolvedImage → ResolvedEvaluator → ResolvedEvaluator
  resolved_step i go (at_node f t) = w.plain.and_then (w.plain.pays 1 nil_value) (λ u. does_resolved i go f t)
  resolved_step i go (at_turn f sense a b) = takes_turn go f sense a b

  -- the evaluator with so much depth, which falls by one at each node and at each turn of a loop
  abbrev pub resolved_eval : ResolvedImage → ℕ → ResolvedEvaluator
  resolved_eval i zero t = w.plain.stops
  resolved_eval i (suc d) t = resolved_step i (resolved_eval i d) t
