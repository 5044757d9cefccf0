-- What is evaluated and how: each step takes the evaluator of the parts below as an argument, and the evaluator itself stands at the end, by the depth that is left.
use Rattle.std.specs.Prelude.{ℕ, ◌+◌, ◌*◌, ◌+◌, ◌*◌, ℤ, zero, suc, ◌∷◌, [], ◌++◌, nat_lt, if◌then◌else◌, Bool, true, false, List, length, slice_get, Option, Some, None, codes}
use Rattle.rb_base.specs.Names.{text_eq}
use Rattle.tree_model.specs.Tree.{LiteralOf, number, str, symbol, char, array, bytes, word, LiteralsOf, no_literals, more_literals, TreeOf, var, literal, send, cascade, assign, block, brace, return, TreesOf, no_trees, more_trees, MessagesOf, no_messages, more_messages, StatementsOf, no_statements, more_statements, SequenceOf}
use Rattle.image_model.specs.Image.{EntryOf, ImageOf}
use Rattle.image_model.specs.Words.{text_words}
use Rattle.image_model.specs.Lookup.{lookup, super_lookup}
use Rattle.run_model.specs.Values.{Name, Value, nil_value, true_value, false_value, int_value, char_value, string_value, symbol_value, class_value, object_value, array_value, closure_value, transcript_value, Event, does_not_understand, cannot_return, non_boolean, unsupported, bad_argument, too_long}
use Rattle.run_model.specs.Store.{holds, in_cell, Slot, Frame, Closure, with_new_cells, with_closure, with_home, with_array, lives, arity_in}
use Rattle.run_model.specs.Operations.{Operations, looks}
use Rattle.run_model.specs.Acts.{acts}
use Rattle.run_model.specs.Numbers.{numeral_integer}
use Rattle.run_model.specs.Views.{class_name_of, is_meta}
use Rattle.run_model.specs.Calls.{PrimResult, answers, faults, enters}
use Rattle.run_model.specs.Primitives.{primitive}
use Rattle.run_model.specs.Reading.{reads, assigns}
use Rattle.run_model.specs.Shapes.{Branch, runs, is_just, Shape, two_ways, loops, a_message, shape_of}

-- what is to be evaluated: a node, or a turn of a loop with its test and its body
pub data Task : Type 0 where
  node : Frame → TreeOf Name → Task
  turn : Frame → Bool → SequenceOf Name → SequenceOf Name → Task

-- the value of `nil`, `true` or `false` inside an array
abbrev pub word_value : Name → Value
word_value n = if text_eq n (codes "true") then true_value else if text_eq n (codes "false") then false_value else nil_value

-- arguments or parameters with their values; one without a value is nil, but no message that is spelled has fewer arguments than its selector demands
abbrev pub held : List Name → List Value → List Slot
held [] vs = []
held (p ∷ ps) [] = record { name = p; binding = holds nil_value } ∷ held ps []
held (p ∷ ps) (v ∷ vs) = record { name = p; binding = holds v } ∷ held ps vs

-- temporaries with cells from a number on
abbrev pub in_cells : List Name → ℕ → List Slot
in_cells [] k = []
in_cells (t ∷ ts) k = record { name = t; binding = in_cell k } ∷ in_cells ts (suc k)

-- a frame with further names inside the others
abbrev pub inside : Frame → List Slot → Frame
inside f slots = record f { slots = slots ++ f.slots }

-- where a method's or do-it's statements run
abbrev pub outermost : Option Name → Bool → Value → ℕ → Frame
outermost c meta v h = record { slots = []; me = v; home = record { number = h; class = c; meta = meta } }

-- whether a tree is the name `super`
abbrev pub is_super : TreeOf Name → Bool
is_super (var n) = text_eq n (codes "super")
is_super (literal l) = false
is_super (send r s args) = false
is_super (cascade r ms) = false
is_super (assign n t) = false
is_super (block ps ts ss e) = false
is_super (brace ts) = false
is_super (return t) = false

module _ (w : Operations) where
  -- an evaluator
  abbrev pub Evaluator : Type 0
  Evaluator = Task → w.Act Value

  -- gives a new array of these values
  abbrev pub makes_new_array : List Value → w.Act Value
  makes_new_array vs = w.with_memory (λ m. (array_value (length m.heap.arrays), record m { heap = with_array m.heap vs }))

  -- gives an integer that is one of 64 bits; another numeral is only kept
  abbrev pub gives_integer : Option ℤ → w.Act Value
  gives_integer (Some z) = w.gives (int_value z)
  gives_integer None = w.fails unsupported

  -- The value of a literal: each array in it is a new one, and an opaque numeral or a byte array is unsupported.
  abbrev mutual
    pub literal_value : LiteralOf Name → w.Act Value
    literal_value (number t) = gives_integer (numeral_integer t)
    literal_value (str t) = w.gives (string_value t)
    literal_value (symbol t) = w.gives (symbol_value t)
    literal_value (char b) = w.gives (char_value b)
    literal_value (array ls) = w.and_then (literal_values ls) (λ vs. makes_new_array vs)
    literal_value (bytes ls) = w.fails unsupported
    literal_value (word n) = w.gives (word_value n)

    pub literal_values : LiteralsOf Name → w.Act (List Value)
    literal_values no_literals = w.gives []
    literal_values (more_literals l ls) = w.and_then (literal_value l) (λ v. w.and_then (literal_values ls) (λ vs. w.gives (v ∷ vs)))

  -- each statement in order; v is the value of the one before
  abbrev pub statements : Evaluator → Frame → Value → StatementsOf Name → w.Act Value
  statements go f v no_statements = w.gives v
  statements go f v (more_statements c t ss) = w.and_then (go (node f t)) (λ u. statements go f u ss)

  -- the values of trees from the left
  abbrev pub values : Evaluator → Frame → TreesOf Name → w.Act (List Value)
  values go f no_trees = w.gives []
  values go f (more_trees t ts) = w.and_then (go (node f t)) (λ v. w.and_then (values go f ts) (λ vs. w.gives (v ∷ vs)))

  -- new cells for temporaries, and the number of the first of them
  abbrev pub makes_cells : List Name → w.Act ℕ
  makes_cells ts = w.with_memory (λ m. (length m.cells, with_new_cells m ts))

  -- A sequence with parameters that have these values and with new cells for its temporaries; its value is that of its last statement, and nil where there is none.
  abbrev pub sequence : Evaluator → Frame → List Name → List Value → SequenceOf Name → w.Act Value
  sequence go f ps vs b =
      w.and_then (makes_cells b.temporaries) (λ k. statements go (inside f (held ps vs ++ in_cells b.temporaries k)) nil_value b.statements)

  -- a block that is run in place
  abbrev pub in_place : Evaluator → Frame → SequenceOf Name → w.Act Value
  in_place go f b = sequence go f [] [] b

  -- a closure is run with arguments
  abbrev pub enters_with : Evaluator → Option Closure → List Value → w.Act Value
  enters_with go (Some c) args = sequence go c.frame c.parameters args c.body
  enters_with go None args = w.fails (bad_argument 50)

  -- tells an event, if there is one
  abbrev pub tells_any : Option Event → w.Act Value
  tells_any (Some e) = w.tells e nil_value
  tells_any None = w.gives nil_value

  -- what follows on what a primitive comes to: its ticks, then its event, then its change of the heap; or its fault; or the closure that it enters
  abbrev pub follows : Evaluator → List Value → PrimResult → w.Act Value
  follows go args (answers n told v h) =
      w.and_then (w.pays n nil_value) (λ u. w.and_then (tells_any told) (λ u. w.with_memory (λ m. (v, record m { heap = h }))))
  follows go args (faults e) = w.fails e
  follows go args (enters k) = w.and_then (looks w (λ m. slice_get m.closures k)) (λ c. enters_with go c args)

  -- the primitive of a number
  abbrev pub does_primitive : ImageOf Name → Evaluator → ℕ → Value → List Value → w.Act Value
  does_primitive i go n v args =
      w.and_then (looks w (λ m. primitive (record { number = n; receiver = v; arguments = args; heap = m.heap; arity = arity_in m.closures; classes = i.classes })))
      (λ r. follows go args r)

  -- a new home, which lives, and its number
  abbrev pub makes_home : w.Act ℕ
  makes_home = w.with_memory (λ m. (length m.homes, with_home m))

  -- a method without primitive: its statements in a new home, and then self
  abbrev pub does_body : Evaluator → EntryOf Name → Value → List Value → w.Act Value
  does_body go m v args =
      w.and_then makes_home (λ h. w.at_home h (w.and_then (sequence go (outermost m.class m.meta v h) m.tree.arguments args m.tree.body) (λ u. w.gives v)))

  -- a method is run: its primitive, or its statements
  abbrev pub does : ImageOf Name → Evaluator → Option ℕ → EntryOf Name → Value → List Value → w.Act Value
  does i go (Some n) m v args = does_primitive i go n v args
  does i go None m v args = does_body go m v args

  -- the method that was found is run; where there is none the receiver does not understand
  abbrev pub runs_found : ImageOf Name → Evaluator → Option (EntryOf Name) → Value → Name → List Value → w.Act Value
  runs_found i go (Some m) v s args = does i go m.tree.primitive m v args
  runs_found i go None v s args = w.and_then (looks w (λ m. class_name_of m.heap v)) (λ c. w.fails (does_not_understand c (is_meta v) s))

  -- a message to a value
  abbrev pub message : ImageOf Name → Evaluator → Value → Name → List Value → w.Act Value
  message i go v s args =
      w.and_then (looks w (λ m. class_name_of m.heap v)) (λ c. runs_found i go (lookup text_words i (Some c) (is_meta v) s) v s args)

  -- a message to `super`, from the class and side of the running method
  abbrev pub super_message : ImageOf Name → Evaluator → Frame → Value → Name → List Value → w.Act Value
  super_message i go f v s args = runs_found i go (super_lookup text_words i f.home.class f.home.meta s) v s args

  -- the message of a send to a receiver
  abbrev pub sends : ImageOf Name → Evaluator → Frame → TreeOf Name → Value → Name → List Value → w.Act Value
  sends i go f r v s args = if is_super r then super_message i go f v s args else message i go v s args

  -- the first act for true, the second for false; any other value is no Boolean
  abbrev pub chooses : Value → w.Act Value → w.Act Value → w.Act Value
  chooses true_value a b = a
  chooses false_value a b = b
  chooses nil_value a b = w.fails non_boolean
  chooses (int_value z) a b = w.fails non_boolean
  chooses (char_value c) a b = w.fails non_boolean
  chooses (string_value t) a b = w.fails non_boolean
  chooses (symbol_value t) a b = w.fails non_boolean
  chooses (class_value c) a b = w.fails non_boolean
  chooses (object_value k) a b = w.fails non_boolean
  chooses (array_value k) a b = w.fails non_boolean
  chooses (closure_value k) a b = w.fails non_boolean
  chooses transcript_value a b = w.fails non_boolean

  -- a branch
  abbrev pub takes : Evaluator → Frame → Branch → w.Act Value
  takes go f (runs b) = in_place go f b
  takes go f (is_just v) = w.gives v

  -- a send by its shape: receiver, then the branch that it chooses; a loop; or receiver, arguments and then the message
  abbrev pub does_send : ImageOf Name → Evaluator → Frame → TreeOf Name → Name → TreesOf Name → Shape → w.Act Value
  does_send i go f r s args (two_ways a b) = w.and_then (go (node f r)) (λ v. chooses v (takes go f a) (takes go f b))
  does_send i go f r s args (loops sense a b) = go (turn f sense a b)
  does_send i go f r s args a_message = w.and_then (go (node f r)) (λ v. w.and_then (values go f args) (λ vs. sends i go f r v s vs))

  -- the loop goes on for true, or for false
  abbrev pub goes_on : Bool → Value → w.Act Value → w.Act Value
  goes_on true v again = chooses v again (w.gives nil_value)
  goes_on false v again = chooses v (w.gives nil_value) again

  -- a turn of a loop: the test, and where it goes on the body and the next turn; then nil
  abbrev pub does_turn : Evaluator → Frame → Bool → SequenceOf Name → SequenceOf Name → w.Act Value
  does_turn go f sense a b = w.and_then (in_place go f a) (λ v. goes_on sense v (w.and_then (in_place go f b) (λ u. go (turn f sense a b))))

  -- each message of a cascade to a receiver with its arguments, in order; x is the value of the one before
  abbrev pub messages : ImageOf Name → Evaluator → Frame → Value → Value → MessagesOf Name → w.Act Value
  messages i go f v x no_messages = w.gives x
  messages i go f v x (more_messages s args ms) =
      w.and_then (values go f args) (λ vs. w.and_then (message i go v s vs) (λ u. messages i go f v u ms))

  -- gives a new closure of a block
  abbrev pub makes_closure : List Name → SequenceOf Name → Frame → w.Act Value
  makes_closure ps b f = w.with_memory (λ m. (closure_value (length m.closures), with_closure m (record { parameters = ps; body = b; frame = f })))

  -- a new array of the values of a brace, which is at most 65,535 long
  abbrev pub makes_brace : List Value → w.Act Value
  makes_brace vs = if nat_lt 65535 (length vs) then w.fails too_long else makes_new_array vs

  -- a return to the home of a frame, which has not ended
  abbrev pub returns_home : Frame → Value → Bool → w.Act Value
  returns_home f v true = w.goes_home f.home.number v
  returns_home f v false = w.fails cannot_return

  -- a node, once its tick is taken
  abbrev pub does_node : ImageOf Name → Evaluator → Frame → TreeOf Name → w.Act Value
  does_node i go f (var n) = reads w i f n
  does_node i go f (literal l) = literal_value l
  does_node i go f (send r s args) = does_send i go f r s args (shape_of s r args)
  does_node i go f (cascade r ms) = w.and_then (go (node f r)) (λ v. messages i go f v nil_value ms)
  does_node i go f (assign n t) = w.and_then (go (node f t)) (λ v. assigns w i f n v)
  does_node i go f (block ps ts ss e) = makes_closure ps (record { temporaries = ts; statements = ss; tail = e }) f
  does_node i go f (brace ts) = w.and_then (values go f ts) (λ vs. makes_brace vs)
  does_node i go f (return t) = w.and_then (go (node f t)) (λ v. w.and_then (looks w (λ m. lives m f.home.number)) (λ b. returns_home f v b))

  -- one step: a node takes a tick first, a turn takes none
  abbrev pub step : ImageOf Name → Evaluator → Evaluator
  step i go (node f t) = w.and_then (w.pays 1 nil_value) (λ u. does_node i go f t)
  step i go (turn f sense a b) = does_turn go f sense a b

  -- the evaluator with so much depth, which falls by one at each node and at each turn of a loop
  abbrev pub eval : ImageOf Name → ℕ → Evaluator
  eval i zero t = w.stops
  eval i (suc d) t = step i (eval i d) t

-- the evaluator with depth enough for the ticks that are left
unfoldable pub evaluates : ImageOf Name → Evaluator acts
evaluates i t s = eval acts i (2 * s.ticks + 2) t s
