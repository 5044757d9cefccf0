-- Control sends by their shapes: which literal blocks they run in place.
use Rattle.std.specs.Prelude.{Bool, true, false, if◌then◌else◌, [], ◌∷◌, Option, Some, None, option_map, option_and_then, unwrap_or, codes}
use Rattle.rb_base.specs.Names.{text_eq}
use Rattle.tree_model.specs.Tree.{TreeOf, var, literal, send, cascade, assign, block, brace, return, TreesOf, no_trees, more_trees, SequenceOf}
use Rattle.run_model.specs.Values.{Name, Value, nil_value, true_value, false_value}

-- a branch of a control send: a block that is run in place, or a value
pub data Branch : Type 0 where
  runs : SequenceOf Name → Branch
  is_just : Value → Branch

-- a control send: two ways, for true and for false, or a loop that goes on while its test is what is said; or a message
pub data Shape : Type 0 where
  two_ways : Branch → Branch → Shape
  loops : Bool → SequenceOf Name → SequenceOf Name → Shape
  a_message : Shape

-- whether the shape is that of a message
abbrev pub is_message : Shape → Bool
is_message (two_ways a b) = false
is_message (loops sense a b) = false
is_message a_message = true

-- the sequence of a literal block without parameters
abbrev pub plain_block : TreeOf Name → Option (SequenceOf Name)
plain_block (block [] ts ss e) = Some (record { temporaries = ts; statements = ss; tail = e })
plain_block (block (p ∷ ps) ts ss e) = None
plain_block (var n) = None
plain_block (literal l) = None
plain_block (send r s args) = None
plain_block (cascade r ms) = None
plain_block (assign n t) = None
plain_block (brace ts) = None
plain_block (return t) = None

-- the one argument, where it is a literal block without parameters
abbrev pub one_block : TreesOf Name → Option (SequenceOf Name)
one_block no_trees = None
one_block (more_trees t no_trees) = plain_block t
one_block (more_trees t (more_trees u us)) = None

-- the two arguments, where they are literal blocks without parameters
abbrev pub two_blocks : TreesOf Name → Option (SequenceOf Name × SequenceOf Name)
two_blocks no_trees = None
two_blocks (more_trees t us) = option_and_then (λ a. option_map (λ b. (a, b)) (one_block us)) (plain_block t)

-- the shape of a send whose one argument is to be a block
abbrev pub with_block : TreesOf Name → (SequenceOf Name → Shape) → Shape
with_block args go = unwrap_or (option_map go (one_block args)) a_message

-- the shape of a send whose two arguments are to be blocks
abbrev pub with_blocks : TreesOf Name → (SequenceOf Name → SequenceOf Name → Shape) → Shape
with_blocks args go = unwrap_or (option_map (λ p. go p.0 p.1) (two_blocks args)) a_message

-- the shape of a send whose receiver and one argument are to be blocks
abbrev pub with_loop : TreeOf Name → TreesOf Name → Bool → Shape
with_loop r args sense = unwrap_or (option_map (λ a. with_block args (λ b. loops sense a b)) (plain_block r)) a_message

-- The shape of a send by its selector, receiver and arguments. A branch that is not there gives nil, but `and:` false and `or:` true.
unfoldable pub shape_of : Name → TreeOf Name → TreesOf Name → Shape
shape_of s r args =
    if text_eq s (codes "ifTrue:") then with_block args (λ a. two_ways (runs a) (is_just nil_value))
    else if text_eq s (codes "ifFalse:") then with_block args (λ a. two_ways (is_just nil_value) (runs a))
    else if text_eq s (codes "ifTrue:ifFalse:") then with_blocks args (λ a b. two_ways (runs a) (runs b))
    else if text_eq s (codes "ifFalse:ifTrue:") then with_blocks args (λ a b. two_ways (runs b) (runs a))
    else if text_eq s (codes "and:") then with_block args (λ a. two_ways (runs a) (is_just false_value))
    else if text_eq s (codes "or:") then with_block args (λ a. two_ways (is_just true_value) (runs a))
    else if text_eq s (codes "whileTrue:") then with_loop r args true
    else if text_eq s (codes "whileFalse:") then with_loop r args false
    else a_message
