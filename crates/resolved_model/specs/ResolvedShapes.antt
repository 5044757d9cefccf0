-- Control sends by their selectors and blocks, over resolved trees.
use Rattle.std.specs.Prelude.{zero, suc, Bool, true, false, if◌then◌else◌, Option, Some, None, option_map, option_and_then, unwrap_or, codes}
use Rattle.rb_base.specs.Names.{text_eq}
use Rattle.run_model.specs.Values.{Name, Value, nil_value, true_value, false_value}
use Rattle.resolved_model.specs.ResolvedTrees.{ResolvedTree, reading, constant, sending, cascading, assigning, block_of, brace_of, returning, ResolvedTrees, no_nodes, more_nodes, ResolvedCode}

-- a branch of a control send: a block that is run in place, or a value
pub data ResolvedBranch : Type 0 where
  runs_code : ResolvedCode → ResolvedBranch
  gives_just : Value → ResolvedBranch

-- a control send: two ways, for true and for false, or a loop that goes on while its test is what is said; or a message
pub data ResolvedShape : Type 0 where
  chooses_way : ResolvedBranch → ResolvedBranch → ResolvedShape
  repeats : Bool → ResolvedCode → ResolvedCode → ResolvedShape
  as_message : ResolvedShape

-- the code of a block without parameters
abbrev pub plain_code : ResolvedTree → Option ResolvedCode
plain_code (block_of zero ts ss) = Some (record { parameters = 0; temporaries = ts; statements = ss })
plain_code (block_of (suc p) ts ss) = None
plain_code (reading r) = None
plain_code (constant l) = None
plain_code (sending r s args) = None
plain_code (cascading r ms) = None
plain_code (assigning n t) = None
plain_code (brace_of ts) = None
plain_code (returning t) = None

-- the one argument, where it is a block without parameters
abbrev pub one_code : ResolvedTrees → Option ResolvedCode
one_code no_nodes = None
one_code (more_nodes t no_nodes) = plain_code t
one_code (more_nodes t (more_nodes u us)) = None

-- the two arguments, where they are blocks without parameters
abbrev pub two_codes : ResolvedTrees → Option (ResolvedCode × ResolvedCode)
two_codes no_nodes = None
two_codes (more_nodes t us) = option_and_then (λ a. option_map (λ b. (a, b)) (one_code us)) (plain_code t)

-- the shape of a send whose one argument is to be a block
abbrev pub with_code : ResolvedTrees → (ResolvedCode → ResolvedShape) → ResolvedShape
with_code args go = unwrap_or (option_map go (one_code args)) as_message

-- the shape of a send whose two arguments are to be blocks
abbrev pub with_codes : ResolvedTrees → (ResolvedCode → ResolvedCode → ResolvedShape) → ResolvedShape
with_codes args go = unwrap_or (option_map (λ p. go p.0 p.1) (two_codes args)) as_message

-- the shape of a send whose receiver and one argument are to be blocks
abbrev pub with_repeat : ResolvedTree → ResolvedTrees → Bool → ResolvedShape
with_repeat r args sense = unwrap_or (option_map (λ a. with_code args (λ b. repeats sense a b)) (plain_code r)) as_message

-- The shape of a send by its selector, receiver and arguments. A branch that is not there gives nil, but `and:` false and `or:` true.
unfoldable pub resolved_shape : Name → ResolvedTree → ResolvedTrees → ResolvedShape
resolved_shape s r args =
    if text_eq s (codes "ifTrue:") then with_code args (λ a. chooses_way (runs_code a) (gives_just nil_value))
    else if text_eq s (codes "ifFalse:") then with_code args (λ a. chooses_way (gives_just nil_value) (runs_code a))
    else if text_eq s (codes "ifTrue:ifFalse:") then with_codes args (λ a b. chooses_way (runs_code a) (runs_code b))
    else if text_eq s (codes "ifFalse:ifTrue:") then with_codes args (λ a b. chooses_way (runs_code b) (runs_code a))
    else if text_eq s (codes "and:") then with_code args (λ a. chooses_way (runs_code a) (gives_just false_value))
    else if text_eq s (codes "or:") then with_code args (λ a. chooses_way (gives_just true_value) (runs_code a))
    else if text_eq s (codes "whileTrue:") then with_repeat r args true
    else if text_eq s (codes "whileFalse:") then with_repeat r args false
    else as_message
