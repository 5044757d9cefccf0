-- Paths into a tree, the part where one leads, and a tree with a part replaced.
use Rattle.std.specs.Prelude.{◌≡◌, ℕ, zero, suc, ◌+◌, ◌-◌, nat_lt, if◌then◌else◌, List, [], ◌∷◌, Option, Some, None, option_and_then, option_map, unwrap_or}
use Rattle.tree_model.specs.Tree.{TreeOf, var, literal, send, cascade, assign, block, brace, return, TreesOf, no_trees, more_trees, MessagesOf, no_messages, more_messages, StatementsOf, no_statements, more_statements, SequenceOf, MethodOf}

-- the trees of both, in order
abbrev pub append : {N : Type 0} → TreesOf N → TreesOf N → TreesOf N
append no_trees us = us
append (more_trees t ts) us = more_trees t (append ts us)

-- how many trees there are
abbrev pub count : {N : Type 0} → TreesOf N → ℕ
count no_trees = 0
count (more_trees t ts) = count ts + 1

-- the tree of a number, counted from 0
abbrev pub nth : {N : Type 0} → TreesOf N → ℕ → Option (TreeOf N)
nth no_trees k = None
nth (more_trees t ts) zero = Some t
nth (more_trees t ts) (suc k) = nth ts k

-- the arguments of all messages, in text order
abbrev pub all_arguments : {N : Type 0} → MessagesOf N → TreesOf N
all_arguments no_messages = no_trees
all_arguments (more_messages s args ms) = append args (all_arguments ms)

-- the nodes of the statements, in order
abbrev pub statement_trees : {N : Type 0} → StatementsOf N → TreesOf N
statement_trees no_statements = no_trees
statement_trees (more_statements c t ss) = more_trees t (statement_trees ss)

-- the nodes right below a node, in order: a receiver before the arguments
abbrev pub children : {N : Type 0} → TreeOf N → TreesOf N
children (var n) = no_trees
children (literal l) = no_trees
children (send r s args) = more_trees r args
children (cascade r ms) = more_trees r (all_arguments ms)
children (assign n t) = more_trees t no_trees
children (block ps ts ss e) = statement_trees ss
children (brace ts) = ts
children (return t) = more_trees t no_trees

-- where one step leads
abbrev pub child : {N : Type 0} → TreeOf N → ℕ → Option (TreeOf N)
child t k = nth (children t) k

-- where a path leads; the empty one leads to the node itself
abbrev pub part_at : {N : Type 0} → TreeOf N → List ℕ → Option (TreeOf N)
part_at t [] = Some t
part_at t (k ∷ ks) = option_and_then (λ c. part_at c ks) (child t k)

-- where a path into a list of trees leads: the first step is the tree's number, and the empty path leads nowhere
abbrev pub part_among : {N : Type 0} → TreesOf N → List ℕ → Option (TreeOf N)
part_among ts [] = None
part_among ts (k ∷ ks) = option_and_then (λ c. part_at c ks) (nth ts k)

-- where a path into a sequence leads: the first step is the statement's number
abbrev pub part_in : {N : Type 0} → SequenceOf N → List ℕ → Option (TreeOf N)
part_in b path = part_among (statement_trees b.statements) path

-- the same trees, with u for the tree of a number
abbrev pub with_nth : {N : Type 0} → TreesOf N → ℕ → TreeOf N → TreesOf N
with_nth no_trees k u = no_trees
with_nth (more_trees t ts) zero u = more_trees u ts
with_nth (more_trees t ts) (suc k) u = more_trees t (with_nth ts k u)

-- the same statements, with u for the node of the statement of a number
abbrev pub with_statement : {N : Type 0} → StatementsOf N → ℕ → TreeOf N → StatementsOf N
with_statement no_statements k u = no_statements
with_statement (more_statements c t ss) zero u = more_statements c u ss
with_statement (more_statements c t ss) (suc k) u = more_statements c t (with_statement ss k u)

-- the same messages, with u for the argument of a number, counted through all messages
abbrev pub with_argument : {N : Type 0} → MessagesOf N → ℕ → TreeOf N → MessagesOf N
with_argument no_messages k u = no_messages
with_argument (more_messages s args ms) k u =
    if nat_lt k (count args) then more_messages s (with_nth args k u) ms else more_messages s args (with_argument ms (k - count args) u)

-- the same node, with u where one step leads
abbrev pub with_child : {N : Type 0} → TreeOf N → ℕ → TreeOf N → TreeOf N
with_child (var n) k u = var n
with_child (literal l) k u = literal l
with_child (send r s args) zero u = send u s args
with_child (send r s args) (suc k) u = send r s (with_nth args k u)
with_child (cascade r ms) zero u = cascade u ms
with_child (cascade r ms) (suc k) u = cascade r (with_argument ms k u)
with_child (assign n t) zero u = assign n u
with_child (assign n t) (suc k) u = assign n t
with_child (block ps ts ss e) k u = block ps ts (with_statement ss k u) e
with_child (brace ts) k u = brace (with_nth ts k u)
with_child (return t) zero u = return u
with_child (return t) (suc k) u = return t

-- the same tree, with u where a path leads; where it leads nowhere nothing changes
abbrev pub replaced : {N : Type 0} → TreeOf N → List ℕ → TreeOf N → TreeOf N
replaced t [] u = u
replaced t (k ∷ ks) u = unwrap_or (option_map (λ c. with_child t k (replaced c ks u)) (child t k)) t

-- the same statements, with u where a path into them leads
abbrev pub statements_replaced : {N : Type 0} → StatementsOf N → List ℕ → TreeOf N → StatementsOf N
statements_replaced ss [] u = ss
statements_replaced ss (k ∷ ks) u =
    unwrap_or (option_map (λ c. with_statement ss k (replaced c ks u)) (nth (statement_trees ss) k)) ss

-- the same sequence, with u where a path leads
abbrev pub replaced_in : {N : Type 0} → SequenceOf N → List ℕ → TreeOf N → SequenceOf N
replaced_in b path u = record b { statements = statements_replaced b.statements path u }

-- the same method, with u where a path into its body leads
abbrev pub method_replaced : {N : Type 0} → MethodOf N → List ℕ → TreeOf N → MethodOf N
method_replaced m path u = record m { body = replaced_in m.body path u }

-- neither path begins with the other: they part at some step
abbrev pub PartWays : List ℕ → List ℕ → Type 0
PartWays [] q = ⊥
PartWays (j ∷ p) [] = ⊥
PartWays (j ∷ p) (k ∷ q) = j ≡ k → PartWays p q
