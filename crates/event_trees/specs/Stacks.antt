-- The parts of a tree that wait for what they are part of, and what an event makes of them.
use Rattle.std.specs.Prelude.{ℕ, ◌-◌, List, [], ◌∷◌, ◌++◌, take, drop, length, map}
use Rattle.tree_model.specs.Tree.{Notes, LiteralOf, number, str, symbol, char, array, bytes, word, LiteralsOf, literals_of, TreeOf, var, literal, send, cascade, assign, block, brace, return, trees_of, MessagesOf, no_messages, more_messages, StatementsOf, no_statements, more_statements}
use Rattle.grammar_model.specs.Terminal.{Text}
use Rattle.parse_events.specs.declared.event.Declaration.{Declaration}
use Rattle.parse_events.specs.declared.event.Event.{Event}
use Rattle.parse_events.specs.declared.event.Event.TheVariants as event

-- a message of a cascade
pub record MessageOf (N : Type 0) : Type 0 where
  pub selector : N
  pub arguments : List (TreeOf N)

-- a statement with its comments
pub record NotedOf (N : Type 0) : Type 0 where
  pub comments : Notes
  pub node : TreeOf N

-- what a block declares
pub record ScopeOf (N : Type 0) : Type 0 where
  pub parameters : List N
  pub temporaries : List N

-- the parts that wait, in the order in which they came; a target is a variable of an assignment that has no value yet
pub record StacksOf (N : Type 0) : Type 0 where
  pub nodes : List (TreeOf N)
  pub literals : List (LiteralOf N)
  pub messages : List (MessageOf N)
  pub statements : List (NotedOf N)
  pub targets : List N
  pub scopes : List (ScopeOf N)

-- no part waits
abbrev pub nothing : {N : Type 0} → StacksOf N
nothing = record { nodes = []; literals = []; messages = []; statements = []; targets = []; scopes = [] }

-- all but the last n items
abbrev pub front : {X : Type 0} → ℕ → List X → List X
front n xs = take (length xs - n) xs

-- the last n items, or all where there are fewer
abbrev pub last : {X : Type 0} → ℕ → List X → List X
last n xs = drop (length xs - n) xs

-- the messages of a list
abbrev pub messages_in : {N : Type 0} → List (MessageOf N) → MessagesOf N
messages_in [] = no_messages
messages_in (m ∷ ms) = more_messages m.selector (trees_of m.arguments) (messages_in ms)

-- the statements of a list
abbrev pub statements_in : {N : Type 0} → List (NotedOf N) → StatementsOf N
statements_in [] = no_statements
statements_in (s ∷ ss) = more_statements s.comments s.node (statements_in ss)

-- one more node
abbrev pub with_node : {N : Type 0} → StacksOf N → TreeOf N → StacksOf N
with_node s t = record s { nodes = s.nodes ++ t ∷ [] }

-- one more literal
abbrev pub with_literal : {N : Type 0} → StacksOf N → LiteralOf N → StacksOf N
with_literal s l = record s { literals = s.literals ++ l ∷ [] }

-- the last n literals become an array of either kind
abbrev pub with_array : {N : Type 0} → (LiteralsOf N → LiteralOf N) → StacksOf N → ℕ → StacksOf N
with_array kind s n = record s { literals = front n s.literals ++ kind (literals_of (last n s.literals)) ∷ [] }

-- the last literal becomes a node
abbrev pub with_operand : {N : Type 0} → StacksOf N → StacksOf N
with_operand s = record s { literals = front 1 s.literals; nodes = s.nodes ++ map literal (last 1 s.literals) }

-- the last n nodes are the arguments of a message to the one before them
abbrev pub with_send : {N : Type 0} → StacksOf N → N → ℕ → StacksOf N
with_send s selector n =
    record s { nodes = front 1 (front n s.nodes) ++ map (λ r. send r selector (trees_of (last n s.nodes))) (last 1 (front n s.nodes)) }

-- the last n nodes are the arguments of a message of a cascade
abbrev pub with_message : {N : Type 0} → StacksOf N → N → ℕ → StacksOf N
with_message s selector n =
    record s { nodes = front n s.nodes; messages = s.messages ++ record { selector = selector; arguments = last n s.nodes } ∷ [] }

-- the last n messages go to the last node
abbrev pub with_cascade : {N : Type 0} → StacksOf N → ℕ → StacksOf N
with_cascade s n =
    record s { messages = front n s.messages; nodes = front 1 s.nodes ++ map (λ r. cascade r (messages_in (last n s.messages))) (last 1 s.nodes) }

-- one more variable of an assignment
abbrev pub with_target : {N : Type 0} → StacksOf N → N → StacksOf N
with_target s name = record s { targets = s.targets ++ name ∷ [] }

-- the assignments of values to variables
abbrev pub assigned : {N : Type 0} → List N → List (TreeOf N) → List (TreeOf N)
assigned (n ∷ ns) (t ∷ ts) = assign n t ∷ assigned ns ts
assigned ns ts = []

-- the last node is the value of the last target
abbrev pub with_value : {N : Type 0} → StacksOf N → StacksOf N
with_value s =
    record s { targets = front 1 s.targets; nodes = front 1 s.nodes ++ assigned (last 1 s.targets) (last 1 s.nodes) }

-- one more block is opened
abbrev pub with_scope : {N : Type 0} → StacksOf N → List N → List N → StacksOf N
with_scope s parameters temporaries =
    record s { scopes = s.scopes ++ record { parameters = parameters; temporaries = temporaries } ∷ [] }

-- the last n statements and the last declarations become a block
abbrev pub with_block : {N : Type 0} → StacksOf N → ℕ → Notes → StacksOf N
with_block s n tail =
    record s {
      statements = front n s.statements;
      scopes = front 1 s.scopes;
      nodes = s.nodes ++ map (λ (d : ScopeOf _). block d.parameters d.temporaries (statements_in (last n s.statements)) tail) (last 1 s.scopes);
    }

-- the last n nodes become a brace array
abbrev pub with_brace : {N : Type 0} → StacksOf N → ℕ → StacksOf N
with_brace s n = record s { nodes = front n s.nodes ++ brace (trees_of (last n s.nodes)) ∷ [] }

-- the last node is returned
abbrev pub with_return : {N : Type 0} → StacksOf N → StacksOf N
with_return s = record s { nodes = front 1 s.nodes ++ map return (last 1 s.nodes) }

-- the last node becomes a statement
abbrev pub with_statement : {N : Type 0} → StacksOf N → Notes → StacksOf N
with_statement s comments =
    record s { nodes = front 1 s.nodes; statements = s.statements ++ map (λ t. record { comments = comments; node = t }) (last 1 s.nodes) }

-- the names of declarations, each changed
abbrev pub declared_by : {N : Type 0} → (Text → N) → List Declaration → List N
declared_by g ds = map (λ (d : Declaration). g d.name) ds

-- what an event makes of the parts, where g gives the names
abbrev pub step : {N : Type 0} → (Text → N) → StacksOf N → Event → StacksOf N
step g s (event.Number t) = with_literal s (number t)
step g s (event.Str t) = with_literal s (str t)
step g s (event.Symbol t) = with_literal s (symbol t)
step g s (event.Char b) = with_literal s (char b)
step g s (event.Word n) = with_literal s (word (g n))
step g s (event.Array n) = with_array array s n
step g s (event.Bytes n) = with_array bytes s n
step g s (event.Literal f e) = with_operand s
step g s (event.Var f e n) = with_node s (var (g n))
step g s (event.Send f e k n) = with_send s (g n) k
step g s (event.Message n k) = with_message s (g n) k
step g s (event.Cascade f e k) = with_cascade s k
step g s (event.Target f n) = with_target s (g n)
step g s (event.Assign f e) = with_value s
step g s (event.Enter ps ds) = with_scope s (declared_by g ps) (declared_by g ds)
step g s (event.Block f e k c) = with_block s k c
step g s (event.Brace f e k) = with_brace s k
step g s (event.Return f e) = with_return s
step g s (event.Statement f c) = with_statement s c

-- what events make of the parts, one after the other
abbrev pub steps : {N : Type 0} → (Text → N) → StacksOf N → List Event → StacksOf N
steps g s [] = s
steps g s (e ∷ es) = steps g (step g s e) es

-- the names in an event
abbrev pub event_names : Event → List Text
event_names (event.Word n) = n ∷ []
event_names (event.Var f e n) = n ∷ []
event_names (event.Send f e k n) = n ∷ []
event_names (event.Message n k) = n ∷ []
event_names (event.Target f n) = n ∷ []
event_names (event.Enter ps ds) = declared_by (λ n. n) ps ++ declared_by (λ n. n) ds
event_names e = []

-- the names in events
abbrev pub all_names : List Event → List Text
all_names [] = []
all_names (e ∷ es) = event_names e ++ all_names es
