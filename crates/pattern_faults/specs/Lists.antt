-- A walk through a tree, over the spans of its nodes in preorder, that finds where a second list of statements stands in a sequence.
use Rattle.std.specs.Prelude.{ℕ, if◌then◌else◌, Bool, true, false, ◌&&◌, ◌||◌, List, [], ◌∷◌, Option, Some}
use Rattle.std.specs.Option.{option_or, option_map_or}
use Rattle.tree_model.specs.Tree.{TreeOf, var, literal, send, cascade, assign, block, brace, return, TreesOf, no_trees, more_trees, MessagesOf, no_messages, more_messages, StatementsOf, no_statements, more_statements}
use Rattle.grammar_model.specs.Terminal.{Text}
use Rattle.event_spans.specs.declared.search.NodeSpan.{NodeSpan}
use Rattle.pattern_model.specs.Patterns.{list_meta}
use Rattle.pattern_model.specs.Spelled.{pattern_of}
use Rattle.pattern_faults.specs.declared.lists.Search.{Search}

-- whether a name is spelled as a metavariable for a list of statements
abbrev pub spells_list : Text → Bool
spells_list n = option_map_or (λ m. true) (list_meta (pattern_of (var n))) false

-- the spans of the nodes that are not passed yet, and where the first second list begins
abbrev pub State : Type 0
State = List NodeSpan × Option ℕ

abbrev pub state_of : Search → State
state_of w = (w.rest.now, w.found)

-- behind one more node, which is a second list or not
abbrev pub passed : Bool → List NodeSpan → Option ℕ → State
passed second [] found = ([], found)
passed second (x ∷ xs) found = (xs, if second then option_or found (Some x.span.from) else found)

module _ {N : Type 0} (lists : N → Bool) where
  -- whether a node is a list
  abbrev pub is_list : TreeOf N → Bool
  is_list (var n) = lists n
  is_list t = false

  -- behind a node, which is a second list or not, and all nodes in it
  abbrev mutual
    pub walked : Bool → TreeOf N → State → State
    walked second (var n) w = passed second w.0 w.1
    walked second (literal l) w = passed second w.0 w.1
    walked second (send r s ts) w = trees_walked ts (walked false r (passed second w.0 w.1))
    walked second (cascade r ms) w = messages_walked ms (walked false r (passed second w.0 w.1))
    walked second (assign n t) w = walked false t (passed second w.0 w.1)
    walked second (block ps ts ss e) w = statements_walked false ss (passed second w.0 w.1)
    walked second (brace ts) w = trees_walked ts (passed second w.0 w.1)
    walked second (return t) w = walked false t (passed second w.0 w.1)

    pub trees_walked : TreesOf N → State → State
    trees_walked no_trees w = w
    trees_walked (more_trees t ts) w = trees_walked ts (walked false t w)

    pub messages_walked : MessagesOf N → State → State
    messages_walked no_messages w = w
    messages_walked (more_messages s ts ms) w = messages_walked ms (trees_walked ts w)

    -- the flag says that a list stood before in the sequence
    pub statements_walked : Bool → StatementsOf N → State → State
    statements_walked had no_statements w = w
    statements_walked had (more_statements c t ss) w = statements_walked (had || is_list t) ss (walked (had && is_list t) t w)
