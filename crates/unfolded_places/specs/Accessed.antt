-- Code in which a variable is read and assigned by messages to self.
use Rattle.std.specs.Prelude.{Bool, true, false, ◌&&◌, if◌then◌else◌, List, Option, Some, None, codes}
use Rattle.rb_base.specs.Names.{text_eq}
use Rattle.tree_model.specs.Tree.{TreeOf, var, literal, send, cascade, assign, block, brace, return, TreesOf, no_trees, more_trees, MessagesOf, no_messages, more_messages, StatementsOf, no_statements, more_statements}
use Rattle.run_model.specs.Values.{Name}
use Rattle.resolved_model.specs.Environments.{Declared, opened, kind_in}

-- whether no declaration has the name
abbrev pub is_undeclared : Option Bool → Bool
is_undeclared (Some b) = false
is_undeclared None = true

-- whether a name among declarations is the variable, which no scope declares
abbrev pub is_variable : Name → List Declared → Name → Bool
is_variable x A n = text_eq n x && is_undeclared (kind_in A n)

module _ (x reader writer : Name) where
  -- code among declarations, with messages to self for the reads of the variable and for the assignments to it
  abbrev mutual
    pub accessed_tree : List Declared → TreeOf Name → TreeOf Name
    accessed_tree A (var n) = if is_variable x A n then send (var (codes "self")) reader no_trees else var n
    accessed_tree A (literal l) = literal l
    accessed_tree A (send r s us) = send (accessed_tree A r) s (accessed_trees A us)
    accessed_tree A (cascade r ms) = cascade (accessed_tree A r) (accessed_messages A ms)
    accessed_tree A (assign n t) = if is_variable x A n then send (var (codes "self")) writer (more_trees (accessed_tree A t) no_trees) else assign n (accessed_tree A t)
    accessed_tree A (block ps ts ss e) = block ps ts (accessed_statements (opened ps ts A) ss) e
    accessed_tree A (brace us) = brace (accessed_trees A us)
    accessed_tree A (return t) = return (accessed_tree A t)

    pub accessed_trees : List Declared → TreesOf Name → TreesOf Name
    accessed_trees A no_trees = no_trees
    accessed_trees A (more_trees t us) = more_trees (accessed_tree A t) (accessed_trees A us)

    pub accessed_messages : List Declared → MessagesOf Name → MessagesOf Name
    accessed_messages A no_messages = no_messages
    accessed_messages A (more_messages s us ms) = more_messages s (accessed_trees A us) (accessed_messages A ms)

    pub accessed_statements : List Declared → StatementsOf Name → StatementsOf Name
    accessed_statements A no_statements = no_statements
    accessed_statements A (more_statements c t ss) = more_statements c (accessed_tree A t) (accessed_statements A ss)
