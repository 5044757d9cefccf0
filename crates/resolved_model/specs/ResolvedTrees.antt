-- Trees in which each name is replaced by what it means at its place.
use Rattle.std.specs.Prelude.{ℕ}
use Rattle.tree_model.specs.Tree.{LiteralOf}
use Rattle.run_model.specs.Values.{Name}

-- What is read under a name: a pseudo-variable by its word; an argument or temporary by its place among those that the scopes round the node declare, counted from 0, from the innermost scope outwards, and in each scope the arguments before the temporaries; an instance variable or a class-instance variable by its name, whichever class of the chain defines it; a class variable by the class that defines it and its name; a class; `Transcript`; or nothing, with the name that the error tells.
pub data Reference : Type 0 where
  of_word : Name → Reference
  of_local : ℕ → Reference
  of_instance_variable : Name → Reference
  of_class_side_variable : Name → Reference
  of_class_variable : (definer : Name) → Name → Reference
  of_named_class : Name → Reference
  of_transcript : Reference
  of_nothing : Name → Reference

-- What is assigned under a name: a temporary by its place, counted as above; a variable of each kind, as above; or an error, which tells the name: what is meant is not assignable, or nothing is meant.
pub data Target : Type 0 where
  to_temporary : ℕ → Target
  to_instance_variable : Name → Target
  to_class_side_variable : Name → Target
  to_class_variable : (definer : Name) → Name → Target
  to_fixed : Name → Target
  to_nothing : Name → Target

mutual
  -- a node; of the parameters and temporaries of a block it is kept how many there are
  pub data ResolvedTree : Type 0 where
    reading : Reference → ResolvedTree
    constant : LiteralOf Name → ResolvedTree
    sending : ResolvedTree → Name → ResolvedTrees → ResolvedTree
    cascading : ResolvedTree → ResolvedMessages → ResolvedTree
    assigning : Target → ResolvedTree → ResolvedTree
    block_of : (parameters temporaries : ℕ) → ResolvedStatements → ResolvedTree
    brace_of : ResolvedTrees → ResolvedTree
    returning : ResolvedTree → ResolvedTree

  -- nodes in order
  pub data ResolvedTrees : Type 0 where
    no_nodes : ResolvedTrees
    more_nodes : ResolvedTree → ResolvedTrees → ResolvedTrees

  -- messages in order, each a selector and its arguments
  pub data ResolvedMessages : Type 0 where
    no_sends : ResolvedMessages
    more_sends : Name → ResolvedTrees → ResolvedMessages → ResolvedMessages

  -- statements in order
  pub data ResolvedStatements : Type 0 where
    no_lines : ResolvedStatements
    more_lines : ResolvedTree → ResolvedStatements → ResolvedStatements

-- a method, a do-it or a block: how many arguments and temporaries it has, and its statements
pub record ResolvedCode : Type 0 where
  pub parameters : ℕ
  pub temporaries : ℕ
  pub statements : ResolvedStatements
