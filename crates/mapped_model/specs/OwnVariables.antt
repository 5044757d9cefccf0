-- Code that reads and assigns no instance variables and class-instance variables but its own.
use Rattle.run_model.specs.Values.{Name}
use Rattle.resolved_model.specs.ResolvedTrees.{Reference, of_word, of_local, of_instance_variable, of_class_side_variable, of_class_variable, of_named_class, of_transcript, of_nothing, Target, to_temporary, to_instance_variable, to_class_side_variable, to_class_variable, to_fixed, to_nothing, ResolvedTree, reading, constant, sending, cascading, assigning, block_of, brace_of, returning, ResolvedTrees, no_nodes, more_nodes, ResolvedMessages, no_sends, more_sends, ResolvedStatements, no_lines, more_lines}
use Rattle.resolved_model.specs.ResolvedImages.{Doing, by_primitive, by_code}

-- by which names are its own instance variables, and which its own class-instance variables
module _ (Instance ClassSide : Name → Type 0) where
  -- what is read is no variable of another class
  abbrev pub OwnReference : Reference → Type 0
  OwnReference (of_word n) = Unit {0}
  OwnReference (of_local k) = Unit {0}
  OwnReference (of_instance_variable n) = Instance n
  OwnReference (of_class_side_variable n) = ClassSide n
  OwnReference (of_class_variable c n) = Unit {0}
  OwnReference (of_named_class c) = Unit {0}
  OwnReference of_transcript = Unit {0}
  OwnReference (of_nothing n) = Unit {0}

  -- what is assigned is none
  abbrev pub OwnTarget : Target → Type 0
  OwnTarget (to_temporary k) = Unit {0}
  OwnTarget (to_instance_variable n) = Instance n
  OwnTarget (to_class_side_variable n) = ClassSide n
  OwnTarget (to_class_variable c n) = Unit {0}
  OwnTarget (to_fixed n) = Unit {0}
  OwnTarget (to_nothing n) = Unit {0}

  -- so it is at each place of a node
  abbrev mutual
    pub OwnTree : ResolvedTree → Type 0
    OwnTree (reading r) = OwnReference r
    OwnTree (constant l) = Unit {0}
    OwnTree (sending r s args) = OwnTree r × OwnTrees args
    OwnTree (cascading r ms) = OwnTree r × OwnMessages ms
    OwnTree (assigning n t) = OwnTarget n × OwnTree t
    OwnTree (block_of ps ts ss) = OwnStatements ss
    OwnTree (brace_of ts) = OwnTrees ts
    OwnTree (returning t) = OwnTree t

    pub OwnTrees : ResolvedTrees → Type 0
    OwnTrees no_nodes = Unit {0}
    OwnTrees (more_nodes t ts) = OwnTree t × OwnTrees ts

    pub OwnMessages : ResolvedMessages → Type 0
    OwnMessages no_sends = Unit {0}
    OwnMessages (more_sends s args ms) = OwnTrees args × OwnMessages ms

    pub OwnStatements : ResolvedStatements → Type 0
    OwnStatements no_lines = Unit {0}
    OwnStatements (more_lines t ss) = OwnTree t × OwnStatements ss

  -- and in what a method does
  abbrev pub OwnDoing : Doing → Type 0
  OwnDoing (by_primitive n) = Unit {0}
  OwnDoing (by_code c) = OwnStatements c.statements
