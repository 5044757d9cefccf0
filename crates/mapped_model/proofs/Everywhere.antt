-- Code of which any variable is its own.
use Rattle.resolved_model.specs.ResolvedTrees.{Reference, of_word, of_local, of_instance_variable, of_class_side_variable, of_class_variable, of_named_class, of_transcript, of_nothing, Target, to_temporary, to_instance_variable, to_class_side_variable, to_class_variable, to_fixed, to_nothing, ResolvedTree, reading, constant, sending, cascading, assigning, block_of, brace_of, returning, ResolvedTrees, no_nodes, more_nodes, ResolvedMessages, no_sends, more_sends, ResolvedStatements, no_lines, more_lines}
use Rattle.resolved_model.specs.ResolvedImages.{Doing, by_primitive, by_code}
use Rattle.run_model.specs.Values.{Name}
use Rattle.mapped_model.specs.OwnVariables.{OwnReference, OwnTarget, OwnTree, OwnTrees, OwnMessages, OwnStatements, OwnDoing}

-- any name
abbrev pub Any : Name → Type 0
Any n = Unit {0}

own-reference : (r : Reference) → OwnReference Any Any r
own-reference (of_word n) = tt
own-reference (of_local k) = tt
own-reference (of_instance_variable n) = tt
own-reference (of_class_side_variable n) = tt
own-reference (of_class_variable c n) = tt
own-reference (of_named_class c) = tt
own-reference of_transcript = tt
own-reference (of_nothing n) = tt

own-target : (t : Target) → OwnTarget Any Any t
own-target (to_temporary k) = tt
own-target (to_instance_variable n) = tt
own-target (to_class_side_variable n) = tt
own-target (to_class_variable c n) = tt
own-target (to_fixed n) = tt
own-target (to_nothing n) = tt

mutual
  own-tree : (t : ResolvedTree) → OwnTree Any Any t
  own-tree (reading r) = own-reference r
  own-tree (constant l) = tt
  own-tree (sending r s args) = (own-tree r, own-trees args)
  own-tree (cascading r ms) = (own-tree r, own-messages ms)
  own-tree (assigning n t) = (own-target n, own-tree t)
  own-tree (block_of ps ts ss) = own-statements ss
  own-tree (brace_of ts) = own-trees ts
  own-tree (returning t) = own-tree t

  own-trees : (ts : ResolvedTrees) → OwnTrees Any Any ts
  own-trees no_nodes = tt
  own-trees (more_nodes t ts) = (own-tree t, own-trees ts)

  own-messages : (ms : ResolvedMessages) → OwnMessages Any Any ms
  own-messages no_sends = tt
  own-messages (more_sends s args ms) = (own-trees args, own-messages ms)

  pub own-statements : (ss : ResolvedStatements) → OwnStatements Any Any ss
  own-statements no_lines = tt
  own-statements (more_lines t ss) = (own-tree t, own-statements ss)

-- what a method does
pub own-doing : (d : Doing) → OwnDoing Any Any d
own-doing (by_primitive n) = tt
own-doing (by_code c) = own-statements c.statements
