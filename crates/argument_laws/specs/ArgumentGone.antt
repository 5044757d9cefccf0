-- Resolved images without one argument of a selector: its messages do not pass it, and its methods do not take it.
use Rattle.std.specs.Prelude.{ℕ, zero, suc, ◌+◌, ◌-◌, nat_lt, if◌then◌else◌, Option, Some, None, option_map, map}
use Rattle.rb_base.specs.Names.{text_eq}
use Rattle.run_model.specs.Values.{Name}
use Rattle.resolved_model.specs.ResolvedTrees.{Reference, of_word, of_local, of_instance_variable, of_class_side_variable, of_class_variable, of_named_class, of_transcript, of_nothing, Target, to_temporary, to_instance_variable, to_class_side_variable, to_class_variable, to_fixed, to_nothing, ResolvedTree, reading, constant, sending, cascading, assigning, block_of, brace_of, returning, ResolvedTrees, no_nodes, more_nodes, ResolvedMessages, no_sends, more_sends, ResolvedStatements, no_lines, more_lines, ResolvedCode}
use Rattle.resolved_model.specs.ResolvedImages.{Doing, by_primitive, by_code, ResolvedMethod, ResolvedImage}

-- A gap is the place, among the locals round a node, of the parameter that goes; there is none where the node stands in no method of the selector. Inside a scope it lies behind the locals of the scope.
abbrev pub inwards : ℕ → Option ℕ → Option ℕ
inwards n gap = option_map (λ g. n + g) gap

-- the place of a local once the gap is closed
abbrev pub closed_up : Option ℕ → ℕ → ℕ
closed_up None n = n
closed_up (Some g) n = if nat_lt g n then n - 1 else n

-- one fewer where there is a gap
abbrev pub fewer : Option ℕ → ℕ → ℕ
fewer None n = n
fewer (Some g) n = n - 1

-- what is read once the gap is closed
abbrev pub reference_without : Option ℕ → Reference → Reference
reference_without gap (of_word n) = of_word n
reference_without gap (of_local n) = of_local (closed_up gap n)
reference_without gap (of_instance_variable n) = of_instance_variable n
reference_without gap (of_class_side_variable n) = of_class_side_variable n
reference_without gap (of_class_variable c n) = of_class_variable c n
reference_without gap (of_named_class c) = of_named_class c
reference_without gap of_transcript = of_transcript
reference_without gap (of_nothing n) = of_nothing n

-- what is assigned once it is closed
abbrev pub target_without : Option ℕ → Target → Target
target_without gap (to_temporary n) = to_temporary (closed_up gap n)
target_without gap (to_instance_variable n) = to_instance_variable n
target_without gap (to_class_side_variable n) = to_class_side_variable n
target_without gap (to_class_variable c n) = to_class_variable c n
target_without gap (to_fixed n) = to_fixed n
target_without gap (to_nothing n) = to_nothing n

-- nodes without the one at a place, counted from 0
abbrev pub nodes_without : ℕ → ResolvedTrees → ResolvedTrees
nodes_without k no_nodes = no_nodes
nodes_without zero (more_nodes t ts) = ts
nodes_without (suc k) (more_nodes t ts) = more_nodes t (nodes_without k ts)

-- by the selector, and the place of its argument that goes, counted from 0
module _ (s : Name) (k : ℕ) where
  -- the arguments of a message of a selector
  abbrev pub arguments_without : Name → ResolvedTrees → ResolvedTrees
  arguments_without u args = if text_eq s u then nodes_without k args else args

  -- a node
  abbrev mutual
    pub tree_without : Option ℕ → ResolvedTree → ResolvedTree
    tree_without gap (reading r) = reading (reference_without gap r)
    tree_without gap (constant l) = constant l
    tree_without gap (sending r u args) = sending (tree_without gap r) u (arguments_without u (trees_without gap args))
    tree_without gap (cascading r ms) = cascading (tree_without gap r) (messages_without gap ms)
    tree_without gap (assigning n t) = assigning (target_without gap n) (tree_without gap t)
    tree_without gap (block_of ps ts ss) = block_of ps ts (statements_without (inwards (ps + ts) gap) ss)
    tree_without gap (brace_of ts) = brace_of (trees_without gap ts)
    tree_without gap (returning t) = returning (tree_without gap t)

    pub trees_without : Option ℕ → ResolvedTrees → ResolvedTrees
    trees_without gap no_nodes = no_nodes
    trees_without gap (more_nodes t ts) = more_nodes (tree_without gap t) (trees_without gap ts)

    pub messages_without : Option ℕ → ResolvedMessages → ResolvedMessages
    messages_without gap no_sends = no_sends
    messages_without gap (more_sends u args ms) = more_sends u (arguments_without u (trees_without gap args)) (messages_without gap ms)

    pub statements_without : Option ℕ → ResolvedStatements → ResolvedStatements
    statements_without gap no_lines = no_lines
    statements_without gap (more_lines t ss) = more_lines (tree_without gap t) (statements_without gap ss)

  -- a block, behind whose locals the gap lies
  abbrev pub block_without : Option ℕ → ResolvedCode → ResolvedCode
  block_without gap c = record { parameters = c.parameters; temporaries = c.temporaries; statements = statements_without (inwards (c.parameters + c.temporaries) gap) c.statements }

  -- a method or do-it, among whose own locals the gap lies
  abbrev pub code_without : Option ℕ → ResolvedCode → ResolvedCode
  code_without gap c = record { parameters = fewer gap c.parameters; temporaries = c.temporaries; statements = statements_without gap c.statements }

  -- the gap in the methods of a selector
  abbrev pub gap_in : Name → Option ℕ
  gap_in u = if text_eq s u then Some k else None

  -- what a method of a selector does
  abbrev pub doing_without : Name → Doing → Doing
  doing_without u (by_primitive n) = by_primitive n
  doing_without u (by_code c) = by_code (code_without (gap_in u) c)

  -- a method
  abbrev pub method_without : ResolvedMethod → ResolvedMethod
  method_without m = record { class = m.class; meta = m.meta; selector = m.selector; doing = doing_without m.selector m.doing }

  -- the image
  abbrev pub image_without : ResolvedImage → ResolvedImage
  image_without i = record { classes = i.classes; methods = map method_without i.methods; doits = map (code_without None) i.doits }
