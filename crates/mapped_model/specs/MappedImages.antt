-- Resolved images with mapped names.
use Rattle.std.specs.Prelude.{map, [], Option, option_map, unwrap_or}
use Rattle.image_model.specs.Image.{ClassOf}
use Rattle.run_model.specs.Values.{Name}
use Rattle.resolved_model.specs.ResolvedTrees.{Reference, of_word, of_local, of_instance_variable, of_class_side_variable, of_class_variable, of_named_class, of_transcript, of_nothing, Target, to_temporary, to_instance_variable, to_class_side_variable, to_class_variable, to_fixed, to_nothing, ResolvedTree, reading, constant, sending, cascading, assigning, block_of, brace_of, returning, ResolvedTrees, no_nodes, more_nodes, ResolvedMessages, no_sends, more_sends, ResolvedStatements, no_lines, more_lines, ResolvedCode}
use Rattle.resolved_model.specs.ResolvedImages.{Doing, by_primitive, by_code, ResolvedMethod, ResolvedImage, class_of_doits}
use Rattle.mapped_model.specs.NameMaps.{NameMaps}

-- the class of a method that there may be; the empty name is no class
abbrev pub class_or_none : Option Name → Name
class_or_none o = unwrap_or o []

module _ (f : NameMaps) where
  -- code of a class
  module _ (c : Name) where
    -- what is read, after
    abbrev pub mapped_reference : Reference → Reference
    mapped_reference (of_word n) = of_word n
    mapped_reference (of_local k) = of_local k
    mapped_reference (of_instance_variable n) = of_instance_variable (f.instance (c, n))
    mapped_reference (of_class_side_variable n) = of_class_side_variable (f.class_side (c, n))
    mapped_reference (of_class_variable d n) = of_class_variable (f.shared (d, n)).0 (f.shared (d, n)).1
    mapped_reference (of_named_class d) = of_named_class (f.class d)
    mapped_reference of_transcript = of_transcript
    mapped_reference (of_nothing n) = of_nothing n

    -- what is assigned, after; the name of what is not assignable is that of a class
    abbrev pub mapped_target : Target → Target
    mapped_target (to_temporary k) = to_temporary k
    mapped_target (to_instance_variable n) = to_instance_variable (f.instance (c, n))
    mapped_target (to_class_side_variable n) = to_class_side_variable (f.class_side (c, n))
    mapped_target (to_class_variable d n) = to_class_variable (f.shared (d, n)).0 (f.shared (d, n)).1
    mapped_target (to_fixed n) = to_fixed (f.class n)
    mapped_target (to_nothing n) = to_nothing n

    -- a node, after
    abbrev mutual
      pub mapped_tree : ResolvedTree → ResolvedTree
      mapped_tree (reading r) = reading (mapped_reference r)
      mapped_tree (constant l) = constant l
      mapped_tree (sending r s args) = sending (mapped_tree r) (f.selector s) (mapped_trees args)
      mapped_tree (cascading r ms) = cascading (mapped_tree r) (mapped_messages ms)
      mapped_tree (assigning n t) = assigning (mapped_target n) (mapped_tree t)
      mapped_tree (block_of ps ts ss) = block_of ps ts (mapped_statements ss)
      mapped_tree (brace_of ts) = brace_of (mapped_trees ts)
      mapped_tree (returning t) = returning (mapped_tree t)

      pub mapped_trees : ResolvedTrees → ResolvedTrees
      mapped_trees no_nodes = no_nodes
      mapped_trees (more_nodes t ts) = more_nodes (mapped_tree t) (mapped_trees ts)

      pub mapped_messages : ResolvedMessages → ResolvedMessages
      mapped_messages no_sends = no_sends
      mapped_messages (more_sends s args ms) = more_sends (f.selector s) (mapped_trees args) (mapped_messages ms)

      pub mapped_statements : ResolvedStatements → ResolvedStatements
      mapped_statements no_lines = no_lines
      mapped_statements (more_lines t ss) = more_lines (mapped_tree t) (mapped_statements ss)

    -- a method, a do-it or a block, after
    abbrev pub mapped_code : ResolvedCode → ResolvedCode
    mapped_code x = record x { statements = mapped_statements x.statements }

    -- what a method does, after
    abbrev pub mapped_doing : Doing → Doing
    mapped_doing (by_primitive n) = by_primitive n
    mapped_doing (by_code x) = by_code (mapped_code x)

  -- a method, after
  abbrev pub mapped_method : ResolvedMethod → ResolvedMethod
  mapped_method m = record { class = option_map f.class m.class; meta = m.meta; selector = f.selector m.selector; doing = mapped_doing (class_or_none m.class) m.doing }

  -- a class, after, by its name and its superclass
  abbrev pub mapped_class : ClassOf Name → ClassOf Name
  mapped_class c = record c { name = f.class c.name; superclass = option_map f.class c.superclass }

  -- the image, after
  abbrev pub mapped_image : ResolvedImage → ResolvedImage
  mapped_image i = record { classes = map mapped_class i.classes; methods = map mapped_method i.methods; doits = map (mapped_code (class_or_none (class_of_doits i))) i.doits }
