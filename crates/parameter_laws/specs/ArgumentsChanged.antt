-- An image in which a selector has other arguments and keeps its name: each message of it passes others, and each method of it takes others.
use Rattle.std.specs.Prelude.{ℕ, List, [], ◌∷◌, ◌++◌, map, remove, Bool, if◌then◌else◌}
use Rattle.std.specs.List.{list_any}
use Rattle.tree_model.specs.Tree.{TreeOf, var, literal, send, cascade, assign, block, brace, return, TreesOf, no_trees, more_trees, MessagesOf, no_messages, more_messages, StatementsOf, no_statements, more_statements, SequenceOf, MethodOf}
use Rattle.tree_model.specs.Path.{append}
use Rattle.tree_model.specs.Nodes.{nodes}
use Rattle.image_model.specs.Image.{EntryOf, DoItOf, ImageOf}
use Rattle.image_model.specs.Uses.{is_sender}
use Rattle.rename_model.specs.ClassRenamed.{WritingOf}
use Rattle.rename_model.specs.Conditions.{speaks_of}
use Rattle.command_model.specs.Parameters.{without_nth}

-- by the selector and by what its messages pass in place of their arguments
module _ {N : Type 0} (same : N → N → Bool) (s : N) (pass : TreesOf N → TreesOf N) where
  -- the arguments of a message of a selector
  abbrev pub arguments_passed : N → TreesOf N → TreesOf N
  arguments_passed u args = if same s u then pass args else args

  -- a node, in which each message of the selector passes other arguments
  abbrev mutual
    pub passes : TreeOf N → TreeOf N
    passes (var n) = var n
    passes (literal l) = literal l
    passes (send r u args) = send (passes r) u (arguments_passed u (trees_passing args))
    passes (cascade r ms) = cascade (passes r) (messages_passing ms)
    passes (assign n t) = assign n (passes t)
    passes (block ps ts ss e) = block ps ts (statements_passing ss) e
    passes (brace ts) = brace (trees_passing ts)
    passes (return t) = return (passes t)

    pub trees_passing : TreesOf N → TreesOf N
    trees_passing no_trees = no_trees
    trees_passing (more_trees t ts) = more_trees (passes t) (trees_passing ts)

    pub messages_passing : MessagesOf N → MessagesOf N
    messages_passing no_messages = no_messages
    messages_passing (more_messages u args ms) = more_messages u (arguments_passed u (trees_passing args)) (messages_passing ms)

    pub statements_passing : StatementsOf N → StatementsOf N
    statements_passing no_statements = no_statements
    statements_passing (more_statements c t ss) = more_statements c (passes t) (statements_passing ss)

  abbrev pub sequence_passing : SequenceOf N → SequenceOf N
  sequence_passing b = record b { statements = statements_passing b.statements }

  -- by what its methods take in place of their arguments
  module _ (writing : WritingOf N) (take : List N → List N) where
    -- the arguments of a method of a selector
    abbrev pub arguments_taken : N → List N → List N
    arguments_taken u ns = if same s u then take ns else ns

    -- a method; where it has the selector or sends it, the source is the text of the new tree
    abbrev pub method_after : EntryOf N → EntryOf N
    method_after m =
        let tree : MethodOf N = record m.tree { arguments = arguments_taken m.tree.selector m.tree.arguments; body = sequence_passing m.tree.body } in
        record m { tree = tree; source = if speaks_of same s m then writing.method_text tree else m.source }

    -- a do-it so
    abbrev pub doit_after : DoItOf N → DoItOf N
    doit_after e =
        let body : SequenceOf N = sequence_passing e.body in
        record { body = body; source = if list_any (λ x. is_sender same s x.1) (nodes e.body) then writing.doit_text body else e.source }

    -- the image
    abbrev pub arguments_changed : ImageOf N → ImageOf N
    arguments_changed i = record i { methods = map method_after i.methods; doits = map doit_after i.doits }

module _ {N : Type 0} (same : N → N → Bool) (writing : WritingOf N) where
  -- the image in which the argument of a number of a selector is gone
  abbrev pub argument_dropped : (s : N) (k : ℕ) → ImageOf N → ImageOf N
  argument_dropped s k i = arguments_changed same s (without_nth k) writing (λ ns. remove ns k) i

  -- the image in which a selector has one more argument, which is the last and is called x; its messages pass the tree a for it
  abbrev pub argument_appended : (s x : N) → TreeOf N → ImageOf N → ImageOf N
  argument_appended s x a i = arguments_changed same s (λ args. append args (more_trees a no_trees)) writing (λ ns. ns ++ x ∷ []) i
