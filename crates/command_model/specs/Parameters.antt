-- What `addParameter` and `removeParameter` make of an image.
use Rattle.std.specs.Prelude.{ℕ, zero, suc, Bool, if◌then◌else◌, List, [], ◌∷◌, ◌++◌, map, remove, ◌-◌}
use Rattle.std.specs.List.{list_any}
use Rattle.tree_model.specs.Tree.{LiteralOf, TreeOf, send, cascade, TreesOf, no_trees, more_trees, MessagesOf, no_messages, more_messages, SequenceOf, MethodOf}
use Rattle.tree_model.specs.Path.{append}
use Rattle.tree_model.specs.Nodes.{nodes}
use Rattle.image_model.specs.Image.{EntryOf, DoItOf, ImageOf}
use Rattle.image_model.specs.Uses.{is_sender}
use Rattle.rename_model.specs.ClassRenamed.{WritingOf}
use Rattle.rename_model.specs.Conditions.{speaks_of}
use Rattle.command_model.specs.Plain.{literal_node}
use Rattle.command_model.specs.Walk.{rebuilt_sequence}

-- the trees without that of a number
abbrev pub without_nth : {N : Type 0} → ℕ → TreesOf N → TreesOf N
without_nth k no_trees = no_trees
without_nth zero (more_trees t ts) = ts
without_nth (suc k) (more_trees t ts) = more_trees t (without_nth k ts)

module _ {N : Type 0} (same : N → N → Bool) (writing : WritingOf N) (s t : N) (passed : TreesOf N → TreesOf N) (taken : List N → List N) where
  -- the messages, each message of s one of t that passes other arguments
  abbrev pub messages_passed : MessagesOf N → MessagesOf N
  messages_passed no_messages = no_messages
  messages_passed (more_messages u args ms) =
      if same s u then more_messages t (passed args) (messages_passed ms) else more_messages u args (messages_passed ms)

  -- a node so
  abbrev pub node_passed : TreeOf N → TreeOf N
  node_passed (send r u args) = if same s u then send r t (passed args) else send r u args
  node_passed (cascade r ms) = cascade r (messages_passed ms)
  node_passed other = other

  -- a sequence so
  abbrev pub sequence_passed : SequenceOf N → SequenceOf N
  sequence_passed b = rebuilt_sequence (λ path n. node_passed n) b

  -- a method so, and where its selector is s, it is t and the method takes other arguments
  abbrev pub tree_passed : MethodOf N → MethodOf N
  tree_passed m =
      let b : MethodOf N = record m { body = sequence_passed m.body } in
      if same s m.selector then record b { selector = t; arguments = taken m.arguments } else b

  -- a method of the image, whose source is the text of its new tree where it has the selector or sends it
  abbrev pub method_passed : EntryOf N → EntryOf N
  method_passed m = if speaks_of same s m then record m { tree = tree_passed m.tree; source = writing.method_text (tree_passed m.tree) } else m

  -- a do-it so
  abbrev pub doit_passed : DoItOf N → DoItOf N
  doit_passed d =
      if list_any (λ e. is_sender same s e.1) (nodes d.body)
      then record { body = sequence_passed d.body; source = writing.doit_text (sequence_passed d.body) }
      else d

  -- the image: methods of s are methods of t and take other arguments, and messages of s are messages of t and pass others
  abbrev pub passing_changed : ImageOf N → ImageOf N
  passing_changed i = record i { methods = map method_passed i.methods; doits = map doit_passed i.doits }

-- the image in which methods of s have one more argument x, and messages pass a literal
abbrev pub parameter_added : {N : Type 0} → (N → N → Bool) → WritingOf N → (s t x : N) → LiteralOf N → ImageOf N → ImageOf N
parameter_added same writing s t x l =
    passing_changed same writing s t (λ args. append args (more_trees (literal_node l) no_trees)) (λ xs. xs ++ x ∷ [])

-- the image in which the k-th argument of s goes, counted from 1
abbrev pub parameter_removed : {N : Type 0} → (N → N → Bool) → WritingOf N → (s : N) → ℕ → (t : N) → ImageOf N → ImageOf N
parameter_removed same writing s k t = passing_changed same writing s t (without_nth (k - 1)) (λ xs. remove xs (k - 1))
