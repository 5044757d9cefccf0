-- What `renameSelector` makes of an image (Roberts 1999).
use Rattle.std.specs.Prelude.{map, Bool, if◌then◌else◌}
use Rattle.std.specs.List.{list_any}
use Rattle.tree_model.specs.Tree.{TreeOf, var, literal, send, cascade, assign, block, brace, return, TreesOf, no_trees, more_trees, MessagesOf, no_messages, more_messages, StatementsOf, no_statements, more_statements, SequenceOf, MethodOf}
use Rattle.tree_model.specs.Nodes.{nodes}
use Rattle.image_model.specs.Image.{EntryOf, DoItOf, ImageOf}
use Rattle.image_model.specs.Uses.{is_sender}
use Rattle.rename_model.specs.ClassRenamed.{WritingOf}
use Rattle.rename_model.specs.Conditions.{speaks_of}

-- the node, in which other selectors are sent
abbrev mutual
  pub sends_anew : {N : Type 0} → (N → N) → TreeOf N → TreeOf N
  sends_anew f (var n) = var n
  sends_anew f (literal l) = literal l
  sends_anew f (send r s args) = send (sends_anew f r) (f s) (trees_anew f args)
  sends_anew f (cascade r ms) = cascade (sends_anew f r) (messages_anew f ms)
  sends_anew f (assign n t) = assign n (sends_anew f t)
  sends_anew f (block ps ts ss e) = block ps ts (statements_anew f ss) e
  sends_anew f (brace ts) = brace (trees_anew f ts)
  sends_anew f (return t) = return (sends_anew f t)

  pub trees_anew : {N : Type 0} → (N → N) → TreesOf N → TreesOf N
  trees_anew f no_trees = no_trees
  trees_anew f (more_trees t ts) = more_trees (sends_anew f t) (trees_anew f ts)

  pub messages_anew : {N : Type 0} → (N → N) → MessagesOf N → MessagesOf N
  messages_anew f no_messages = no_messages
  messages_anew f (more_messages s args ms) = more_messages (f s) (trees_anew f args) (messages_anew f ms)

  pub statements_anew : {N : Type 0} → (N → N) → StatementsOf N → StatementsOf N
  statements_anew f no_statements = no_statements
  statements_anew f (more_statements c t ss) = more_statements c (sends_anew f t) (statements_anew f ss)

module _ {N : Type 0} (same : N → N → Bool) (writing : WritingOf N) (i : ImageOf N) (s t : N) where
  -- the new selector
  abbrev pub selector_renamed_to : N → N
  selector_renamed_to u = if same s u then t else u

  -- a sequence, in which each send of the selector sends the new one
  abbrev pub sequence_after : SequenceOf N → SequenceOf N
  sequence_after b = record b { statements = statements_anew selector_renamed_to b.statements }

  -- a method: its own selector is the new one, and each send of it sends the new one; where there is one or the other, the source is the text of the new tree
  abbrev pub method_after : EntryOf N → EntryOf N
  method_after m =
      let tree : MethodOf N = record m.tree { selector = selector_renamed_to m.tree.selector; body = sequence_after m.tree.body } in
      record m { tree = tree; source = if speaks_of same s m then writing.method_text tree else m.source }

  -- a do-it so
  abbrev pub doit_after : DoItOf N → DoItOf N
  doit_after e =
      let body : SequenceOf N = sequence_after e.body in
      record { body = body; source = if list_any (λ x. is_sender same s x.1) (nodes e.body) then writing.doit_text body else e.source }

  -- the image: each method of the selector has the new one, and each message of it is one of the new one
  abbrev pub selector_renamed : ImageOf N
  selector_renamed = record i { methods = map method_after i.methods; doits = map doit_after i.doits }
