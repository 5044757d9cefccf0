-- What `extractMethod` makes of an image.
use Rattle.std.specs.Prelude.{Bool, not, ◌&&◌, if◌then◌else◌, List, [], ◌∷◌, map, filter, None}
use Rattle.std.specs.Bool.{beq}
use Rattle.std.specs.List.{list_any}
use Rattle.std.specs.Option.{option_map_or}
use Rattle.tree_model.specs.Tree.{TreeOf, var, send, return, trees_of, StatementsOf, no_statements, MethodOf}
use Rattle.tree_model.specs.Path.{part_in, method_replaced}
use Rattle.tree_model.specs.Normal.{normal}
use Rattle.scope_model.specs.Scope.{local_in}
use Rattle.scope_model.specs.FreeNames.{free_names, free_names_of_run, run_of, statements_at}
use Rattle.image_model.specs.Image.{EntryOf, ImageOf}
use Rattle.rename_model.specs.ClassRenamed.{WritingOf}
use Rattle.command_model.specs.Hierarchy.{is_method_of}
use Rattle.command_model.specs.MethodEffects.{new_method}
use Rattle.command_model.specs.Parts.{Part, Expression, Run, beginning}
use Rattle.command_model.specs.Asked.{AskedOf}
use Rattle.command_model.specs.Places.{is_local}
use Rattle.command_model.specs.Sequences.{single, put_in, sequence_changed, with_tree}

-- the list with a further item behind the last one that passes
abbrev pub put_behind_last : {X : Type 0} → (X → Bool) → X → List X → List X
put_behind_last passes x [] = []
put_behind_last passes x (y ∷ ys) = if passes y && not (list_any passes ys) then y ∷ x ∷ ys else y ∷ put_behind_last passes x ys

-- the statements of a part: those of a run with their comments, and for an expression one that answers it
abbrev pub statements_of_part : {N : Type 0} → MethodOf N → Part → StatementsOf N
statements_of_part m (Expression path) = option_map_or (λ t. single (return t)) (part_in m.body path) no_statements
statements_of_part m (Run path first count) = run_of (statements_at m.body path) first count

-- the method with an expression in place of a part; a statement in place of a run has no comments
abbrev pub part_replaced : {N : Type 0} → MethodOf N → Part → TreeOf N → MethodOf N
part_replaced m (Expression path) t = method_replaced m path t
part_replaced m (Run path first count) t = sequence_changed (put_in first count (single t)) path m

module _ {N : Type 0} (a : AskedOf N) where
  -- the names in a part that mean no declaration inside it, each once, in the order of the text
  abbrev pub names_in : MethodOf N → Part → List N
  names_in m (Expression path) = option_map_or (free_names a.words.tests.same a.words.tests.is_pseudo) (part_in m.body path) []
  names_in m (Run path first count) =
      free_names_of_run a.words.tests.same a.words.tests.is_pseudo (run_of (statements_at m.body path) first count)

  -- those of them that are arguments, parameters or temporaries
  abbrev pub free_temporaries : MethodOf N → Part → List N
  free_temporaries m part =
      filter (λ n. is_local (local_in a.words.tests.same a.words.tests.is_pseudo m (beginning part) n)) (names_in m part)

  -- the message that stands in place of a part
  abbrev pub call_of : N → MethodOf N → Part → TreeOf N
  call_of t m part = send (var a.self_name) t (trees_of (map (λ n. var n) (free_temporaries m part)))

  -- the method that the part becomes
  abbrev pub method_of : N → MethodOf N → Part → MethodOf N
  method_of t m part = normal (record {
    selector = t;
    arguments = free_temporaries m part;
    head = [];
    primitive = None;
    body = record { temporaries = []; statements = statements_of_part m part; tail = [] };
  })

  -- the image in which the part of a method is a message of t, and the new method, of its protocol, stands behind the last one of the class on that side
  abbrev pub method_extracted : WritingOf N → N → Bool → N → EntryOf N → Part → N → ImageOf N → ImageOf N
  method_extracted writing c meta s m part t i =
      let new : EntryOf N = new_method c meta m.protocol (writing.method_text (method_of t m.tree part)) (method_of t m.tree part) in
      let changed : ImageOf N = with_tree a.words.tests.same writing c meta s (part_replaced m.tree part (call_of t m.tree part)) i in
      record changed { methods = put_behind_last (λ (e : EntryOf _). is_method_of a.words.tests.same c e && beq meta e.meta) new changed.methods }
