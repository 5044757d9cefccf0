-- What commands that change code make of an image.
use Rattle.std.specs.Prelude.{ℕ, Bool, List, Option, Some, None, option_and_then, option_map}
use Rattle.image_model.specs.Image.{EntryOf, ImageOf}
use Rattle.image_model.specs.Lookup.{lookup}
use Rattle.tree_model.specs.Tree.{MethodOf}
use Rattle.rename_model.specs.ClassRenamed.{WritingOf}
use Rattle.command_model.specs.Parts.{Part, Expression, Run}
use Rattle.command_model.specs.Asked.{AskedOf}
use Rattle.command_model.specs.Commands.{CommandOf, AddParameter, RemoveParameter, AbstractInstVar, ExtractMethod, InlineMethod, ExtractTemp, InlineTemp, RenameTemp}
use Rattle.command_model.specs.Places.{users_method, SendOf, sent_by}
use Rattle.command_model.specs.Sequences.{with_tree}
use Rattle.command_model.specs.Parameters.{parameter_added, parameter_removed}
use Rattle.command_model.specs.Accessors.{variable_abstracted}
use Rattle.command_model.specs.Extracted.{method_extracted}
use Rattle.command_model.specs.Inlined.{tree_inlined}
use Rattle.command_model.specs.Temporaries.{let_of, temporary_extracted, temporary_inlined, temporary_renamed}

-- the path of an expression
abbrev pub path_of_expression : Part → Option (List ℕ)
path_of_expression (Expression path) = Some path
path_of_expression (Run path first count) = None

module _ {N : Type 0} (a : AskedOf N) (i : ImageOf N) where
  -- the user's method that a command names, and the part of it
  abbrev pub method_at : N → Bool → N → Option (EntryOf N)
  method_at c meta s = users_method a.words.tests.same i c meta s

  abbrev pub part_at : N → Bool → N → (from to : ℕ) → Option (EntryOf N × Part)
  part_at c meta s from to = option_and_then (λ (m : EntryOf N). option_map (λ p. (m, p)) (a.part_of m.source from to)) (method_at c meta s)

  -- the message that the part is, and the method that the class finds for it
  abbrev pub send_at : N → Bool → N → (from to : ℕ) → Option (EntryOf N × SendOf N)
  send_at c meta s from to = option_and_then (λ e. option_map (λ x. (e.0, x)) (sent_by e.0.tree e.1)) (part_at c meta s from to)

  abbrev pub target_of : N → Bool → SendOf N → Option (EntryOf N)
  target_of c meta e = lookup a.words i (Some c) meta e.selector

  -- the tree that a method gets where the body of what a message of it finds stands in its place, where a part becomes the value of a temporary, where the value of a temporary stands in place of its reads, and where a temporary is renamed
  abbrev pub tree_inlining : N → Bool → N → (from to : ℕ) → EntryOf N → Option (MethodOf N)
  tree_inlining c meta s from to m =
      option_and_then (λ e. option_and_then (λ (target : EntryOf N). tree_inlined a m.tree e.1 target.tree) (target_of c meta e.1)) (send_at c meta s from to)

  abbrev pub tree_extracting : (from to : ℕ) → N → EntryOf N → Option (MethodOf N)
  tree_extracting from to x m = option_and_then (λ path. temporary_extracted a m.tree path x) (option_and_then path_of_expression (a.part_of m.source from to))

  abbrev pub tree_without : N → EntryOf N → Option (MethodOf N)
  tree_without x m = option_map (temporary_inlined a m.tree x) (let_of a m.tree x)

  abbrev pub tree_renaming : N → N → EntryOf N → Option (MethodOf N)
  tree_renaming x y m = Some (temporary_renamed a m.tree x y)

  -- the tree that is made of the one of the user's method that a command names
  abbrev pub tree_made : N → Bool → N → (EntryOf N → Option (MethodOf N)) → Option (MethodOf N)
  tree_made c meta s change = option_and_then change (method_at c meta s)

  module _ (writing : WritingOf N) where
    -- the image in which a method has a tree that is made of its own one
    abbrev pub retreed : N → Bool → N → (EntryOf N → Option (MethodOf N)) → Option (ImageOf N)
    retreed c meta s change =
        option_map (λ tree. with_tree a.words.tests.same writing c meta s tree i) (tree_made c meta s change)

    -- the image after such a command, where the methods and parts that it names are there; after any other command none is told
    abbrev pub code_effect : CommandOf N → Option (ImageOf N)
    code_effect (AddParameter s t x passed) = Some (parameter_added a.words.tests.same writing s t x passed i)
    code_effect (RemoveParameter s k t) = Some (parameter_removed a.words.tests.same writing s k t i)
    code_effect (AbstractInstVar c x setter given) = Some (variable_abstracted a.words writing a.self_name c x setter given i)
    code_effect (ExtractMethod c meta s from to t) =
        option_map (λ e. method_extracted a writing c meta s e.0 e.1 t i) (part_at c meta s from to)
    code_effect (InlineMethod c meta s from to) = retreed c meta s (tree_inlining c meta s from to)
    code_effect (ExtractTemp c meta s from to x) = retreed c meta s (tree_extracting from to x)
    code_effect (InlineTemp c meta s x) = retreed c meta s (tree_without x)
    code_effect (RenameTemp c meta s x y) = retreed c meta s (tree_renaming x y)
    code_effect command = None
