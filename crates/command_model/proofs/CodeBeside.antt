-- What a command that changes code makes of an image with one more do-it.
use Rattle.std.proofs.Common.{◌≡◌, [], ◌∷◌, ◌++◌, Bool, List, Option, Some, None, refl, ap}
use Rattle.std.specs.Prelude.{◌-◌, option_map, option_and_then, unwrap_or, remove}
use Rattle.std.proofs.lemmas.List.{map-append}
use Rattle.tree_model.specs.Tree.{TreesOf, no_trees, more_trees, MethodOf}
use Rattle.tree_model.specs.Path.{append}
use Rattle.image_model.specs.Image.{EntryOf, DoItOf, ImageOf, plus}
use Rattle.rename_model.specs.ClassRenamed.{WritingOf}
use Rattle.command_model.specs.Asked.{AskedOf}
use Rattle.command_model.specs.Commands.{CommandOf, AddParameter, RemoveParameter, AbstractInstVar, ExtractMethod, InlineMethod, ExtractTemp, InlineTemp, RenameTemp}
use Rattle.command_model.specs.Plain.{literal_node}
use Rattle.command_model.specs.Sequences.{with_tree}
use Rattle.command_model.specs.Parameters.{without_nth, doit_passed, passing_changed}
use Rattle.command_model.specs.Accessors.{doit_made, variable_abstracted}
use Rattle.command_model.specs.Extracted.{method_extracted}
use Rattle.command_model.specs.Inlined.{tree_inlined}
use Rattle.command_model.specs.Temporaries.{let_of, temporary_extracted, temporary_inlined, temporary_renamed}
use Rattle.command_model.specs.CodeEffects.{path_of_expression, method_at, part_at, send_at, target_of, retreed, code_effect}

-- what is made of what may be there
made-beside : {N A : Type 0} (e : DoItOf N) (f g : A → ImageOf N) (o : Option A) → ((x : A) → g x ≡ plus (f x) e) → option_map g o ≡ option_map (λ j. plus j e) (option_map f o)
made-beside e f g None same = refl
made-beside e f g (Some x) same = ap Some (same x)

module _ {N : Type 0} (a : AskedOf N) (writing : WritingOf N) (i : ImageOf N) (e : DoItOf N) where
  -- the do-it after the command
  abbrev pub last_after : CommandOf N → DoItOf N
  last_after (AddParameter s t x passed) =
      doit_passed a.words.tests.same writing s t (λ args. append args (more_trees (literal_node passed) no_trees)) (λ xs. xs ++ x ∷ []) e
  last_after (RemoveParameter s k t) = doit_passed a.words.tests.same writing s t (without_nth (k - 1)) (λ xs. remove xs (k - 1)) e
  last_after (AbstractInstVar c x setter given) = doit_made a.words writing a.self_name c x setter given i e
  last_after command = e

  -- what is passed changes
  passing-beside : (s t : N) (passed : TreesOf N → TreesOf N) (taken : List N → List N) →
      passing_changed a.words.tests.same writing s t passed taken (plus i e)
      ≡ plus (passing_changed a.words.tests.same writing s t passed taken i) (doit_passed a.words.tests.same writing s t passed taken e)
  passing-beside s t passed taken =
      ap (λ ds. record (passing_changed a.words.tests.same writing s t passed taken i) { doits = ds })
      (map-append (doit_passed a.words.tests.same writing s t passed taken) i.doits (e ∷ []))

  -- a variable is reached by messages
  abstracted-beside : (c x setter given : N) →
      variable_abstracted a.words writing a.self_name c x setter given (plus i e)
      ≡ plus (variable_abstracted a.words writing a.self_name c x setter given i) (doit_made a.words writing a.self_name c x setter given i e)
  abstracted-beside c x setter given =
      ap (λ ds. record (variable_abstracted a.words writing a.self_name c x setter given i) { doits = ds })
      (map-append (doit_made a.words writing a.self_name c x setter given i) i.doits (e ∷ []))

  -- a method has another tree
  retreed-beside : (c : N) (meta : Bool) (s : N) (change : EntryOf N → Option (MethodOf N)) →
      retreed a (plus i e) writing c meta s change ≡ option_map (λ j. plus j e) (retreed a i writing c meta s change)
  retreed-beside c meta s change =
      made-beside e (λ tree. with_tree a.words.tests.same writing c meta s tree i) (λ tree. with_tree a.words.tests.same writing c meta s tree (plus i e))
      (option_and_then change (method_at a i c meta s)) (λ tree. refl)

  pub code-beside : (command : CommandOf N) → code_effect a (plus i e) writing command ≡ option_map (λ j. plus j (last_after command)) (code_effect a i writing command)
  code-beside (AddParameter s t x passed) = ap Some (passing-beside s t (λ args. append args (more_trees (literal_node passed) no_trees)) (λ xs. xs ++ x ∷ []))
  code-beside (RemoveParameter s k t) = ap Some (passing-beside s t (without_nth (k - 1)) (λ xs. remove xs (k - 1)))
  code-beside (AbstractInstVar c x setter given) = ap Some (abstracted-beside c x setter given)
  code-beside (ExtractMethod c meta s from to t) =
      made-beside e (λ x. method_extracted a writing c meta s x.0 x.1 t i) (λ x. method_extracted a writing c meta s x.0 x.1 t (plus i e))
      (part_at a i c meta s from to) (λ x. refl)
  code-beside (InlineMethod c meta s from to) =
      retreed-beside c meta s (λ m. option_and_then (λ x. option_and_then (λ (target : EntryOf N). tree_inlined a m.tree x.1 target.tree) (target_of a i c meta x.1)) (send_at a i c meta s from to))
  code-beside (ExtractTemp c meta s from to x) =
      retreed-beside c meta s (λ m. option_and_then (λ path. temporary_extracted a m.tree path x) (option_and_then path_of_expression (a.part_of m.source from to)))
  code-beside (InlineTemp c meta s x) = retreed-beside c meta s (λ m. option_map (temporary_inlined a m.tree x) (let_of a m.tree x))
  code-beside (RenameTemp c meta s x y) = retreed-beside c meta s (λ m. Some (temporary_renamed a m.tree x y))
  code-beside command = refl

-- an image that may be there, or else the one before
pub there : {N : Type 0} (i : ImageOf N) (e : DoItOf N) (o : Option (ImageOf N)) → unwrap_or (option_map (λ j. plus j e) o) (plus i e) ≡ plus (unwrap_or o i) e
there i e None = refl
there i e (Some j) = refl
