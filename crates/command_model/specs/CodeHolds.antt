-- Which conditions hold that only commands which change code have.
use Rattle.std.specs.Prelude.{ℕ, Bool, false, not, ◌&&◌, ◌||◌, [], Option}
use Rattle.std.specs.List.{list_all}
use Rattle.std.specs.Option.{option_map_or}
use Rattle.tree_model.specs.Tree.{MethodOf}
use Rattle.tree_model.specs.Normal.{normal}
use Rattle.image_model.specs.Image.{EntryOf, DoItOf, ImageOf}
use Rattle.image_model.specs.Means.{means, means_in_doit}
use Rattle.rename_model.specs.ClassRenamed.{WritingOf}
use Rattle.rename_model.specs.NamesThere.{is_named_in_method}
use Rattle.command_model.specs.Asked.{AskedOf}
use Rattle.command_model.specs.Parts.{Part}
use Rattle.command_model.specs.Commands.{CommandOf, AddParameter, AbstractInstVar, ExtractMethod, InlineMethod, ExtractTemp, InlineTemp}
use Rattle.command_model.specs.Conditions.{AtPart, AtName, ConditionOf, ParameterUnused, PlainArguments, AtomLiteral, PartIs, NoReturn, AssignsNoOuter, TempsSteady, ValueUnused, SelfSend, OneTarget, Inlinable, PlainActuals, NoCapture, NoNewControl, Declared, NotIn, LetForm, FirstEvaluated, Shallow}
use Rattle.command_model.specs.Places.{SendOf}
use Rattle.command_model.specs.Plain.{is_passed_atom}
use Rattle.command_model.specs.Temporaries.{LetOf, is_declared_once, let_of}
use Rattle.command_model.specs.Accessors.{getter, setter_of, is_meant, method_made, doit_made}
use Rattle.command_model.specs.Extracted.{part_replaced, call_of, method_of}
use Rattle.command_model.specs.CodeEffects.{method_at, part_at, send_at, target_of, tree_inlining, tree_extracting, tree_without, tree_made}
use Rattle.command_model.specs.ParameterConditions.{is_low, is_parameter_unused, are_arguments_plain, is_shallow_speaking}
use Rattle.command_model.specs.PartConditions.{is_part, has_no_return, assigns_no_outer, are_temporaries_steady, is_value_unused, is_first_evaluated}
use Rattle.command_model.specs.InlineConditions.{is_self_send, is_one_target, is_inlinable, are_actuals_plain, captures_nothing, makes_no_control}
use Rattle.command_model.specs.LetConditions.{is_let_form, is_value_kept, is_value_no_control}

-- whether the literal that a command passes is an atom
abbrev passes_atom : {N : Type 0} → AskedOf N → CommandOf N → Bool
passes_atom a (AddParameter s t x passed) = is_passed_atom a passed
passes_atom a command = false

-- a writing of changed trees for what looks at trees alone
abbrev pub no_writing : {N : Type 0} → WritingOf N
no_writing = record { method_text = λ m. []; doit_text = λ b. [] }

module _ {N : Type 0} (a : AskedOf N) (i : ImageOf N) where
  -- whether a method of the user passes a test, or the part of one, or the message that it is with its target, or a temporary of it in its one assignment; what is not there does not
  abbrev of_method : N → Bool → N → (EntryOf N → Bool) → Bool
  of_method c meta s test = option_map_or test (method_at a i c meta s) false

  abbrev of_part : N → Bool → N → (from to : ℕ) → (EntryOf N → Part → Bool) → Bool
  of_part c meta s from to test = option_map_or (λ e. test e.0 e.1) (part_at a i c meta s from to) false

  abbrev of_target : N → Bool → N → (from to : ℕ) → (EntryOf N → SendOf N → EntryOf N → Bool) → Bool
  of_target c meta s from to test =
      option_map_or (λ e. option_map_or (test e.0 e.1) (target_of a i c meta e.1) false) (send_at a i c meta s from to) false

  abbrev of_let : N → Bool → N → N → (EntryOf N → LetOf N → Bool) → Bool
  of_let c meta s x test = of_method c meta s (λ m. option_map_or (test m) (let_of a m.tree x) false)

  -- whether the target of the message that a command replaces may stand in its place
  abbrev is_target_inlinable : CommandOf N → Bool
  is_target_inlinable (InlineMethod c meta s from to) = of_target c meta s from to (is_inlinable a i c)
  is_target_inlinable command = false

  -- whether a tree that a method gets is at most 200 high in the form in which it is kept, if there is one
  abbrev pub is_low_made : Option (MethodOf N) → Bool
  is_low_made made = option_map_or (λ tree. is_low (normal tree).body) made false

  -- whether the method that a part becomes is at most 200 high, and the one whose part becomes a message of it
  abbrev pub are_low_extracted : N → EntryOf N → Part → Bool
  are_low_extracted t m part =
      is_low (method_of a t m.tree part).body && is_low (normal (part_replaced m.tree part (call_of a t m.tree part))).body

  -- whether the getter and the setter of a variable are at most 200 high, and each method of the user and each do-it that reads or assigns the variable by messages of these afterwards
  abbrev pub are_low_abstracted : N → N → N → N → Bool
  are_low_abstracted c x setter given =
      is_low (getter x).body && (is_low (setter_of x setter given).body
      && (list_all (λ (m : EntryOf N). m.kernel || (not (is_meant a.words no_writing a.self_name c x setter given i (means a.words i m) m.tree.body)
      || is_low (method_made a.words no_writing a.self_name c x setter given i m).tree.body)) i.methods
      && list_all (λ (d : DoItOf N). not (is_meant a.words no_writing a.self_name c x setter given i (means_in_doit a.words i d) d.body)
      || is_low (doit_made a.words no_writing a.self_name c x setter given i d).body) i.doits))

  -- whether what the command changes or adds is at most 200 high afterwards. Code in which messages pass one atom more is as high as before, since no atom is higher than what it is sent to
  abbrev pub is_shallow_after : CommandOf N → Bool
  is_shallow_after (AddParameter s t x passed) = is_shallow_speaking a.words.tests.same s i
  is_shallow_after (AbstractInstVar c x setter given) = are_low_abstracted c x setter given
  is_shallow_after (ExtractMethod c meta s from to t) = of_part c meta s from to (are_low_extracted t)
  is_shallow_after (InlineMethod c meta s from to) = is_low_made (tree_made a i c meta s (tree_inlining a i c meta s from to))
  is_shallow_after (ExtractTemp c meta s from to x) = is_low_made (tree_made a i c meta s (tree_extracting a i from to x))
  is_shallow_after (InlineTemp c meta s x) = is_low_made (tree_made a i c meta s (tree_without a i x))
  is_shallow_after command = false

  -- whether such a condition of the command holds in the image; any other one does not
  abbrev pub code_holds : CommandOf N → ConditionOf N → Bool
  code_holds command (ParameterUnused s k) = is_parameter_unused a i s k
  code_holds command (PlainArguments s k) = are_arguments_plain a i s k
  code_holds command AtomLiteral = passes_atom a command
  code_holds command (PartIs c meta s from to) = of_part c meta s from to (λ m part. is_part a m.tree part)
  code_holds command (NoReturn c meta s from to) = of_part c meta s from to (λ m part. has_no_return m.tree part)
  code_holds command (AssignsNoOuter c meta s from to) = of_part c meta s from to (λ m part. assigns_no_outer a m.tree part)
  code_holds command (TempsSteady c meta s from to) = of_part c meta s from to (λ m part. are_temporaries_steady a m.tree part)
  code_holds command (ValueUnused c meta s from to) = of_part c meta s from to (λ m part. is_value_unused m.tree part)
  code_holds command (SelfSend c meta s from to) = option_map_or (λ e. is_self_send a i e.1) (send_at a i c meta s from to) false
  code_holds command (OneTarget c meta s) = is_one_target a i c meta s
  code_holds command (Inlinable c meta s) = is_target_inlinable command
  code_holds command (PlainActuals c meta s from to) = of_target c meta s from to (are_actuals_plain a i)
  code_holds command (NoCapture c meta s (AtPart from to)) = of_target c meta s from to (captures_nothing a i)
  code_holds command (NoCapture c meta s (AtName x)) = of_let c meta s x (λ m e. is_value_kept a i m x e)
  code_holds command (NoNewControl c meta s (AtPart from to)) = of_target c meta s from to (makes_no_control a i)
  code_holds command (NoNewControl c meta s (AtName x)) = of_let c meta s x (λ m e. is_value_no_control a i m x e)
  code_holds command (Declared c meta s x) = of_method c meta s (λ m. is_declared_once a m.tree x)
  code_holds command (NotIn c meta s x) = of_method c meta s (λ m. not (is_named_in_method a.words.tests.same x m))
  code_holds command (LetForm c meta s x) = of_let c meta s x (λ m e. is_let_form a i m x e)
  code_holds command (FirstEvaluated c meta s from to) = of_part c meta s from to (is_first_evaluated a i)
  code_holds command Shallow = is_shallow_after command
  code_holds command condition = false
