-- The witnesses of each condition are the same once all names are changed one to one.
use Rattle.std.proofs.Common.{◌≡◌, refl}
use Rattle.image_model.specs.Image.{EntryOf, ImageOf, map_image}
use Rattle.command_model.specs.Commands.{CommandOf, RenameClass, InlineMethod}
use Rattle.command_model.specs.Conditions.{AtPart, AtName, ConditionOf, NoReflection, IsUserClass, NameUnused, SelectorFresh, NotKernelSelector, Implements, NotImplements, Removable, NoSubclasses, NotReferenced, VariableFree, VariableUnused, ParentIsUser, NoSuper, MeansSame, Unreached, ParameterUnused, PlainArguments, PartIs, NoReturn, AssignsNoOuter, TempsSteady, ValueUnused, SelfSend, OneTarget, Inlinable, PlainActuals, NoCapture, NoNewControl, Declared, NotIn, LetForm, FirstEvaluated, Shallow, ChildOf, LacksVariable}
use Rattle.command_model.specs.Asked.{AskedOf}
use Rattle.command_model.specs.Places.{SendOf}
use Rattle.command_numbers.specs.MappedCommands.{map_command, map_condition}
use Rattle.command_numbers.proofs.Everywhere.{Every}
use Rattle.code_command_numbers.specs.KeepsMoves.{KeepsMoves}
use Rattle.refusal_witnesses.specs.NameWitnesses.{namings_in_method}
use Rattle.refusal_witnesses.specs.PartWitnesses.{returns_in, used_value, no_part, outer_assignments, unsteady, evaluated_before}
use Rattle.refusal_witnesses.specs.InlineWitnesses.{other_receiver, not_inlinable, other_actuals, captured, new_control}
use Rattle.refusal_witnesses.specs.TemporaryWitnesses.{further_declarations, no_let, changed_names, new_controls}
use Rattle.refusal_witnesses.specs.Refused.{of_inlined, witnesses}
use Rattle.witness_numbers.proofs.Gathered.{mapped}
use Rattle.witness_numbers.proofs.NamesMapped.{reflections-map, namings_in_method-map, namings-map, speakings-map, kernel_speakings-map}
use Rattle.witness_numbers.proofs.ClassesMapped.{kernel_class-map, kernel_parent-map, children-map, other_parent-map, own_definer-map, hindrances_for-map, outer_uses-map, looked_uses-map}
use Rattle.witness_numbers.proofs.MethodsMapped.{kernel_method-map, method_there-map, supers-map, other_meanings-map, missers-map, others_after-map}
use Rattle.witness_numbers.proofs.ParametersMapped.{argument_reads-map, other_passings-map}
use Rattle.witness_numbers.proofs.Found.{of_method-map, of_send-map, of_part-map, of_target-map, of_let-map}
use Rattle.witness_numbers.proofs.HeightsMapped.{heights_after-map}
use Rattle.witness_numbers.proofs.PartsMapped.{returns_in-map, used_value-map, no_part-map, outer_assignments-map, unsteady-map, evaluated_before-map}
use Rattle.witness_numbers.proofs.InlinesMapped.{other_receiver-map, other_targets-map, not_inlinable-map, other_actuals-map, captured-map, new_control-map}
use Rattle.witness_numbers.proofs.TemporariesMapped.{further_declarations-map, no_let-map, changed_names-map, new_controls-map}

module _ {M N : Type 0} (f : M → N) (a : AskedOf M) (b : AskedOf N) (keeps : KeepsMoves Every f a b) (i : ImageOf M) where
  -- the target of the message that a command replaces
  of_inlined-map : (command : CommandOf M) → of_inlined b (map_image f i) (map_command f command) ≡ mapped f (of_inlined a i command)
  of_inlined-map (RenameClass c d) = refl
  of_inlined-map (InlineMethod c meta s from to) =
      of_target-map f a b keeps i c meta s from to (not_inlinable a i c) (not_inlinable b (map_image f i) (f c)) (λ m e target. not_inlinable-map f a b keeps i m e target c)
  of_inlined-map command = refl

  pub witnesses-map : (command : CommandOf M) (condition : ConditionOf M) → witnesses b (map_image f i) (map_command f command) (map_condition f condition) ≡ mapped f (witnesses a i command condition)
  witnesses-map command NoReflection = reflections-map f a.command_words b.command_words keeps.asked.command_words i command
  witnesses-map command (IsUserClass c) = kernel_class-map f a.words b.words keeps.asked.words i c
  witnesses-map command (NameUnused n) = namings-map f a.words b.words keeps.asked.words i n
  witnesses-map command (SelectorFresh s) = speakings-map f a.words b.words keeps.asked.words i s
  witnesses-map command (NotKernelSelector s) = kernel_speakings-map f a.words b.words keeps.asked.words a.command_words b.command_words keeps.asked.command_words i s
  witnesses-map command (Implements c meta s) = kernel_method-map f a.words b.words keeps.asked.words i c meta s
  witnesses-map command (NotImplements c meta s) = method_there-map f a.words b.words keeps.asked.words i c meta s
  witnesses-map command (Removable c meta s) = missers-map f a.words b.words keeps.asked.words i a.is_super b.is_super (λ n. keeps.asked.is_super n tt) c meta s
  witnesses-map command (NoSubclasses c) = children-map f a.words b.words keeps.asked.words i c
  witnesses-map command (NotReferenced c) = outer_uses-map f a.words b.words keeps.asked.words i c
  witnesses-map command (VariableFree c x) = hindrances_for-map f a.words b.words keeps.asked.words i command c x
  witnesses-map command (VariableUnused c x) = looked_uses-map f a.words b.words keeps.asked.words i command c x
  witnesses-map command (ParentIsUser c) = kernel_parent-map f a.words b.words keeps.asked.words i c
  witnesses-map command (NoSuper c meta s) = supers-map f a.words b.words keeps.asked.words i a.is_super b.is_super (λ n. keeps.asked.is_super n tt) c meta s
  witnesses-map command (MeansSame c meta s d) = other_meanings-map f a.words b.words keeps.asked.words i a.is_super b.is_super (λ n. keeps.asked.is_super n tt) c meta s d
  witnesses-map command (Unreached s) = others_after-map f a.words b.words keeps.asked.words i a.is_super b.is_super (λ n. keeps.asked.is_super n tt) command s
  witnesses-map command (ParameterUnused s k) = argument_reads-map f a b keeps.asked i s k
  witnesses-map command (PlainArguments s k) = other_passings-map f a b keeps.asked i s k
  witnesses-map command (PartIs c meta s from to) = of_part-map f a b keeps i c meta s from to (no_part a) (no_part b) (no_part-map f a b keeps)
  witnesses-map command (NoReturn c meta s from to) = of_part-map f a b keeps i c meta s from to returns_in returns_in (returns_in-map f)
  witnesses-map command (AssignsNoOuter c meta s from to) = of_part-map f a b keeps i c meta s from to (outer_assignments a) (outer_assignments b) (outer_assignments-map f a b keeps)
  witnesses-map command (TempsSteady c meta s from to) = of_part-map f a b keeps i c meta s from to (unsteady a) (unsteady b) (unsteady-map f a b keeps)
  witnesses-map command (ValueUnused c meta s from to) = of_part-map f a b keeps i c meta s from to used_value used_value (used_value-map f)
  witnesses-map command (SelfSend c meta s from to) =
      of_send-map f a b keeps i c meta s from to (λ (e : EntryOf M × SendOf M). other_receiver a i e.0 e.1) (λ (e : EntryOf N × SendOf N). other_receiver b (map_image f i) e.0 e.1) (λ e. other_receiver-map f a b keeps i e.0 e.1)
  witnesses-map command (OneTarget c meta s) = other_targets-map f a b keeps i c meta s
  witnesses-map command (Inlinable c meta s) = of_inlined-map command
  witnesses-map command (PlainActuals c meta s from to) = of_target-map f a b keeps i c meta s from to (other_actuals a i) (other_actuals b (map_image f i)) (other_actuals-map f a b keeps i)
  witnesses-map command (NoCapture c meta s (AtPart from to)) = of_target-map f a b keeps i c meta s from to (captured a i) (captured b (map_image f i)) (captured-map f a b keeps i)
  witnesses-map command (NoCapture c meta s (AtName x)) =
      of_let-map f a b keeps i c meta s x (λ m e. changed_names a i m x e) (λ m e. changed_names b (map_image f i) m (f x) e) (λ m e. changed_names-map f a b keeps i m x e)
  witnesses-map command (NoNewControl c meta s (AtPart from to)) = of_target-map f a b keeps i c meta s from to (new_control a i) (new_control b (map_image f i)) (new_control-map f a b keeps i)
  witnesses-map command (NoNewControl c meta s (AtName x)) =
      of_let-map f a b keeps i c meta s x (λ m e. new_controls a i m x e) (λ m e. new_controls b (map_image f i) m (f x) e) (λ m e. new_controls-map f a b keeps i m x e)
  witnesses-map command (Declared c meta s x) =
      of_method-map f a b keeps i c meta s (λ m. further_declarations a m x) (λ m. further_declarations b m (f x)) (λ m. further_declarations-map f a b keeps.asked m x)
  witnesses-map command (NotIn c meta s x) =
      of_method-map f a b keeps i c meta s (namings_in_method a.words.tests.same x) (namings_in_method b.words.tests.same (f x)) (namings_in_method-map f a.words b.words keeps.asked.words x)
  witnesses-map command (LetForm c meta s x) = of_method-map f a b keeps i c meta s (λ m. no_let a i m x) (λ m. no_let b (map_image f i) m (f x)) (λ m. no_let-map f a b keeps i m x)
  witnesses-map command (FirstEvaluated c meta s from to) = of_part-map f a b keeps i c meta s from to (evaluated_before a i) (evaluated_before b (map_image f i)) (evaluated_before-map f a b keeps i)
  witnesses-map command Shallow = heights_after-map f a b keeps i command
  witnesses-map command (ChildOf d c) = other_parent-map f a.words b.words keeps.asked.words i d c
  witnesses-map command (LacksVariable c x) = own_definer-map f a.words b.words keeps.asked.words i c x
  witnesses-map command condition = refl
