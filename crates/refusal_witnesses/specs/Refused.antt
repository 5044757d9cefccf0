-- What is in the way of each condition, and what must be there.
use Rattle.std.specs.Prelude.{◌≡◌, ℕ, Bool, true, false, ◌&&◌, is_some, List, [], Some}
use Rattle.std.specs.Option.{option_map_or}
use Rattle.scope_model.specs.Control.{is_empty}
use Rattle.image_model.specs.Image.{EntryOf, ImageOf}
use Rattle.image_model.specs.Lookup.{own_method, lookup}
use Rattle.rename_model.specs.Conditions.{has_variable}
use Rattle.command_model.specs.Asked.{AskedOf}
use Rattle.command_model.specs.Parts.{Part}
use Rattle.command_model.specs.Places.{SendOf}
use Rattle.command_model.specs.Temporaries.{LetOf, let_of}
use Rattle.command_model.specs.Commands.{CommandOf, AddMethod, PushUpMethod, PushDownMethod, AddParameter, AbstractInstVar, ExtractMethod, InlineMethod, ExtractTemp, InlineTemp, kind_of}
use Rattle.command_model.specs.Conditions.{ConditionOf, NoReflection, IsUserClass, GoodName, NameUnused, SelectorFresh, NotKernelSelector, Arity, Implements, NotImplements, Removable, NoSubclasses, NotReferenced, HasVariable, VariableFree, VariableUnused, ParentIsUser, NoSuper, MeansSame, Unreached, ParameterUnused, PlainArguments, AtomLiteral, PartIs, NoReturn, AssignsNoOuter, TempsSteady, ValueUnused, SelfSend, OneTarget, Inlinable, PlainActuals, NoCapture, NoNewControl, Declared, NotIn, LetForm, FirstEvaluated, Shallow, IsClass, ChildOf, LacksVariable, KnownSelector, UndoLeft, RedoLeft, AtPart, AtName}
use Rattle.command_model.specs.Hierarchy.{is_class, superclass_name}
use Rattle.command_model.specs.MethodConditions.{implements}
use Rattle.command_model.specs.CodeEffects.{method_at, part_at, send_at, target_of, tree_inlining, tree_extracting, tree_without, tree_made}
use Rattle.command_model.specs.Holds.{holds}
use Rattle.refusal_witnesses.specs.Witnesses.{WitnessOf}
use Rattle.refusal_witnesses.specs.NameWitnesses.{reflections, namings, namings_in_method, speakings, kernel_speakings}
use Rattle.refusal_witnesses.specs.ClassWitnesses.{outer_uses, looked_uses, kernel_class, kernel_parent, children, other_parent, own_definer, overlooked, hindrances}
use Rattle.refusal_witnesses.specs.MethodWitnesses.{kernel_method, method_there, missers, supers, other_meanings, others_after}
use Rattle.refusal_witnesses.specs.ParameterWitnesses.{counts, argument_reads, other_passings, heights_after}
use Rattle.refusal_witnesses.specs.PartWitnesses.{no_part, returns_in, outer_assignments, unsteady, used_value, evaluated_before}
use Rattle.refusal_witnesses.specs.InlineWitnesses.{other_receiver, other_targets, not_inlinable, other_actuals, captured, new_control}
use Rattle.refusal_witnesses.specs.TemporaryWitnesses.{declares_it, further_declarations, no_let, changed_names, new_controls}

-- The conditions that witnesses show. The others say that a name or a literal is of its kind, that something is there, or that the history has something left: nothing is in their way.
abbrev pub HasWitnesses : {N : Type 0} → ConditionOf N → Type 0
HasWitnesses (GoodName n kind) = ⊥
HasWitnesses (Arity t count) = ⊥
HasWitnesses (HasVariable c x) = ⊥
HasWitnesses AtomLiteral = ⊥
HasWitnesses (IsClass c) = ⊥
HasWitnesses (KnownSelector s) = ⊥
HasWitnesses UndoLeft = ⊥
HasWitnesses RedoLeft = ⊥
HasWitnesses condition = Unit {0}

module _ {N : Type 0} (a : AskedOf N) (i : ImageOf N) where
  -- whether two names are the same
  abbrev same : N → N → Bool
  same = a.words.tests.same

  -- the witnesses of a part, of a message with its target, and of a temporary in its one assignment; none if they are not there
  abbrev pub of_method : N → Bool → N → (EntryOf N → List (WitnessOf N)) → List (WitnessOf N)
  of_method c meta s f = option_map_or f (method_at a i c meta s) []

  abbrev pub of_part : N → Bool → N → (from to : ℕ) → (EntryOf N → Part → List (WitnessOf N)) → List (WitnessOf N)
  of_part c meta s from to f = option_map_or (λ e. f e.0 e.1) (part_at a i c meta s from to) []

  abbrev pub of_target : N → Bool → N → (from to : ℕ) → (EntryOf N → SendOf N → EntryOf N → List (WitnessOf N)) → List (WitnessOf N)
  of_target c meta s from to f = option_map_or (λ e. option_map_or (f e.0 e.1) (target_of a i c meta e.1) []) (send_at a i c meta s from to) []

  abbrev pub of_let : N → Bool → N → N → (EntryOf N → LetOf N → List (WitnessOf N)) → List (WitnessOf N)
  of_let c meta s x f = of_method c meta s (λ m. option_map_or (f m) (let_of a m.tree x) [])

  -- whether the message that a part is has a target, and whether a temporary has its one assignment
  abbrev pub is_target_there : N → Bool → N → (from to : ℕ) → Bool
  is_target_there c meta s from to = option_map_or (λ e. is_some (target_of a i c meta e.1)) (send_at a i c meta s from to) false

  abbrev pub is_let_there : N → Bool → N → N → Bool
  is_let_there c meta s x = option_map_or (λ (m : EntryOf N). is_some (let_of a m.tree x)) (method_at a i c meta s) false

  -- whether what a command moves or changes is there
  abbrev pub is_moved_there : CommandOf N → Bool
  is_moved_there (AddMethod c meta protocol text tree) = is_class same i c
  is_moved_there (PushUpMethod c meta t) = implements same i c meta t && is_some (superclass_name same i c)
  is_moved_there (PushDownMethod c meta t) = implements same i c meta t
  is_moved_there command = false

  abbrev pub is_inlined_there : CommandOf N → Bool
  is_inlined_there (InlineMethod c meta s from to) = is_target_there c meta s from to
  is_inlined_there command = false

  abbrev pub is_changed_there : CommandOf N → Bool
  is_changed_there (AddParameter s t x passed) = true
  is_changed_there (AbstractInstVar c x setter given) = true
  is_changed_there (ExtractMethod c meta s from to t) = is_some (part_at a i c meta s from to)
  is_changed_there (InlineMethod c meta s from to) = is_some (tree_made a i c meta s (tree_inlining a i c meta s from to))
  is_changed_there (ExtractTemp c meta s from to x) = is_some (tree_made a i c meta s (tree_extracting a i from to x))
  is_changed_there (InlineTemp c meta s x) = is_some (tree_made a i c meta s (tree_without a i x))
  is_changed_there command = false

  -- whether what a condition speaks of is there
  abbrev pub is_there : CommandOf N → ConditionOf N → Bool
  is_there command (IsUserClass c) = is_class same i c
  is_there command (Implements c meta s) = is_some (own_method same i.methods c meta s)
  is_there command (NotImplements c meta s) = is_class same i c
  is_there command (Removable c meta s) = is_some (own_method same i.methods c meta s)
  is_there command (NoSubclasses c) = is_class same i c
  is_there command (NotReferenced c) = is_class same i c
  is_there command (VariableFree c x) = is_class same i c
  is_there command (VariableUnused c x) = has_variable same i (kind_of command) c x
  is_there command (ParentIsUser c) = option_map_or (is_class same i) (superclass_name same i c) false
  is_there command (NoSuper c meta s) = is_some (own_method same i.methods c meta s)
  is_there command (MeansSame c meta s d) = is_class same i d && is_some (own_method same i.methods c meta s)
  is_there command (Unreached s) = is_moved_there command
  is_there command (ParameterUnused s k) = counts a i s k
  is_there command (PlainArguments s k) = counts a i s k
  is_there command (PartIs c meta s from to) = is_some (part_at a i c meta s from to)
  is_there command (NoReturn c meta s from to) = is_some (part_at a i c meta s from to)
  is_there command (AssignsNoOuter c meta s from to) = is_some (part_at a i c meta s from to)
  is_there command (TempsSteady c meta s from to) = is_some (part_at a i c meta s from to)
  is_there command (ValueUnused c meta s from to) = is_some (part_at a i c meta s from to)
  is_there command (SelfSend c meta s from to) = is_some (send_at a i c meta s from to)
  is_there command (OneTarget c meta s) = is_some (lookup a.words i (Some c) meta s)
  is_there command (Inlinable c meta s) = is_inlined_there command
  is_there command (PlainActuals c meta s from to) = is_target_there c meta s from to
  is_there command (NoCapture c meta s (AtPart from to)) = is_target_there c meta s from to
  is_there command (NoCapture c meta s (AtName x)) = is_let_there c meta s x
  is_there command (NoNewControl c meta s (AtPart from to)) = is_target_there c meta s from to
  is_there command (NoNewControl c meta s (AtName x)) = is_let_there c meta s x
  is_there command (Declared c meta s x) = option_map_or (λ (m : EntryOf N). declares_it a m.tree x) (method_at a i c meta s) false
  is_there command (NotIn c meta s x) = is_some (method_at a i c meta s)
  is_there command (LetForm c meta s x) = option_map_or (λ (m : EntryOf N). declares_it a m.tree x) (method_at a i c meta s) false
  is_there command (FirstEvaluated c meta s from to) = is_some (part_at a i c meta s from to)
  is_there command Shallow = is_changed_there command
  is_there command (ChildOf d c) = is_class same i d
  is_there command (LacksVariable c x) = is_class same i c
  is_there command condition = true

  -- the target of the message that a command replaces
  abbrev pub of_inlined : CommandOf N → List (WitnessOf N)
  of_inlined (InlineMethod c meta s from to) = of_target c meta s from to (not_inlinable a i c)
  of_inlined command = []

  -- what is in the way of a condition of the command, in the order of the image
  abbrev pub witnesses : CommandOf N → ConditionOf N → List (WitnessOf N)
  witnesses command NoReflection = reflections a.command_words i command
  witnesses command (IsUserClass c) = kernel_class same i c
  witnesses command (NameUnused n) = namings same i n
  witnesses command (SelectorFresh s) = speakings same i s
  witnesses command (NotKernelSelector s) = kernel_speakings same a.command_words i s
  witnesses command (Implements c meta s) = kernel_method same i c meta s
  witnesses command (NotImplements c meta s) = method_there same i c meta s
  witnesses command (Removable c meta s) = missers a.words a.is_super i c meta s
  witnesses command (NoSubclasses c) = children same i c
  witnesses command (NotReferenced c) = outer_uses a.words i c
  witnesses command (VariableFree c x) = hindrances same i (overlooked same i command c x) c x
  witnesses command (VariableUnused c x) = looked_uses a.words i command c x
  witnesses command (ParentIsUser c) = kernel_parent same i c
  witnesses command (NoSuper c meta s) = supers a.words a.is_super i c meta s
  witnesses command (MeansSame c meta s d) = other_meanings a.words a.is_super i c meta s d
  witnesses command (Unreached s) = others_after a.words a.is_super i command s
  witnesses command (ParameterUnused s k) = argument_reads a i s k
  witnesses command (PlainArguments s k) = other_passings a i s k
  witnesses command (PartIs c meta s from to) = of_part c meta s from to (no_part a)
  witnesses command (NoReturn c meta s from to) = of_part c meta s from to returns_in
  witnesses command (AssignsNoOuter c meta s from to) = of_part c meta s from to (outer_assignments a)
  witnesses command (TempsSteady c meta s from to) = of_part c meta s from to (unsteady a)
  witnesses command (ValueUnused c meta s from to) = of_part c meta s from to used_value
  witnesses command (SelfSend c meta s from to) = option_map_or (λ e. other_receiver a i e.0 e.1) (send_at a i c meta s from to) []
  witnesses command (OneTarget c meta s) = other_targets a i c meta s
  witnesses command (Inlinable c meta s) = of_inlined command
  witnesses command (PlainActuals c meta s from to) = of_target c meta s from to (other_actuals a i)
  witnesses command (NoCapture c meta s (AtPart from to)) = of_target c meta s from to (captured a i)
  witnesses command (NoCapture c meta s (AtName x)) = of_let c meta s x (λ m e. changed_names a i m x e)
  witnesses command (NoNewControl c meta s (AtPart from to)) = of_target c meta s from to (new_control a i)
  witnesses command (NoNewControl c meta s (AtName x)) = of_let c meta s x (λ m e. new_controls a i m x e)
  witnesses command (Declared c meta s x) = of_method c meta s (λ m. further_declarations a m x)
  witnesses command (NotIn c meta s x) = of_method c meta s (namings_in_method same x)
  witnesses command (LetForm c meta s x) = of_method c meta s (λ m. no_let a i m x)
  witnesses command (FirstEvaluated c meta s from to) = of_part c meta s from to (evaluated_before a i)
  witnesses command Shallow = heights_after a i command
  witnesses command (ChildOf d c) = other_parent same i d c
  witnesses command (LacksVariable c x) = own_definer same i c x
  witnesses command condition = []

  -- the condition holds exactly if what it speaks of is there and nothing is in the way
  abbrev pub IsShown : CommandOf N → ConditionOf N → Type 0
  IsShown command condition = holds a i command condition ≡ (is_there command condition && is_empty (witnesses command condition))

  -- false of what is there: something is in the way
  abbrev pub IsHindered : CommandOf N → ConditionOf N → Type 0
  IsHindered command condition = holds a i command condition ≡ false → is_there command condition ≡ true → is_empty (witnesses command condition) ≡ false
