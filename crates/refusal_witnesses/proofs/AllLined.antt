-- Witnesses in spelled code have lines.
use Rattle.std.proofs.Common.{ℕ, List, []}
use Rattle.std.specs.Prelude.{Bool, filter}
use Rattle.std.specs.Option.{option_map_or}
use Rattle.image_model.specs.Image.{EntryOf, ImageOf}
use Rattle.query_model.specs.Lines.{Text}
use Rattle.rename_model.specs.CommandWords.{text_command_words}
use Rattle.command_model.specs.Asked.{text_asked}
use Rattle.command_model.specs.Parts.{Part}
use Rattle.command_model.specs.Places.{SendOf}
use Rattle.command_model.specs.Temporaries.{LetOf, let_of}
use Rattle.command_model.specs.Hierarchy.{is_child}
use Rattle.command_model.specs.Commands.{CommandOf, InlineMethod}
use Rattle.command_model.specs.Conditions.{ConditionOf, NoReflection, IsUserClass, NameUnused, SelectorFresh, NotKernelSelector, Implements, NotImplements, Removable, NoSubclasses, NotReferenced, VariableFree, VariableUnused, ParentIsUser, NoSuper, MeansSame, Unreached, ParameterUnused, PlainArguments, PartIs, NoReturn, AssignsNoOuter, TempsSteady, ValueUnused, SelfSend, OneTarget, Inlinable, PlainActuals, NoCapture, NoNewControl, Declared, NotIn, LetForm, FirstEvaluated, Shallow, ChildOf, LacksVariable, AtPart, AtName}
use Rattle.command_model.specs.CodeEffects.{method_at, part_at, send_at, target_of}
use Rattle.command_model.specs.Spelled.{IsSpelled}
use Rattle.refusal_witnesses.specs.Witnesses.{WitnessOf}
use Rattle.refusal_witnesses.specs.NameWitnesses.{namings_in_method}
use Rattle.refusal_witnesses.specs.ClassWitnesses.{overlooked}
use Rattle.refusal_witnesses.specs.PartWitnesses.{no_part, returns_in, outer_assignments, unsteady, used_value, evaluated_before}
use Rattle.refusal_witnesses.specs.InlineWitnesses.{other_receiver, not_inlinable, other_actuals, captured, new_control}
use Rattle.refusal_witnesses.specs.TemporaryWitnesses.{further_declarations, no_let, changed_names, new_controls}
use Rattle.refusal_witnesses.specs.Refused.{of_method, of_part, of_target, of_let, of_inlined, witnesses}
use Rattle.refusal_witnesses.specs.Spelled.{IsSpelledMethod, IsSpelledImage}
use Rattle.refusal_witnesses.proofs.Alls.{all-given}
use Rattle.refusal_witnesses.proofs.LinesThere.{HasLine, HaveLines}
use Rattle.refusal_witnesses.proofs.NamesLined.{classes-lined, naming-lined, reflections-lined, namings-lined, speakings-lined, kernel-speakings-lined, kernel-class-lined, kernel-parent-lined, other-parent-lined, own-definer-lined, hindrances-lined, outer-uses-lined, looked-uses-lined, kernel-method-lined, method-there-lined, missers-lined, supers-lined, other-meanings-lined, others-after-lined}
use Rattle.refusal_witnesses.proofs.PartsLined.{IsPartThere, method-spelled, part-there, no-part-lined, used-value-lined, returns-lined, outer-assignments-lined, unsteady-lined, evaluated-before-lined}
use Rattle.refusal_witnesses.proofs.MessagesLined.{IsSendThere, argument-reads-lined, other-passings-lined, heights-lined, sent-there, target-spelled, other-targets-lined, other-receiver-lined, other-actuals-lined, not-inlinable-lined, captured-lined, new-control-lined, further-declarations-lined, changed-names-lined, new-controls-lined, no-let-lined}

-- whether two names are the same
abbrev same : Text → Text → Bool
same = text_asked.words.tests.same

module _ (i : ImageOf Text) (spelled : IsSpelledImage i) where
  -- what is told of a method, a part, a message with its target, and a temporary in its one assignment
  in-method : (c : Text) (meta : Bool) (s : Text) (f : EntryOf Text → List (WitnessOf Text)) → ((m : EntryOf Text) → IsSpelledMethod m → HaveLines i (f m)) → HaveLines i (of_method text_asked i c meta s f)
  in-method c meta s f h = all-given (HasLine i) f (method_at text_asked i c meta s) [] (λ m e. h m (method-spelled i spelled c meta s m e)) tt

  in-part : (c : Text) (meta : Bool) (s : Text) (from to : ℕ) (f : EntryOf Text → Part → List (WitnessOf Text)) → ((m : EntryOf Text) (part : Part) → IsPartThere m part → HaveLines i (f m part)) → HaveLines i (of_part text_asked i c meta s from to f)
  in-part c meta s from to f h = all-given (HasLine i) (λ (e : EntryOf Text × Part). f e.0 e.1) (part_at text_asked i c meta s from to) [] (λ e found. h e.0 e.1 (part-there i spelled c meta s from to e found)) tt

  in-target : (c : Text) (meta : Bool) (s : Text) (from to : ℕ) (f : EntryOf Text → SendOf Text → EntryOf Text → List (WitnessOf Text)) → ((m : EntryOf Text) (e : SendOf Text) (target : EntryOf Text) → IsSpelledMethod m → IsSendThere m.tree e → IsSpelledMethod target → HaveLines i (f m e target)) → HaveLines i (of_target text_asked i c meta s from to f)
  in-target c meta s from to f h =
      all-given (HasLine i) (λ (e : EntryOf Text × SendOf Text). option_map_or (f e.0 e.1) (target_of text_asked i c meta e.1) []) (send_at text_asked i c meta s from to) []
      (λ e found. let there = sent-there i spelled c meta s from to e found in all-given (HasLine i) (f e.0 e.1) (target_of text_asked i c meta e.1) [] (λ target g. h e.0 e.1 target there.0 there.1 (target-spelled i spelled c meta e.1 target g)) tt) tt

  in-let : (c : Text) (meta : Bool) (s x : Text) (f : EntryOf Text → LetOf Text → List (WitnessOf Text)) → ((m : EntryOf Text) (e : LetOf Text) → IsSpelledMethod m → HaveLines i (f m e)) → HaveLines i (of_let text_asked i c meta s x f)
  in-let c meta s x f h = in-method c meta s (λ m. option_map_or (f m) (let_of text_asked m.tree x) []) (λ m known. all-given (HasLine i) (f m) (let_of text_asked m.tree x) [] (λ e g. h m e known) tt)

  inlined-lined : (command : CommandOf Text) → HaveLines i (of_inlined text_asked i command)
  inlined-lined (InlineMethod c meta s from to) = in-target c meta s from to (not_inlinable text_asked i c) (λ m e target known at found. not-inlinable-lined i spelled m e known at c target found)
  inlined-lined command = tt

  receiver-lined : (c : Text) (meta : Bool) (s : Text) (from to : ℕ) → HaveLines i (option_map_or (λ (e : EntryOf Text × SendOf Text). other_receiver text_asked i e.0 e.1) (send_at text_asked i c meta s from to) [])
  receiver-lined c meta s from to =
      all-given (HasLine i) (λ (e : EntryOf Text × SendOf Text). other_receiver text_asked i e.0 e.1) (send_at text_asked i c meta s from to) []
      (λ e found. let there = sent-there i spelled c meta s from to e found in other-receiver-lined i spelled e.0 e.1 there.0 there.1) tt

  pub lined : (command : CommandOf Text) (condition : ConditionOf Text) → IsSpelled command → HaveLines i (witnesses text_asked i command condition)
  lined command NoReflection h = reflections-lined i spelled text_command_words command h
  lined command (IsUserClass c) h = kernel-class-lined i spelled same c
  lined command (NameUnused n) h = namings-lined i spelled same n
  lined command (SelectorFresh s) h = speakings-lined i spelled same s
  lined command (NotKernelSelector s) h = kernel-speakings-lined i spelled same text_command_words s
  lined command (Implements c meta s) h = kernel-method-lined i spelled same c meta s
  lined command (NotImplements c meta s) h = method-there-lined i spelled same c meta s
  lined command (Removable c meta s) h = missers-lined i spelled text_asked.is_super c meta s
  lined command (NoSubclasses c) h = classes-lined i (filter (is_child same c) i.classes)
  lined command (NotReferenced c) h = outer-uses-lined i spelled c
  lined command (VariableFree c x) h = hindrances-lined i spelled same (overlooked same i command c x) c x
  lined command (VariableUnused c x) h = looked-uses-lined i spelled command c x
  lined command (ParentIsUser c) h = kernel-parent-lined i spelled same c
  lined command (NoSuper c meta s) h = supers-lined i spelled text_asked.is_super c meta s
  lined command (MeansSame c meta s d) h = other-meanings-lined i spelled text_asked.is_super c meta s d
  lined command (Unreached s) h = others-after-lined i spelled text_asked.is_super command s
  lined command (ParameterUnused s k) h = argument-reads-lined i spelled s k
  lined command (PlainArguments s k) h = other-passings-lined i spelled s k
  lined command (PartIs c meta s from to) h = in-part c meta s from to (no_part text_asked) (no-part-lined i spelled)
  lined command (NoReturn c meta s from to) h = in-part c meta s from to returns_in (returns-lined i spelled)
  lined command (AssignsNoOuter c meta s from to) h = in-part c meta s from to (outer_assignments text_asked) (outer-assignments-lined i spelled)
  lined command (TempsSteady c meta s from to) h = in-part c meta s from to (unsteady text_asked) (unsteady-lined i spelled)
  lined command (ValueUnused c meta s from to) h = in-part c meta s from to used_value (used-value-lined i spelled)
  lined command (SelfSend c meta s from to) h = receiver-lined c meta s from to
  lined command (OneTarget c meta s) h = other-targets-lined i spelled c meta s
  lined command (Inlinable c meta s) h = inlined-lined command
  lined command (PlainActuals c meta s from to) h = in-target c meta s from to (other_actuals text_asked i) (λ m e target known at found. other-actuals-lined i spelled m e known at target)
  lined command (NoCapture c meta s (AtPart from to)) h = in-target c meta s from to (captured text_asked i) (λ m e target known at found. captured-lined i spelled m e known at target found)
  lined command (NoCapture c meta s (AtName x)) h = in-let c meta s x (λ m e. changed_names text_asked i m x e) (λ m e known. changed-names-lined i spelled m x known e)
  lined command (NoNewControl c meta s (AtPart from to)) h = in-target c meta s from to (new_control text_asked i) (λ m e target known at found. new-control-lined i spelled m e known at target)
  lined command (NoNewControl c meta s (AtName x)) h = in-let c meta s x (λ m e. new_controls text_asked i m x e) (λ m e known. new-controls-lined i spelled m x known e)
  lined command (Declared c meta s x) h = in-method c meta s (λ m. further_declarations text_asked m x) (λ m known. further-declarations-lined i spelled m x known)
  lined command (NotIn c meta s x) h = in-method c meta s (namings_in_method same x) (naming-lined i same x)
  lined command (LetForm c meta s x) h = in-method c meta s (λ m. no_let text_asked i m x) (λ m known. no-let-lined i spelled m x known)
  lined command (FirstEvaluated c meta s from to) h = in-part c meta s from to (evaluated_before text_asked i) (evaluated-before-lined i spelled)
  lined command Shallow h = heights-lined i spelled command
  lined command (ChildOf d c) h = other-parent-lined i spelled same d c
  lined command (LacksVariable c x) h = own-definer-lined i spelled same c x
  lined command condition h = tt
