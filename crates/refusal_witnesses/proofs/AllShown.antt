-- Each condition that witnesses show holds just where what it speaks of is there and nothing is in its way.
use Rattle.std.proofs.Common.{◌≡◌, ℕ, List, [], Option, Some, None, refl}
use Rattle.std.specs.Prelude.{Bool, true, false, ◌&&◌, is_some}
use Rattle.std.specs.Option.{option_map_or}
use Rattle.scope_model.specs.Control.{is_empty}
use Rattle.image_model.specs.Image.{EntryOf, ImageOf}
use Rattle.rename_model.specs.NamesThere.{is_named_in_method}
use Rattle.std.specs.Prelude.{not}
use Rattle.std.proofs.Common.{sym, ap, ◌∙◌}
use Rattle.command_model.specs.Asked.{AskedOf}
use Rattle.command_model.specs.Parts.{Part}
use Rattle.command_model.specs.Places.{SendOf}
use Rattle.command_model.specs.Temporaries.{LetOf, is_declared_once, let_of}
use Rattle.command_model.specs.Hierarchy.{is_class, superclass_name}
use Rattle.command_model.specs.MethodConditions.{implements}
use Rattle.command_model.specs.MethodEffects.{method_added, method_pushed_up, method_pushed_down}
use Rattle.command_model.specs.Commands.{CommandOf, AddMethod, PushUpMethod, PushDownMethod, InlineMethod}
use Rattle.command_model.specs.Conditions.{ConditionOf, NoReflection, IsUserClass, GoodName, NameUnused, SelectorFresh, NotKernelSelector, Arity, Implements, NotImplements, Removable, NoSubclasses, NotReferenced, HasVariable, VariableFree, VariableUnused, ParentIsUser, NoSuper, MeansSame, Unreached, ParameterUnused, PlainArguments, AtomLiteral, PartIs, NoReturn, AssignsNoOuter, TempsSteady, ValueUnused, SelfSend, OneTarget, Inlinable, PlainActuals, NoCapture, NoNewControl, Declared, NotIn, LetForm, FirstEvaluated, Shallow, IsClass, ChildOf, LacksVariable, KnownSelector, UndoLeft, RedoLeft, AtPart, AtName}
use Rattle.command_model.specs.PartConditions.{is_part, has_no_return, assigns_no_outer, are_temporaries_steady, is_value_unused, is_first_evaluated}
use Rattle.command_model.specs.InlineConditions.{is_self_send, is_inlinable, are_actuals_plain, captures_nothing, makes_no_control}
use Rattle.command_model.specs.LetConditions.{is_let_form, is_value_kept, is_value_no_control}
use Rattle.command_model.specs.CodeEffects.{method_at, part_at, send_at, target_of}
use Rattle.command_model.specs.Holds.{holds}
use Rattle.refusal_witnesses.specs.Witnesses.{WitnessOf}
use Rattle.refusal_witnesses.specs.NameWitnesses.{namings_in_method}
use Rattle.refusal_witnesses.specs.PartWitnesses.{no_part, returns_in, outer_assignments, unsteady, used_value, evaluated_before}
use Rattle.refusal_witnesses.specs.InlineWitnesses.{other_receiver, not_inlinable, other_actuals, captured, new_control}
use Rattle.refusal_witnesses.specs.TemporaryWitnesses.{declares_it, further_declarations, no_let, changed_names, new_controls}
use Rattle.refusal_witnesses.specs.Refused.{HasWitnesses, of_method, of_part, of_target, of_let, is_target_there, is_let_there, is_there, witnesses, IsShown, IsHindered}
use Rattle.refusal_witnesses.proofs.Lists.{of-option, of-two}
use Rattle.refusal_witnesses.proofs.NamesShown.{shows-reflections, shows-method-namings, shows-namings, shows-speakings, shows-kernel-speakings}
use Rattle.refusal_witnesses.proofs.ClassesShown.{shows-outer-uses, shows-looked-uses, shows-kernel-class, shows-kernel-parent, shows-children, shows-other-parent, shows-own-definer, shows-comer}
use Rattle.refusal_witnesses.proofs.MethodsShown.{shows-kernel-method, shows-method-there, shows-missers, shows-supers, shows-other-meanings, shows-others-found}
use Rattle.refusal_witnesses.proofs.ParametersShown.{shows-argument-reads, shows-other-passings, shows-heights}
use Rattle.refusal_witnesses.proofs.PartsShown.{shows-returns, shows-used-value, shows-no-part, shows-outer-assignments, shows-unsteady, shows-evaluated-before}
use Rattle.refusal_witnesses.proofs.InlinesShown.{shows-other-receiver, shows-new-control, shows-other-targets, shows-not-inlinable, shows-other-actuals, shows-captured}
use Rattle.refusal_witnesses.proofs.TemporariesShown.{shows-further-declarations, shows-no-let, shows-changed-names, shows-new-controls}

module _ {N : Type 0} (a : AskedOf N) (i : ImageOf N) where
  -- conditions of a part, of a target and of a temporary with its assignment
  of-part : (test : EntryOf N → Part → Bool) (f : EntryOf N → Part → List (WitnessOf N)) → ((m : EntryOf N) (part : Part) → test m part ≡ is_empty (f m part)) → (c : N) (meta : Bool) (s : N) (from to : ℕ) → option_map_or (λ e. test e.0 e.1) (part_at a i c meta s from to) false ≡ (is_some (part_at a i c meta s from to) && is_empty (of_part a i c meta s from to f))
  of-part test f h c meta s from to = of-option (λ (e : EntryOf N × Part). test e.0 e.1) (λ (e : EntryOf N × Part). f e.0 e.1) (λ e. h e.0 e.1) (part_at a i c meta s from to)

  of-target : (test : EntryOf N → SendOf N → EntryOf N → Bool) (f : EntryOf N → SendOf N → EntryOf N → List (WitnessOf N)) → ((m : EntryOf N) (e : SendOf N) (target : EntryOf N) → test m e target ≡ is_empty (f m e target)) → (c : N) (meta : Bool) (s : N) (from to : ℕ) → option_map_or (λ e. option_map_or (test e.0 e.1) (target_of a i c meta e.1) false) (send_at a i c meta s from to) false ≡ (is_target_there a i c meta s from to && is_empty (of_target a i c meta s from to f))
  of-target test f h c meta s from to =
      of-two (λ (e : EntryOf N × SendOf N). target_of a i c meta e.1) (λ (e : EntryOf N × SendOf N). test e.0 e.1) (λ (e : EntryOf N × SendOf N). f e.0 e.1) (λ e target. h e.0 e.1 target) (send_at a i c meta s from to)

  of-let : (test : EntryOf N → N → LetOf N → Bool) (f : EntryOf N → N → LetOf N → List (WitnessOf N)) → ((m : EntryOf N) (x : N) (e : LetOf N) → test m x e ≡ is_empty (f m x e)) → (c : N) (meta : Bool) (s x : N) → option_map_or (λ (m : EntryOf N). option_map_or (test m x) (let_of a m.tree x) false) (method_at a i c meta s) false ≡ (is_let_there a i c meta s x && is_empty (of_let a i c meta s x (λ m e. f m x e)))
  of-let test f h c meta s x = of-two (λ (m : EntryOf N). let_of a m.tree x) (λ m. test m x) (λ m. f m x) (λ m e. h m x e) (method_at a i c meta s)

  -- conditions of a name in a method that speak of what it declares
  of-declared : (test : EntryOf N → N → Bool) (f : EntryOf N → N → List (WitnessOf N)) → ((m : EntryOf N) (x : N) → test m x ≡ (declares_it a m.tree x && is_empty (f m x))) → (c : N) (meta : Bool) (s x : N) → option_map_or (λ (m : EntryOf N). test m x) (method_at a i c meta s) false ≡ (option_map_or (λ (m : EntryOf N). declares_it a m.tree x) (method_at a i c meta s) false && is_empty (of_method a i c meta s (λ m. f m x)))
  of-declared test f h c meta s x = by (method_at a i c meta s)
    where
      by : (o : Option (EntryOf N)) → option_map_or (λ (m : EntryOf N). test m x) o false ≡ (option_map_or (λ (m : EntryOf N). declares_it a m.tree x) o false && is_empty (option_map_or (λ m. f m x) o []))
      by None = refl
      by (Some m) = h m x

  shows-unreached : (command : CommandOf N) (s : N) → IsShown a i command (Unreached s)
  shows-unreached (AddMethod c meta protocol text tree) s =
      ap (λ b. is_class a.words.tests.same i c && b) (shows-others-found a.words a.is_super i (method_added c meta protocol text tree i) meta s)
  shows-unreached (PushUpMethod c meta t) s =
      ap (λ b. (implements a.words.tests.same i c meta t && is_some (superclass_name a.words.tests.same i c)) && b)
      (shows-others-found a.words a.is_super i (method_pushed_up a.words.tests.same c meta t i) meta s)
  shows-unreached (PushDownMethod c meta t) s =
      ap (λ b. implements a.words.tests.same i c meta t && b) (shows-others-found a.words a.is_super i (method_pushed_down a.words.tests.same c meta t i) meta s)
  shows-unreached command s = refl

  shows-inlinable : (command : CommandOf N) (d : N) (side : Bool) (t : N) → IsShown a i command (Inlinable d side t)
  shows-inlinable (InlineMethod c meta s from to) d side t = of-target (is_inlinable a i c) (not_inlinable a i c) (shows-not-inlinable a i c) c meta s from to
  shows-inlinable command d side t = refl

  pub shown : (command : CommandOf N) (condition : ConditionOf N) → HasWitnesses condition → IsShown a i command condition
  shown command NoReflection h = shows-reflections a.command_words i command
  shown command (IsUserClass c) h = shows-kernel-class a.words.tests.same i c
  shown command (GoodName n kind) h = absurd h
  shown command (NameUnused n) h = shows-namings a.words.tests.same i n
  shown command (SelectorFresh s) h = shows-speakings a.words.tests.same i s
  shown command (NotKernelSelector s) h = shows-kernel-speakings a.words.tests.same a.command_words i s
  shown command (Arity t count) h = absurd h
  shown command (Implements c meta s) h = shows-kernel-method a.words.tests.same i c meta s
  shown command (NotImplements c meta s) h = shows-method-there a.words.tests.same i c meta s
  shown command (Removable c meta s) h = shows-missers a.words a.is_super i c meta s
  shown command (NoSubclasses c) h = shows-children a.words.tests.same i c
  shown command (NotReferenced c) h = shows-outer-uses a.words i c
  shown command (HasVariable c x) h = absurd h
  shown command (VariableFree c x) h = shows-comer a.words.tests.same i command c x
  shown command (VariableUnused c x) h = shows-looked-uses a.words i command c x
  shown command (ParentIsUser c) h = shows-kernel-parent a.words.tests.same i c
  shown command (NoSuper c meta s) h = shows-supers a.words a.is_super i c meta s
  shown command (MeansSame c meta s d) h = shows-other-meanings a.words a.is_super i c meta s d
  shown command (Unreached s) h = shows-unreached command s
  shown command (ParameterUnused s k) h = shows-argument-reads a i s k
  shown command (PlainArguments s k) h = shows-other-passings a i s k
  shown command AtomLiteral h = absurd h
  shown command (PartIs c meta s from to) h = of-part (λ m part. is_part a m.tree part) (no_part a) (shows-no-part a) c meta s from to
  shown command (NoReturn c meta s from to) h = of-part (λ m part. has_no_return m.tree part) returns_in shows-returns c meta s from to
  shown command (AssignsNoOuter c meta s from to) h = of-part (λ m part. assigns_no_outer a m.tree part) (outer_assignments a) (shows-outer-assignments a) c meta s from to
  shown command (TempsSteady c meta s from to) h = of-part (λ m part. are_temporaries_steady a m.tree part) (unsteady a) (shows-unsteady a) c meta s from to
  shown command (ValueUnused c meta s from to) h = of-part (λ m part. is_value_unused m.tree part) used_value shows-used-value c meta s from to
  shown command (SelfSend c meta s from to) h =
      of-option (λ (e : EntryOf N × SendOf N). is_self_send a i e.1) (λ (e : EntryOf N × SendOf N). other_receiver a i e.0 e.1) (λ e. shows-other-receiver a i e.0 e.1) (send_at a i c meta s from to)
  shown command (OneTarget c meta s) h = shows-other-targets a i c meta s
  shown command (Inlinable c meta s) h = shows-inlinable command c meta s
  shown command (PlainActuals c meta s from to) h = of-target (are_actuals_plain a i) (other_actuals a i) (shows-other-actuals a i) c meta s from to
  shown command (NoCapture c meta s (AtPart from to)) h = of-target (captures_nothing a i) (captured a i) (shows-captured a i) c meta s from to
  shown command (NoCapture c meta s (AtName x)) h = of-let (λ m y e. is_value_kept a i m y e) (λ m y e. changed_names a i m y e) (λ m y e. shows-changed-names a i m y e) c meta s x
  shown command (NoNewControl c meta s (AtPart from to)) h = of-target (makes_no_control a i) (new_control a i) (shows-new-control a i) c meta s from to
  shown command (NoNewControl c meta s (AtName x)) h = of-let (λ m y e. is_value_no_control a i m y e) (λ m y e. new_controls a i m y e) (λ m y e. shows-new-controls a i m y e) c meta s x
  shown command (Declared c meta s x) h = of-declared (λ m y. is_declared_once a m.tree y) (further_declarations a) (shows-further-declarations a) c meta s x
  shown command (NotIn c meta s x) h =
      of-option (λ (m : EntryOf N). not (is_named_in_method a.words.tests.same x m)) (namings_in_method a.words.tests.same x) (λ m. sym (shows-method-namings a.words.tests.same x m)) (method_at a i c meta s)
  shown command (LetForm c meta s x) h = of-declared (λ m y. option_map_or (is_let_form a i m y) (let_of a m.tree y) false) (λ m y. no_let a i m y) (λ m y. shows-no-let a i m y) c meta s x
  shown command (FirstEvaluated c meta s from to) h = of-part (is_first_evaluated a i) (evaluated_before a i) (shows-evaluated-before a i) c meta s from to
  shown command Shallow h = shows-heights a i command
  shown command (IsClass c) h = absurd h
  shown command (ChildOf d c) h = shows-other-parent a.words.tests.same i d c
  shown command (LacksVariable c x) h = shows-own-definer a.words.tests.same i c x
  shown command (KnownSelector s) h = absurd h
  shown command UndoLeft h = absurd h
  shown command RedoLeft h = absurd h

  pub hindered : (command : CommandOf N) (condition : ConditionOf N) → HasWitnesses condition → IsHindered a i command condition
  hindered command condition h e there = by (is_empty (witnesses a i command condition)) (is_there a i command condition) (sym (shown command condition h) ∙ e) there
    where
      by : (b t : Bool) → (t && b) ≡ false → t ≡ true → b ≡ false
      by b true e r = e
      by b false e r = absurd (cc)

  -- what has no witnesses has none
  pub none-else : (command : CommandOf N) (condition : ConditionOf N) → ¬ HasWitnesses condition → witnesses a i command condition ≡ []
  none-else command (GoodName n kind) h = refl
  none-else command (Arity t count) h = refl
  none-else command (HasVariable c x) h = refl
  none-else command AtomLiteral h = refl
  none-else command (IsClass c) h = refl
  none-else command (KnownSelector s) h = refl
  none-else command UndoLeft h = refl
  none-else command RedoLeft h = refl
  none-else command condition h = absurd (h tt)

  -- a condition with witnesses is false, given that those which may have some are shown
  of-shown : (command : CommandOf N) (condition : ConditionOf N) → IsShown a i command condition → is_empty (witnesses a i command condition) ≡ false → holds a i command condition ≡ false
  of-shown command condition e w = e ∙ by (is_there a i command condition) (is_empty (witnesses a i command condition)) w
    where
      by : (t b : Bool) → b ≡ false → (t && b) ≡ false
      by true b w = w
      by false b w = refl

  pub hindering : (command : CommandOf N) (condition : ConditionOf N) → is_empty (witnesses a i command condition) ≡ false → holds a i command condition ≡ false
  hindering command (GoodName n kind) w = absurd (cc)
  hindering command (Arity t count) w = absurd (cc)
  hindering command (HasVariable c x) w = absurd (cc)
  hindering command AtomLiteral w = absurd (cc)
  hindering command (IsClass c) w = absurd (cc)
  hindering command (KnownSelector s) w = absurd (cc)
  hindering command UndoLeft w = absurd (cc)
  hindering command RedoLeft w = absurd (cc)
  hindering command condition w = of-shown command condition (shown command condition tt) w
