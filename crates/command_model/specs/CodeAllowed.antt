-- All conditions of each command that changes code, by name and in their order.
use Rattle.std.specs.Prelude.{◌≡◌, ℕ, suc, ◌-◌, Bool, length, Some}
use Rattle.std.specs.List.{AllByRecursion}
use Rattle.image_model.specs.Image.{EntryOf, ImageOf}
use Rattle.command_model.specs.Parts.{Part}
use Rattle.command_model.specs.Commands.{CommandOf}
use Rattle.command_model.specs.Conditions.{of_another_variable, of_methods, AtPart, AtName, NoReflection, IsUserClass, GoodName, SelectorFresh, NotKernelSelector, Arity, Implements, HasVariable, KnownSelector, ParameterUnused, PlainArguments, AtomLiteral, PartIs, NoReturn, AssignsNoOuter, TempsSteady, ValueUnused, SelfSend, OneTarget, Inlinable, PlainActuals, NoCapture, NoNewControl, Declared, NotIn, LetForm, FirstEvaluated, Shallow}
use Rattle.command_model.specs.Asked.{AskedOf}
use Rattle.command_model.specs.Places.{SendOf}
use Rattle.command_model.specs.Extracted.{free_temporaries}
use Rattle.command_model.specs.CodeEffects.{part_at, send_at, target_of}
use Rattle.command_model.specs.CodeNeeds.{in_no_implementor}
use Rattle.command_model.specs.Allowed.{Meets}

module _ {N : Type 0} (a : AskedOf N) (i : ImageOf N) (command : CommandOf N) where
  -- methods of a selector s have a last argument x, and the selector t
  pub record MayAddParameter (s t x : N) : Type 0 where
    pub no_reflection : Meets a i command NoReflection
    pub good_selector : Meets a i command (GoodName t of_methods)
    pub old_not_kernel : Meets a i command (NotKernelSelector s)
    pub known_selector : Meets a i command (KnownSelector s)
    pub one_more : Meets a i command (Arity t (suc (a.command_words.arity s)))
    pub new_not_kernel : Meets a i command (NotKernelSelector t)
    pub fresh_selector : Meets a i command (SelectorFresh t)
    pub good_name : Meets a i command (GoodName x of_another_variable)
    pub new_to_methods : AllByRecursion (Meets a i command) (in_no_implementor a i s x)
    pub atom_literal : Meets a i command AtomLiteral
    pub shallow : Meets a i command Shallow

  -- the k-th argument of a selector s goes, and the selector is t
  pub record MayRemoveParameter (s : N) (k : ℕ) (t : N) : Type 0 where
    pub no_reflection : Meets a i command NoReflection
    pub good_selector : Meets a i command (GoodName t of_methods)
    pub old_not_kernel : Meets a i command (NotKernelSelector s)
    pub known_selector : Meets a i command (KnownSelector s)
    pub one_less : Meets a i command (Arity t (a.command_words.arity s - 1))
    pub new_not_kernel : Meets a i command (NotKernelSelector t)
    pub fresh_selector : Meets a i command (SelectorFresh t)
    pub unused_parameter : Meets a i command (ParameterUnused s k)
    pub plain_arguments : Meets a i command (PlainArguments s k)

  -- an instance variable x is read and assigned by messages
  pub record MayAbstractVariable (c x setter : N) : Type 0 where
    pub no_reflection : Meets a i command NoReflection
    pub user_class : Meets a i command (IsUserClass c)
    pub has_variable : Meets a i command (HasVariable c x)
    pub fresh_getter : Meets a i command (SelectorFresh x)
    pub getter_not_kernel : Meets a i command (NotKernelSelector x)
    pub fresh_setter : Meets a i command (SelectorFresh setter)
    pub setter_not_kernel : Meets a i command (NotKernelSelector setter)
    pub shallow : Meets a i command Shallow

  -- a part of a method becomes a method of t
  pub record MayExtractMethod (c : N) (meta : Bool) (s : N) (from to : ℕ) (t : N) : Type 0 where
    pub no_reflection : Meets a i command NoReflection
    pub user_class : Meets a i command (IsUserClass c)
    pub has_method : Meets a i command (Implements c meta s)
    pub part_is : Meets a i command (PartIs c meta s from to)
    pub no_return : Meets a i command (NoReturn c meta s from to)
    pub assigns_no_outer : Meets a i command (AssignsNoOuter c meta s from to)
    pub steady_temporaries : Meets a i command (TempsSteady c meta s from to)
    pub unused_value : Meets a i command (ValueUnused c meta s from to)
    pub good_selector : Meets a i command (GoodName t of_methods)
    pub new_not_kernel : Meets a i command (NotKernelSelector t)
    pub same_arity : (e : EntryOf N × Part) → part_at a i c meta s from to ≡ Some e → Meets a i command (Arity t (length (free_temporaries a e.0.tree e.1)))
    pub fresh_selector : (e : EntryOf N × Part) → part_at a i c meta s from to ≡ Some e → Meets a i command (SelectorFresh t)
    pub shallow : (e : EntryOf N × Part) → part_at a i c meta s from to ≡ Some e → Meets a i command Shallow

  -- a message in a method becomes the body of the method that it finds
  pub record MayInlineMethod (c : N) (meta : Bool) (s : N) (from to : ℕ) : Type 0 where
    pub no_reflection : Meets a i command NoReflection
    pub user_class : Meets a i command (IsUserClass c)
    pub has_method : Meets a i command (Implements c meta s)
    pub self_send : Meets a i command (SelfSend c meta s from to)
    pub one_target : (e : EntryOf N × SendOf N) → send_at a i c meta s from to ≡ Some e → Meets a i command (OneTarget c meta e.1.selector)
    pub inlinable : (e : EntryOf N × SendOf N) → send_at a i c meta s from to ≡ Some e → (target : EntryOf N) → target_of a i c meta e.1 ≡ Some target →
        (d : N) → target.class ≡ Some d → Meets a i command (Inlinable d target.meta e.1.selector)
    pub plain_actuals : (e : EntryOf N × SendOf N) → send_at a i c meta s from to ≡ Some e → (target : EntryOf N) → target_of a i c meta e.1 ≡ Some target →
        Meets a i command (PlainActuals c meta s from to)
    pub no_capture : (e : EntryOf N × SendOf N) → send_at a i c meta s from to ≡ Some e → (target : EntryOf N) → target_of a i c meta e.1 ≡ Some target →
        Meets a i command (NoCapture c meta s (AtPart from to))
    pub no_new_control : (e : EntryOf N × SendOf N) → send_at a i c meta s from to ≡ Some e → (target : EntryOf N) → target_of a i c meta e.1 ≡ Some target →
        Meets a i command (NoNewControl c meta s (AtPart from to))
    pub shallow : (e : EntryOf N × SendOf N) → send_at a i c meta s from to ≡ Some e → (target : EntryOf N) → target_of a i c meta e.1 ≡ Some target →
        Meets a i command Shallow

  -- a part of a method becomes a temporary x
  pub record MayExtractTemporary (c : N) (meta : Bool) (s : N) (from to : ℕ) (x : N) : Type 0 where
    pub no_reflection : Meets a i command NoReflection
    pub user_class : Meets a i command (IsUserClass c)
    pub has_method : Meets a i command (Implements c meta s)
    pub part_is : Meets a i command (PartIs c meta s from to)
    pub first_evaluated : Meets a i command (FirstEvaluated c meta s from to)
    pub good_name : Meets a i command (GoodName x of_another_variable)
    pub new_name : Meets a i command (NotIn c meta s x)
    pub shallow : Meets a i command Shallow

  -- a temporary x of a method becomes what is assigned to it
  pub record MayInlineTemporary (c : N) (meta : Bool) (s x : N) : Type 0 where
    pub no_reflection : Meets a i command NoReflection
    pub user_class : Meets a i command (IsUserClass c)
    pub has_method : Meets a i command (Implements c meta s)
    pub declared : Meets a i command (Declared c meta s x)
    pub let_form : Meets a i command (LetForm c meta s x)
    pub no_capture : Meets a i command (NoCapture c meta s (AtName x))
    pub no_new_control : Meets a i command (NoNewControl c meta s (AtName x))
    pub shallow : Meets a i command Shallow

  -- a name x that a method declares is called y
  pub record MayRenameTemporary (c : N) (meta : Bool) (s x y : N) : Type 0 where
    pub no_reflection : Meets a i command NoReflection
    pub user_class : Meets a i command (IsUserClass c)
    pub has_method : Meets a i command (Implements c meta s)
    pub declared : Meets a i command (Declared c meta s x)
    pub good_name : Meets a i command (GoodName y of_another_variable)
    pub new_name : Meets a i command (NotIn c meta s y)
