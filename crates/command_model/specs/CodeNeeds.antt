-- Which conditions commands that change code have, in their order.
use Rattle.std.specs.Prelude.{ℕ, suc, ◌-◌, Bool, not, ◌&&◌, List, [], ◌∷◌, ◌++◌, filter, filter_map, length, option_map}
use Rattle.std.specs.Option.{option_map_or}
use Rattle.image_model.specs.Image.{EntryOf, ImageOf}
use Rattle.command_model.specs.Asked.{AskedOf}
use Rattle.command_model.specs.Commands.{CommandOf, AddParameter, RemoveParameter, AbstractInstVar, ExtractMethod, InlineMethod, ExtractTemp, InlineTemp, RenameTemp}
use Rattle.command_model.specs.Conditions.{of_another_variable, of_methods, AtPart, AtName, ConditionOf, IsUserClass, GoodName, SelectorFresh, NotKernelSelector, Arity, Implements, HasVariable, KnownSelector, ParameterUnused, PlainArguments, AtomLiteral, PartIs, NoReturn, AssignsNoOuter, TempsSteady, ValueUnused, SelfSend, OneTarget, Inlinable, PlainActuals, NoCapture, NoNewControl, Declared, NotIn, LetForm, FirstEvaluated, Shallow}
use Rattle.command_model.specs.Places.{SendOf}
use Rattle.command_model.specs.Extracted.{free_temporaries}
use Rattle.command_model.specs.CodeEffects.{part_at, send_at, target_of}

module _ {N : Type 0} (a : AskedOf N) (i : ImageOf N) where
  -- those that all three commands have which change a selector s to t, which takes so many arguments
  abbrev selector_needs : N → N → ℕ → List (ConditionOf N)
  selector_needs s t count =
      GoodName t of_methods ∷ NotKernelSelector s ∷ KnownSelector s ∷ Arity t count ∷ NotKernelSelector t ∷ SelectorFresh t ∷ []

  -- those of a method of the user
  abbrev method_needs : N → Bool → N → List (ConditionOf N)
  method_needs c meta s = IsUserClass c ∷ Implements c meta s ∷ []

  -- a new name in each method of the user that has a selector
  abbrev pub in_no_implementor : N → N → List (ConditionOf N)
  in_no_implementor s x =
      filter_map (λ (m : EntryOf N). option_map (λ c. NotIn c m.meta s x) m.class)
      (filter (λ (m : EntryOf N). not m.kernel && a.words.tests.same s m.tree.selector) i.methods)

  -- those behind the target of a message; the list ends before them where there is none
  abbrev pub target_needs : N → Bool → N → (from to : ℕ) → SendOf N → List (ConditionOf N)
  target_needs c meta s from to e =
      OneTarget c meta e.selector
      ∷ option_map_or (λ (target : EntryOf N).
      option_map_or (λ d. Inlinable d target.meta e.selector ∷ []) target.class []
      ++ PlainActuals c meta s from to ∷ NoCapture c meta s (AtPart from to) ∷ NoNewControl c meta s (AtPart from to) ∷ Shallow ∷ [])
      (target_of a i c meta e) []

  -- the conditions behind the first one, which every command has; the list ends before one that is given what is not there. Of other commands none is told
  abbrev pub code_needs : CommandOf N → List (ConditionOf N)
  code_needs (AddParameter s t x passed) =
      selector_needs s t (suc (a.command_words.arity s)) ++ GoodName x of_another_variable ∷ in_no_implementor s x ++ AtomLiteral ∷ Shallow ∷ []
  code_needs (RemoveParameter s k t) = selector_needs s t (a.command_words.arity s - 1) ++ ParameterUnused s k ∷ PlainArguments s k ∷ []
  code_needs (AbstractInstVar c x setter given) =
      IsUserClass c ∷ HasVariable c x ∷ SelectorFresh x ∷ NotKernelSelector x ∷ SelectorFresh setter ∷ NotKernelSelector setter ∷ Shallow ∷ []
  code_needs (ExtractMethod c meta s from to t) =
      method_needs c meta s
      ++ PartIs c meta s from to ∷ NoReturn c meta s from to ∷ AssignsNoOuter c meta s from to ∷ TempsSteady c meta s from to ∷ ValueUnused c meta s from to
      ∷ GoodName t of_methods ∷ NotKernelSelector t
      ∷ option_map_or (λ e. Arity t (length (free_temporaries a e.0.tree e.1)) ∷ SelectorFresh t ∷ Shallow ∷ []) (part_at a i c meta s from to) []
  code_needs (InlineMethod c meta s from to) =
      method_needs c meta s ++ SelfSend c meta s from to ∷ option_map_or (λ e. target_needs c meta s from to e.1) (send_at a i c meta s from to) []
  code_needs (ExtractTemp c meta s from to x) =
      method_needs c meta s
      ++ PartIs c meta s from to ∷ FirstEvaluated c meta s from to ∷ GoodName x of_another_variable ∷ NotIn c meta s x ∷ Shallow ∷ []
  code_needs (InlineTemp c meta s x) =
      method_needs c meta s
      ++ Declared c meta s x ∷ LetForm c meta s x ∷ NoCapture c meta s (AtName x) ∷ NoNewControl c meta s (AtName x) ∷ Shallow ∷ []
  code_needs (RenameTemp c meta s x y) =
      method_needs c meta s ++ Declared c meta s x ∷ GoodName y of_another_variable ∷ NotIn c meta s y ∷ []
  code_needs command = []
