-- Commands are judged the same, and make the same of an image, once all names are changed one to one.
use Rattle.std.proofs.Common.{◌≡◌, ◌-◌, suc, Bool, true, false, not, cond, ◌&&◌, List, [], ◌∷◌, ◌++◌, map, find, filter, filter_map, Option, Some, None, is_some, option_map, nat_eq, refl, sym, ap, ◌∙◌}
use Rattle.std.specs.List.{AllByRecursion, cons_option}
use Rattle.std.specs.Option.{option_map_or}
use Rattle.std.proofs.lemmas.List.{map-append}
use Rattle.tree_model.specs.Tree.{map_method}
use Rattle.image_model.specs.Image.{EntryOf, ImageOf, map_image}
use Rattle.image_model.specs.Means.{of_instance, of_class_side, of_class}
use Rattle.rename_model.specs.ClassRenamed.{WritingOf}
use Rattle.rename_model.specs.Conditions.{has_variable}
use Rattle.command_model.specs.Commands.{CommandOf, RenameClass, AddClass, RemoveClass, AddInstVar, RenameInstVar, RemoveInstVar, PushUpInstVar, PushDownInstVar, AddClassVar, RenameClassVar, RemoveClassVar, PushUpClassVar, PushDownClassVar, AddClassSideVar, RenameClassSideVar, RemoveClassSideVar, RenameSelector, AddMethod, RemoveMethod, PushUpMethod, PushDownMethod, AddParameter, RemoveParameter, RenameTemp, kind_of, MovesNoCode}
use Rattle.command_model.specs.Conditions.{NameKind, of_a_class, of_a_class_variable, of_another_variable, of_methods, ConditionOf, NoReflection, IsUserClass, GoodName, NameUnused, SelectorFresh, NotKernelSelector, Arity, Implements, NotImplements, Removable, NoSubclasses, NotReferenced, HasVariable, VariableFree, VariableUnused, ParentIsUser, NoSuper, MeansSame, Unreached, IsClass, ChildOf, LacksVariable, KnownSelector, ParameterUnused, PlainArguments, AtomLiteral, Declared, NotIn, Shallow, UndoLeft, RedoLeft}
use Rattle.command_model.specs.Asked.{AskedOf}
use Rattle.command_model.specs.Hierarchy.{superclass_name, receivers}
use Rattle.command_model.specs.NameConditions.{adds_no_reflection, is_good_name}
use Rattle.command_model.specs.MethodEffects.{new_method, method_added, method_pushed_up, method_pushed_down}
use Rattle.command_model.specs.MethodConditions.{is_unreached}
use Rattle.command_model.specs.CodeNeeds.{in_no_implementor}
use Rattle.command_model.specs.Needs.{further_needs, needs}
use Rattle.command_model.specs.Holds.{holds}
use Rattle.command_model.specs.Effects.{effect}
use Rattle.command_model.specs.Judged.{first_false}
use Rattle.command_numbers.specs.MappedCommands.{map_command, map_condition}
use Rattle.command_numbers.specs.KeepsAsked.{KeepsAsked, KeepsWriting}
use Rattle.command_numbers.specs.WithoutMove.{IsWithoutMove}
use Rattle.command_numbers.proofs.Lists.{some-map, made-total, map-total}
use Rattle.command_numbers.proofs.Everywhere.{Every}
use Rattle.command_numbers.proofs.Classes.{is_class-map, is_user_class-map, superclass_name-map, has_variable-map, receivers-map}
use Rattle.command_numbers.proofs.NamesAsked.{method_reflects-map, has_no_reflection-map, is_name_unused-map, is_known_selector-map, is_selector_fresh-map, is_no_kernel_selector-map}
use Rattle.command_numbers.proofs.VariableConditionsMapped.{kind_of-map, has_no_subclasses-map, is_not_referenced-map, has_user_parent-map, is_user_child-map, lacks_variable-map, may_come_for-map, is_unused_for-map}
use Rattle.command_numbers.proofs.MethodConditionsMapped.{implements-map, lacks_method-map, is_removable-map, is_without_super-map, means_same_in_class-map, is_unreached-map}
use Rattle.command_numbers.proofs.ClassEffectsMapped.{class_added-map, class_removed-map, variable_added-map, variable_removed-map, instance_pushed_up-map, instance_pushed_down-map, shared_moved-map, shared_pushed_up-map}
use Rattle.command_numbers.proofs.MethodEffectsMapped.{method_added-map, method_removed-map, method_pushed_up-map, method_pushed_down-map}
use Rattle.command_numbers.proofs.ClassRenamedMapped.{class_renamed-map}
use Rattle.command_numbers.proofs.VariableRenamedMapped.{variable_renamed-map}
use Rattle.command_numbers.proofs.SelectorRenamedMapped.{selector_renamed-map}
use Rattle.command_numbers.proofs.ParametersMapped.{parameter_added-map, parameter_removed-map}
use Rattle.command_numbers.proofs.ParameterConditionsMapped.{is_parameter_unused-map, are_arguments_plain-map}
use Rattle.command_numbers.proofs.CodeMapped.{in_no_implementor-map, declared-map, not_in-map, atom-map, shallow-map, temporary_effect-map}

module _ {M N : Type 0} (f : M → N) (a : AskedOf M) (b : AskedOf N) (keeps : KeepsAsked Every f a b) (i : ImageOf M) where
  -- conditions that are given the superclass
  given_superclass-map : (c : M) (conditions : M → List (ConditionOf M)) (conditions_there : N → List (ConditionOf N)) → ((p : M) → conditions_there (f p) ≡ map (map_condition f) (conditions p))
      → option_map_or conditions_there (superclass_name b.words.tests.same (map_image f i) (f c)) [] ≡ map (map_condition f) (option_map_or conditions (superclass_name a.words.tests.same i c) [])
  given_superclass-map c conditions conditions_there e =
      ap (λ (o : Option N). option_map_or conditions_there o []) (superclass_name-map f a.words b.words keeps.words i c)
      ∙ made-total f (map (map_condition f)) conditions conditions_there [] [] e refl (superclass_name a.words.tests.same i c)

  further_needs-map : (command : CommandOf M) → MovesNoCode command
      → further_needs b (map_image f i) (map_command f command) ≡ map (map_condition f) (further_needs a i command)
  further_needs-map (RenameClass c d) still = refl
  further_needs-map (AddClass d p under) still =
      ap (λ (ks : List (ConditionOf N)). IsClass (f p) ∷ GoodName (f d) of_a_class ∷ NameUnused (f d) ∷ ks) (map-total f (map_condition f) (λ s. ChildOf s p) (λ s. ChildOf s (f p)) (λ s. refl) under)
  further_needs-map (RemoveClass c) still = refl
  further_needs-map (AddInstVar c x) still = refl
  further_needs-map (RenameInstVar c x y) still = refl
  further_needs-map (RemoveInstVar c x) still = refl
  further_needs-map (PushUpInstVar c x) still =
      ap (λ (ks : List (ConditionOf N)). IsUserClass (f c) ∷ HasVariable (f c) (f x) ∷ ParentIsUser (f c) ∷ ks)
      (given_superclass-map c (λ p. VariableFree p x ∷ []) (λ p. VariableFree p (f x) ∷ []) (λ p. refl))
  further_needs-map (PushDownInstVar c x) still = refl
  further_needs-map (AddClassVar c x) still = refl
  further_needs-map (RenameClassVar c x y) still = refl
  further_needs-map (RemoveClassVar c x) still = refl
  further_needs-map (PushUpClassVar c x) still =
      ap (λ (ks : List (ConditionOf N)). IsUserClass (f c) ∷ HasVariable (f c) (f x) ∷ ParentIsUser (f c) ∷ ks)
      (given_superclass-map c (λ p. VariableFree p x ∷ []) (λ p. VariableFree p (f x) ∷ []) (λ p. refl))
  further_needs-map (PushDownClassVar c x d) still = refl
  further_needs-map (AddClassSideVar c x) still = refl
  further_needs-map (RenameClassSideVar c x y) still = refl
  further_needs-map (RemoveClassSideVar c x) still = refl
  further_needs-map (RenameSelector s t) still =
      λ j. GoodName (f t) of_methods ∷ NotKernelSelector (f s) ∷ KnownSelector (f s) ∷ Arity (f t) (keeps.command_words.arity s tt j) ∷ NotKernelSelector (f t) ∷ SelectorFresh (f t) ∷ []
  further_needs-map (AddMethod c meta protocol text tree) still = refl
  further_needs-map (RemoveMethod c meta s) still = refl
  further_needs-map (PushUpMethod c meta s) still =
      ap (λ (ks : List (ConditionOf N)). IsUserClass (f c) ∷ Implements (f c) meta (f s) ∷ ParentIsUser (f c) ∷ ks)
      (given_superclass-map c (λ p. NotImplements p meta s ∷ NoSuper c meta s ∷ MeansSame c meta s p ∷ Unreached s ∷ []) (λ p. NotImplements p meta (f s) ∷ NoSuper (f c) meta (f s) ∷ MeansSame (f c) meta (f s) p ∷ Unreached (f s) ∷ []) (λ p. refl))
  further_needs-map (PushDownMethod c meta s) still =
      ap (λ (ks : List (ConditionOf N)). IsUserClass (f c) ∷ Implements (f c) meta (f s) ∷ NoSuper (f c) meta (f s) ∷ (ks ++ Unreached (f s) ∷ []))
      (ap (map (MeansSame (f c) meta (f s))) (receivers-map f a.words b.words keeps.words i c meta s)
      ∙ map-total f (map_condition f) (MeansSame c meta s) (MeansSame (f c) meta (f s)) (λ d. refl) (receivers a.words.tests.same i c meta s))
      ∙ ap (λ (ks : List (ConditionOf N)). IsUserClass (f c) ∷ Implements (f c) meta (f s) ∷ NoSuper (f c) meta (f s) ∷ ks)
      (sym (map-append (map_condition f) (map (MeansSame c meta s) (receivers a.words.tests.same i c meta s)) (Unreached s ∷ [])))
  further_needs-map (AddParameter s t x passed) still =
      (λ j. GoodName (f t) of_methods ∷ NotKernelSelector (f s) ∷ KnownSelector (f s) ∷ Arity (f t) (suc (keeps.command_words.arity s tt j)) ∷ NotKernelSelector (f t) ∷ SelectorFresh (f t)
      ∷ GoodName (f x) of_another_variable ∷ (in_no_implementor-map f a b keeps i s x j ++ AtomLiteral ∷ Shallow ∷ []))
      ∙ ap (λ (ks : List (ConditionOf N)). GoodName (f t) of_methods ∷ NotKernelSelector (f s) ∷ KnownSelector (f s) ∷ Arity (f t) (suc (a.command_words.arity s)) ∷ NotKernelSelector (f t) ∷ SelectorFresh (f t)
      ∷ GoodName (f x) of_another_variable ∷ ks)
      (sym (map-append (map_condition f) (in_no_implementor a i s x) (AtomLiteral ∷ Shallow ∷ [])))
  further_needs-map (RemoveParameter s k t) still =
      λ j. GoodName (f t) of_methods ∷ NotKernelSelector (f s) ∷ KnownSelector (f s) ∷ Arity (f t) (keeps.command_words.arity s tt j - 1) ∷ NotKernelSelector (f t) ∷ SelectorFresh (f t)
      ∷ ParameterUnused (f s) k ∷ PlainArguments (f s) k ∷ []
  further_needs-map (RenameTemp c meta s x y) still = refl
  further_needs-map command still = absurd still

  -- all conditions
  pub needs-map : (command : CommandOf M) → MovesNoCode command
      → needs b (map_image f i) (map_command f command) ≡ map (map_condition f) (needs a i command)
  needs-map command still = ap (λ (ks : List (ConditionOf N)). NoReflection ∷ ks) (further_needs-map command still)

  -- the conditions of names
  adds_no_reflection-map : (command : CommandOf M) → adds_no_reflection b.command_words (map_command f command) ≡ adds_no_reflection a.command_words command
  adds_no_reflection-map (AddMethod c meta protocol text tree) = ap not (method_reflects-map f a.command_words b.command_words keeps.command_words (new_method c meta protocol text tree))
  adds_no_reflection-map command = refl

  is_good_name-map : (n : M) (kind : NameKind) → is_good_name b.command_words (f n) kind ≡ is_good_name a.command_words n kind
  is_good_name-map n of_a_class = keeps.command_words.is_good_class_name n tt
  is_good_name-map n of_a_class_variable = keeps.command_words.is_good_class_name n tt
  is_good_name-map n of_another_variable = keeps.command_words.is_good_variable_name n tt
  is_good_name-map n of_methods = keeps.command_words.is_good_selector n tt

  -- whether a class that finds another method is reached in the image after
  unreached_in : (after : ImageOf M) (after_there : ImageOf N) → after_there ≡ map_image f after → (meta : Bool) (s : M)
      → is_unreached b.words b.is_super (map_image f i) after_there meta (f s) ≡ is_unreached a.words a.is_super i after meta s
  unreached_in after after_there e meta s =
      ap (λ (k : ImageOf N). is_unreached b.words b.is_super (map_image f i) k meta (f s)) e
      ∙ is_unreached-map f a.words b.words keeps.words i a.is_super b.is_super (λ n. keeps.is_super n tt) after meta s

  unreached-map : (command : CommandOf M) (s : M) → holds b (map_image f i) (map_command f command) (Unreached (f s)) ≡ holds a i command (Unreached s)
  unreached-map (AddMethod c meta protocol text tree) s =
      λ j. is_class-map f a.words b.words keeps.words i c j
      && unreached_in (method_added c meta protocol text tree i) (method_added (f c) meta protocol text (map_method f tree) (map_image f i)) (method_added-map f c meta protocol text tree i) meta s j
  unreached-map (PushUpMethod c meta t) s =
      λ j. (implements-map f a.words b.words keeps.words i c meta t j && (ap is_some (superclass_name-map f a.words b.words keeps.words i c) ∙ some-map f (superclass_name a.words.tests.same i c)) j)
      && unreached_in (method_pushed_up a.words.tests.same c meta t i) (method_pushed_up b.words.tests.same (f c) meta (f t) (map_image f i)) (method_pushed_up-map f a.words b.words keeps.words i c meta t) meta s j
  unreached-map (PushDownMethod c meta t) s =
      λ j. implements-map f a.words b.words keeps.words i c meta t j
      && unreached_in (method_pushed_down a.words.tests.same c meta t i) (method_pushed_down b.words.tests.same (f c) meta (f t) (map_image f i)) (method_pushed_down-map f a.words b.words keeps.words i c meta t) meta s j
  unreached-map command s = refl

  -- whether a condition holds
  pub holds-map : (command : CommandOf M) (condition : ConditionOf M) → IsWithoutMove command condition → holds b (map_image f i) (map_command f command) (map_condition f condition) ≡ holds a i command condition
  holds-map command NoReflection still = λ j. has_no_reflection-map f a.command_words b.command_words keeps.command_words i j && adds_no_reflection-map command j
  holds-map command (IsUserClass c) still = is_user_class-map f a.words b.words keeps.words i c
  holds-map command (GoodName n kind) still = is_good_name-map n kind
  holds-map command (NameUnused n) still = is_name_unused-map f a.words b.words keeps.words i n
  holds-map command (SelectorFresh s) still = is_selector_fresh-map f a.words b.words keeps.words i s
  holds-map command (NotKernelSelector s) still = is_no_kernel_selector-map f a.words b.words keeps.words i a.command_words b.command_words keeps.command_words s
  holds-map command (Arity t count) still = ap (λ k. nat_eq k count) (keeps.command_words.arity t tt)
  holds-map command (Implements c meta s) still = implements-map f a.words b.words keeps.words i c meta s
  holds-map command (NotImplements c meta s) still = lacks_method-map f a.words b.words keeps.words i c meta s
  holds-map command (Removable c meta s) still = is_removable-map f a.words b.words keeps.words i a.is_super b.is_super (λ n. keeps.is_super n tt) c meta s
  holds-map command (NoSubclasses c) still = has_no_subclasses-map f a.words b.words keeps.words i c
  holds-map command (NotReferenced c) still = is_not_referenced-map f a.words b.words keeps.words i c
  holds-map command (HasVariable c x) still =
      ap (λ k. has_variable b.words.tests.same (map_image f i) k (f c) (f x)) (kind_of-map f command) ∙ has_variable-map f a.words b.words keeps.words i (kind_of command) c x
  holds-map command (VariableFree c x) still = may_come_for-map f a.words b.words keeps.words i command c x
  holds-map command (VariableUnused c x) still = is_unused_for-map f a.words b.words keeps.words i command c x
  holds-map command (ParentIsUser c) still = has_user_parent-map f a.words b.words keeps.words i c
  holds-map command (NoSuper c meta s) still = is_without_super-map f a.words b.words keeps.words i a.is_super b.is_super (λ n. keeps.is_super n tt) c meta s
  holds-map command (MeansSame c meta s d) still = means_same_in_class-map f a.words b.words keeps.words i a.is_super b.is_super (λ n. keeps.is_super n tt) c meta s d
  holds-map command (Unreached s) still = unreached-map command s
  holds-map command (IsClass c) still = is_class-map f a.words b.words keeps.words i c
  holds-map command (ChildOf d c) still = is_user_child-map f a.words b.words keeps.words i d c
  holds-map command (LacksVariable c x) still = lacks_variable-map f a.words b.words keeps.words i c x
  holds-map command (KnownSelector s) still = is_known_selector-map f a.words b.words keeps.words i s
  holds-map command (ParameterUnused s k) still = is_parameter_unused-map f a b keeps i s k
  holds-map command (PlainArguments s k) still = are_arguments_plain-map f a b keeps i s k
  holds-map command AtomLiteral still = atom-map f a b keeps i command
  holds-map command (Declared c meta s x) still = declared-map f a b keeps i command c meta s x
  holds-map command (NotIn c meta s x) still = not_in-map f a b keeps i command c meta s x
  holds-map command Shallow still = shallow-map f a b keeps i command still
  holds-map command UndoLeft still = refl
  holds-map command RedoLeft still = refl
  holds-map command condition still = absurd still

  -- conditions that pass a test, one by one
  module _ (P : ConditionOf M → Type 0) (rest : List (ConditionOf M)) (last : AllByRecursion P rest) where
    given_all : (conditions : M → List (ConditionOf M)) (o : Option M) → ((p : M) → AllByRecursion P (conditions p)) → AllByRecursion P (option_map_or conditions o [])
    given_all conditions None all = tt
    given_all conditions (Some p) all = all p

    each_all : (make : M → ConditionOf M) (ns : List M) → ((n : M) → P (make n)) → AllByRecursion P (map make ns ++ rest)
    each_all make [] all = last
    each_all make (n ∷ ns) all = (all n, each_all make ns all)

    lacked_all : (s x : M) → ((c : M) (meta : Bool) → P (NotIn c meta s x)) → (ms : List (EntryOf M)) → AllByRecursion P (filter_map (λ (m : EntryOf M). option_map (λ c. NotIn c m.meta s x) m.class) ms ++ rest)
    lacked_all s x all [] = last
    lacked_all s x all (m ∷ ms) = by m.class (lacked_all s x all ms)
      where
        others : List (ConditionOf M)
        others = filter_map (λ (e : EntryOf M). option_map (λ c. NotIn c e.meta s x) e.class) ms

        by : (o : Option M) → AllByRecursion P (others ++ rest) → AllByRecursion P (cons_option (option_map (λ c. NotIn c m.meta s x) o) others ++ rest)
        by None r = r
        by (Some c) r = (all c m.meta, r)

  -- the conditions of a command that moves no code
  needs-without_move : (command : CommandOf M) → MovesNoCode command → AllByRecursion (IsWithoutMove command) (needs a i command)
  needs-without_move (AddClass d p under) still = (tt, (tt, (tt, (tt, children under))))
    where
      children : (ns : List M) → AllByRecursion (IsWithoutMove (AddClass d p under)) (map (λ s. ChildOf s p) ns)
      children [] = tt
      children (n ∷ ns) = (tt, children ns)
  needs-without_move (PushUpInstVar c x) still = (tt, (tt, (tt, (tt, given_all (IsWithoutMove (PushUpInstVar c x)) [] tt (λ p. VariableFree p x ∷ []) (superclass_name a.words.tests.same i c) (λ p. (tt, tt))))))
  needs-without_move (PushUpClassVar c x) still = (tt, (tt, (tt, (tt, given_all (IsWithoutMove (PushUpClassVar c x)) [] tt (λ p. VariableFree p x ∷ []) (superclass_name a.words.tests.same i c) (λ p. (tt, tt))))))
  needs-without_move (PushUpMethod c meta s) still =
      (tt, (tt, (tt, (tt, given_all (IsWithoutMove (PushUpMethod c meta s)) [] tt (λ p. NotImplements p meta s ∷ NoSuper c meta s ∷ MeansSame c meta s p ∷ Unreached s ∷ []) (superclass_name a.words.tests.same i c) (λ p. (tt, (tt, (tt, (tt, tt)))))))))
  needs-without_move (PushDownMethod c meta s) still =
      (tt, (tt, (tt, (tt, each_all (IsWithoutMove (PushDownMethod c meta s)) (Unreached s ∷ []) (tt, tt) (MeansSame c meta s) (receivers a.words.tests.same i c meta s) (λ d. tt)))))
  needs-without_move (RenameClass c d) still = (tt, (tt, (tt, (tt, tt))))
  needs-without_move (RemoveClass c) still = (tt, (tt, (tt, (tt, tt))))
  needs-without_move (AddInstVar c x) still = (tt, (tt, (tt, (tt, tt))))
  needs-without_move (RenameInstVar c x y) still = (tt, (tt, (tt, (tt, (tt, tt)))))
  needs-without_move (RemoveInstVar c x) still = (tt, (tt, (tt, (tt, tt))))
  needs-without_move (PushDownInstVar c x) still = (tt, (tt, (tt, (tt, tt))))
  needs-without_move (AddClassVar c x) still = (tt, (tt, (tt, (tt, tt))))
  needs-without_move (RenameClassVar c x y) still = (tt, (tt, (tt, (tt, (tt, tt)))))
  needs-without_move (RemoveClassVar c x) still = (tt, (tt, (tt, (tt, tt))))
  needs-without_move (PushDownClassVar c x d) still = (tt, (tt, (tt, (tt, (tt, (tt, tt))))))
  needs-without_move (AddClassSideVar c x) still = (tt, (tt, (tt, (tt, tt))))
  needs-without_move (RenameClassSideVar c x y) still = (tt, (tt, (tt, (tt, (tt, tt)))))
  needs-without_move (RemoveClassSideVar c x) still = (tt, (tt, (tt, (tt, tt))))
  needs-without_move (RenameSelector s t) still = (tt, (tt, (tt, (tt, (tt, (tt, (tt, tt)))))))
  needs-without_move (AddMethod c meta protocol text tree) still = (tt, (tt, (tt, (tt, tt))))
  needs-without_move (RemoveMethod c meta s) still = (tt, (tt, (tt, (tt, tt))))
  needs-without_move (AddParameter s t x passed) still = (
    tt,
    (
      tt,
      (
        tt,
        (
          tt,
          (
            tt,
            (
              tt,
              (
                tt,
                (
                  tt,
                  lacked_all (IsWithoutMove (AddParameter s t x passed)) (AtomLiteral ∷ Shallow ∷ []) (tt, (tt, tt)) s x (λ c meta. tt)
                      (filter (λ (m : EntryOf M). not m.kernel && a.words.tests.same s m.tree.selector) i.methods),
                ),
              ),
            ),
          ),
        ),
      ),
    ),
  )
  needs-without_move (RemoveParameter s k t) still = (tt, (tt, (tt, (tt, (tt, (tt, (tt, (tt, (tt, tt)))))))))
  needs-without_move (RenameTemp c meta s x y) still = (tt, (tt, (tt, (tt, (tt, (tt, tt))))))
  needs-without_move command still = absurd still

  -- the first condition that is false
  first-map : (command : CommandOf M) (conditions : List (ConditionOf M)) → AllByRecursion (IsWithoutMove command) conditions →
      find (λ condition. not (holds b (map_image f i) (map_command f command) condition)) (map (map_condition f) conditions)
      ≡ option_map (map_condition f) (find (λ condition. not (holds a i command condition)) conditions)
  first-map command [] all = refl
  first-map command (q ∷ qs) all =
      (λ j. cond (not (holds-map command q all.0 j)) (Some (map_condition f q)) (first-map command qs all.1 j)) ∙ by (not (holds a i command q))
    where
      by : (t : Bool) → cond t (Some (map_condition f q)) (option_map (map_condition f) (find (λ condition. not (holds a i command condition)) qs))
          ≡ option_map (map_condition f) (cond t (Some q) (find (λ condition. not (holds a i command condition)) qs))
      by true = refl
      by false = refl

  pub first_false-map : (command : CommandOf M) → MovesNoCode command → first_false b (map_image f i) (map_command f command) ≡ option_map (map_condition f) (first_false a i command)
  first_false-map command still =
      ap (find (λ condition. not (holds b (map_image f i) (map_command f command) condition))) (needs-map command still)
      ∙ first-map command (needs a i command) (needs-without_move command still)

  module _ (writing : WritingOf M) (writing_there : WritingOf N) (written : KeepsWriting Every f writing writing_there) where
    -- the image after
    pub effect-map : (command : CommandOf M) → MovesNoCode command → effect b writing_there (map_command f command) (map_image f i) ≡ map_image f (effect a writing command i)
    effect-map (RenameClass c d) still = class_renamed-map f a.words b.words keeps.words writing writing_there written i c d
    effect-map (AddClass d p under) still = class_added-map f a.words b.words keeps.words d p under i
    effect-map (RemoveClass c) still = class_removed-map f a.words b.words keeps.words c i
    effect-map (AddInstVar c x) still = variable_added-map f a.words b.words keeps.words of_instance c x i
    effect-map (RenameInstVar c x y) still = variable_renamed-map f a.words b.words keeps.words writing writing_there written i of_instance c x y
    effect-map (RemoveInstVar c x) still = variable_removed-map f a.words b.words keeps.words of_instance c x i
    effect-map (PushUpInstVar c x) still = instance_pushed_up-map f a.words b.words keeps.words c x i
    effect-map (PushDownInstVar c x) still = instance_pushed_down-map f a.words b.words keeps.words c x i
    effect-map (AddClassVar c x) still = variable_added-map f a.words b.words keeps.words of_class c x i
    effect-map (RenameClassVar c x y) still = variable_renamed-map f a.words b.words keeps.words writing writing_there written i of_class c x y
    effect-map (RemoveClassVar c x) still = variable_removed-map f a.words b.words keeps.words of_class c x i
    effect-map (PushUpClassVar c x) still = shared_pushed_up-map f a.words b.words keeps.words c x i
    effect-map (PushDownClassVar c x d) still = shared_moved-map f a.words b.words keeps.words c x d i
    effect-map (AddClassSideVar c x) still = variable_added-map f a.words b.words keeps.words of_class_side c x i
    effect-map (RenameClassSideVar c x y) still = variable_renamed-map f a.words b.words keeps.words writing writing_there written i of_class_side c x y
    effect-map (RemoveClassSideVar c x) still = variable_removed-map f a.words b.words keeps.words of_class_side c x i
    effect-map (RenameSelector s t) still = selector_renamed-map f a.words b.words keeps.words writing writing_there written i s t
    effect-map (AddMethod c meta protocol text tree) still = method_added-map f c meta protocol text tree i
    effect-map (RemoveMethod c meta s) still = method_removed-map f a.words b.words keeps.words i c meta s
    effect-map (PushUpMethod c meta s) still = method_pushed_up-map f a.words b.words keeps.words i c meta s
    effect-map (PushDownMethod c meta s) still = method_pushed_down-map f a.words b.words keeps.words i c meta s
    effect-map (AddParameter s t x passed) still = parameter_added-map f a.words b.words keeps.words writing writing_there written s t x passed i
    effect-map (RemoveParameter s k t) still = parameter_removed-map f a.words b.words keeps.words writing writing_there written s k t i
    effect-map (RenameTemp c meta s x y) still = temporary_effect-map f a b keeps i writing writing_there written c meta s x y
    effect-map command still = absurd still
