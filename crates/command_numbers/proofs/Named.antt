-- Commands are judged the same, and make the same of an image, once names are changed one to one that have a fact; and what they make has no other names.
use Rattle.std.proofs.Common.{◌≡◌, not, List, map, Option, Some, None, Result, Ok, Err, IfOk, option_map, refl, sym, ap, subst, ◌∙◌}
use Rattle.std.specs.List.{AllByRecursion}
use Rattle.std.specs.Option.{option_map_or}
use Rattle.std.specs.Result.{result_map_both}
use Rattle.tree_model.specs.Tree.{map_sequence, map_method}
use Rattle.tree_model.proofs.MapNames.{map_sequence-map_sequence, map_method-map_method}
use Rattle.tree_model.proofs.AllNamesLemmas.{SequenceNames-map_sequence, MethodNames-map_method}
use Rattle.image_model.specs.Image.{ImageOf, map_image}
use Rattle.image_model.specs.ImageNames.{OptionNames, ImageNames}
use Rattle.image_model.proofs.Lists.{all-map, find-all}
use Rattle.image_model.proofs.MapImage.{map_image-map_image, ImageNames-map_image}
use Rattle.rename_model.specs.ClassRenamed.{WritingOf}
use Rattle.command_model.specs.Commands.{CommandOf, MovesNoCode}
use Rattle.command_model.specs.Conditions.{ConditionOf}
use Rattle.command_model.specs.Asked.{AskedOf}
use Rattle.command_model.specs.Needs.{needs}
use Rattle.command_model.specs.Holds.{holds}
use Rattle.command_model.specs.Effects.{effect}
use Rattle.command_model.specs.Judged.{first_false, judged}
use Rattle.command_numbers.specs.MappedCommands.{map_command, map_condition}
use Rattle.command_numbers.specs.CommandNames.{CommandNames, ConditionNames}
use Rattle.command_numbers.specs.KeepsAsked.{KeepsAsked, KeepsWriting}
use Rattle.command_numbers.specs.WithoutMove.{IsWithoutMove}
use Rattle.command_numbers.proofs.Everywhere.{Every, every_item, every_sequence, every_method, every_image}
use Rattle.command_numbers.proofs.Restricted.{Restricted, plain, condition_names, some_name, by_restricted, by_restricted_condition}
use Rattle.command_numbers.proofs.CommandsMapped.{map_command-map_command, map_condition-map_condition, no_move-unmapped, without_move-unmapped, option-twice, list-twice}
use Rattle.command_numbers.proofs.JudgedMapped.{needs-map, holds-map, first_false-map, effect-map}

-- what is asked of names that have a fact, as of any others, one of which stands for `self`
abbrev restricted : {M : Type 0} (P : M → Type 0) → Restricted P → AskedOf M → AskedOf (Restricted P)
restricted P self a = record {
  words = record {
    tests = record { same = λ x y. a.words.tests.same x.0 y.0; is_pseudo = λ x. a.words.tests.is_pseudo x.0; form = λ x. a.words.tests.form x.0 };
    is_object = λ x. a.words.is_object x.0;
    is_class = λ x. a.words.is_class x.0;
    is_undefined_object = λ x. a.words.is_undefined_object x.0;
    is_transcript = λ x. a.words.is_transcript x.0;
  };
  command_words = record {
    is_reflective_selector = λ x. a.command_words.is_reflective_selector x.0;
    is_not_understood = λ x. a.command_words.is_not_understood x.0;
    is_reflective_name = λ x. a.command_words.is_reflective_name x.0;
    is_good_class_name = λ x. a.command_words.is_good_class_name x.0;
    is_good_variable_name = λ x. a.command_words.is_good_variable_name x.0;
    is_good_selector = λ x. a.command_words.is_good_selector x.0;
    has_own_meaning = λ x. a.command_words.has_own_meaning x.0;
    arity = λ x. a.command_words.arity x.0;
  };
  is_super = λ x. a.is_super x.0;
  self_name = self;
  is_constant = λ x. a.is_constant x.0;
  part_of = a.part_of;
}

abbrev restricted_writing : {M : Type 0} (P : M → Type 0) → WritingOf M → WritingOf (Restricted P)
restricted_writing P writing = record {
  method_text = λ m. writing.method_text (map_method (plain P) m);
  doit_text = λ b. writing.doit_text (map_sequence (plain P) b);
}

module _ {M : Type 0} (P : M → Type 0) (a : AskedOf M) where
  -- names that stay answer the same
  as_plain : (self : Restricted P) → KeepsAsked Every (plain P) (restricted P self a) a
  as_plain self = record {
    words = record {
      tests = record { same = λ x y s t. refl; is_pseudo = λ x t. refl; form = λ x t. refl };
      is_object = λ x t. refl;
      is_class = λ x t. refl;
      is_undefined_object = λ x t. refl;
      is_transcript = λ x t. refl;
    };
    command_words = record {
      is_reflective_selector = λ x t. refl;
      is_not_understood = λ x t. refl;
      is_reflective_name = λ x t. refl;
      is_good_class_name = λ x t. refl;
      is_good_variable_name = λ x t. refl;
      is_good_selector = λ x t. refl;
      has_own_meaning = λ x t. refl;
      arity = λ x t. refl;
    };
    is_super = λ x t. refl;
    is_constant = λ x t. refl;
  }

  -- the names in the conditions of a command
  pub needs-names : (i : ImageOf M) (command : CommandOf M) → ImageNames P i → CommandNames P command → MovesNoCode command → AllByRecursion (ConditionNames P) (needs a i command)
  needs-names = by_restricted P (λ i command. MovesNoCode command → AllByRecursion (ConditionNames P) (needs a i command)) (λ k c still.
      subst (λ (cs : List (ConditionOf M)). AllByRecursion (ConditionNames P) cs) (sym (needs-map (plain P) (restricted P (some_name P c) a) a (as_plain (some_name P c)) k c (no_move-unmapped (plain P) c still)))
      (all-map (ConditionNames P) (map_condition (plain P)) (needs (restricted P (some_name P c) a) k c)
      (every_item (λ (x : ConditionOf (Restricted P)). ConditionNames P (map_condition (plain P) x)) (condition_names P) (needs (restricted P (some_name P c) a) k c))))

  pub first_false-names : (i : ImageOf M) (command : CommandOf M) → ImageNames P i → CommandNames P command → MovesNoCode command → OptionNames (ConditionNames P) (first_false a i command)
  first_false-names i command p q still =
      find-all (ConditionNames P) (λ condition. not (holds a i command condition)) (needs a i command) (needs-names i command p q still)

  module _ (writing : WritingOf M) where
    plain_writing : KeepsWriting Every (plain P) (restricted_writing P writing) writing
    plain_writing = record { method_text = λ m t. refl; doit_text = λ d t. refl }

    -- the names in the image after
    pub effect-names : (i : ImageOf M) (command : CommandOf M) → ImageNames P i → CommandNames P command → MovesNoCode command → ImageNames P (effect a writing command i)
    effect-names = by_restricted P (λ i command. MovesNoCode command → ImageNames P (effect a writing command i)) (λ k c still.
        subst (λ (i : ImageOf M). ImageNames P i)
        (sym (effect-map (plain P) (restricted P (some_name P c) a) a (as_plain (some_name P c)) k (restricted_writing P writing) writing plain_writing c (no_move-unmapped (plain P) c still)))
        (ImageNames-map_image P (plain P) (effect (restricted P (some_name P c) a) (restricted_writing P writing) c k) (every_image (λ (x : Restricted P). P x.0) (λ x. x.1) (effect (restricted P (some_name P c) a) (restricted_writing P writing) c k))))

    pub judged-names : (i : ImageOf M) (command : CommandOf M) → ImageNames P i → CommandNames P command → MovesNoCode command → IfOk (judged a writing i command) (ImageNames P)
    judged-names i command p q still = by (first_false a i command) (effect-names i command p q still)
      where
        by : (o : Option (ConditionOf M)) → ImageNames P (effect a writing command i) → IfOk {T = ImageOf M} {E = ConditionOf M} (option_map_or (λ c. Err c) o (Ok (effect a writing command i))) (ImageNames P)
        by None r = r
        by (Some c) r = tt

module _ {M N : Type 0} (P : M → Type 0) (f : M → N) (a : AskedOf M) (b : AskedOf N) (keeps : KeepsAsked P f a b) where
  -- such a name, changed
  abbrev changed : Restricted P → N
  changed x = f x.0

  kept : (self : Restricted P) → KeepsAsked Every (changed) (restricted P self a) b
  kept self = record {
    words = record {
      tests = record {
        same = λ x y s t. keeps.words.tests.same x.0 y.0 x.1 y.1;
        is_pseudo = λ x t. keeps.words.tests.is_pseudo x.0 x.1;
        form = λ x t. keeps.words.tests.form x.0 x.1;
      };
      is_object = λ x t. keeps.words.is_object x.0 x.1;
      is_class = λ x t. keeps.words.is_class x.0 x.1;
      is_undefined_object = λ x t. keeps.words.is_undefined_object x.0 x.1;
      is_transcript = λ x t. keeps.words.is_transcript x.0 x.1;
    };
    command_words = record {
      is_reflective_selector = λ x t. keeps.command_words.is_reflective_selector x.0 x.1;
      is_not_understood = λ x t. keeps.command_words.is_not_understood x.0 x.1;
      is_reflective_name = λ x t. keeps.command_words.is_reflective_name x.0 x.1;
      is_good_class_name = λ x t. keeps.command_words.is_good_class_name x.0 x.1;
      is_good_variable_name = λ x t. keeps.command_words.is_good_variable_name x.0 x.1;
      is_good_selector = λ x t. keeps.command_words.is_good_selector x.0 x.1;
      has_own_meaning = λ x t. keeps.command_words.has_own_meaning x.0 x.1;
      arity = λ x t. keeps.command_words.arity x.0 x.1;
    };
    is_super = λ x t. keeps.is_super x.0 x.1;
    is_constant = λ x t. keeps.is_constant x.0 x.1;
  }

  -- the conditions of a command
  pub needs-named : (i : ImageOf M) (command : CommandOf M) → ImageNames P i → CommandNames P command → MovesNoCode command
      → needs b (map_image f i) (map_command f command) ≡ map (map_condition f) (needs a i command)
  needs-named = by_restricted P (λ i command. MovesNoCode command → needs b (map_image f i) (map_command f command) ≡ map (map_condition f) (needs a i command)) (λ k c still.
      (λ j. needs b (map_image-map_image f (plain P) k j) (map_command-map_command f (plain P) c j))
      ∙ needs-map changed (restricted P (some_name P c) a) b (kept (some_name P c)) k c (no_move-unmapped (plain P) c still)
      ∙ sym (list-twice (map_condition f) (map_condition (plain P)) (map_condition changed) (map_condition-map_condition f (plain P)) (needs (restricted P (some_name P c) a) k c))
      ∙ ap (map (map_condition f)) (sym (needs-map (plain P) (restricted P (some_name P c) a) a (as_plain P a (some_name P c)) k c (no_move-unmapped (plain P) c still))))

  -- whether a condition holds
  pub holds-named : (i : ImageOf M) (command : CommandOf M) (condition : ConditionOf M) → ImageNames P i → CommandNames P command → ConditionNames P condition → IsWithoutMove command condition
      → holds b (map_image f i) (map_command f command) (map_condition f condition) ≡ holds a i command condition
  holds-named i command condition p q r =
      by_restricted P (λ i command. IsWithoutMove command condition → holds b (map_image f i) (map_command f command) (map_condition f condition) ≡ holds a i command condition) (λ k c.
      by_restricted_condition P (λ x. IsWithoutMove (map_command (plain P) c) x → holds b (map_image f (map_image (plain P) k)) (map_command f (map_command (plain P) c)) (map_condition f x) ≡ holds a (map_image (plain P) k) (map_command (plain P) c) x) (λ x still.
      (λ j. holds b (map_image-map_image f (plain P) k j) (map_command-map_command f (plain P) c j) (map_condition-map_condition f (plain P) x j))
      ∙ holds-map changed (restricted P (some_name P c) a) b (kept (some_name P c)) k c x (without_move-unmapped (plain P) c x still)
      ∙ sym (holds-map (plain P) (restricted P (some_name P c) a) a (as_plain P a (some_name P c)) k c x (without_move-unmapped (plain P) c x still)))
      condition r) i command p q

  -- the first condition that is false
  pub first_false-named : (i : ImageOf M) (command : CommandOf M) → ImageNames P i → CommandNames P command → MovesNoCode command
      → first_false b (map_image f i) (map_command f command) ≡ option_map (map_condition f) (first_false a i command)
  first_false-named = by_restricted P (λ i command. MovesNoCode command → first_false b (map_image f i) (map_command f command) ≡ option_map (map_condition f) (first_false a i command)) (λ k c still.
      (λ j. first_false b (map_image-map_image f (plain P) k j) (map_command-map_command f (plain P) c j))
      ∙ first_false-map changed (restricted P (some_name P c) a) b (kept (some_name P c)) k c (no_move-unmapped (plain P) c still)
      ∙ sym (option-twice (map_condition f) (map_condition (plain P)) (map_condition changed) (map_condition-map_condition f (plain P)) (first_false (restricted P (some_name P c) a) k c))
      ∙ ap (option_map (map_condition f)) (sym (first_false-map (plain P) (restricted P (some_name P c) a) a (as_plain P a (some_name P c)) k c (no_move-unmapped (plain P) c still))))

  module _ (writing : WritingOf M) (writing_there : WritingOf N) (written : KeepsWriting P f writing writing_there) where
    kept_writing : KeepsWriting Every changed (restricted_writing P writing) writing_there
    kept_writing = record {
      method_text = λ m t. ap writing_there.method_text (sym (map_method-map_method f (plain P) m)) ∙ written.method_text (map_method (plain P) m) (MethodNames-map_method P (plain P) m (every_method (λ (x : Restricted P). P x.0) (λ x. x.1) m));
      doit_text = λ d t. ap writing_there.doit_text (sym (map_sequence-map_sequence f (plain P) d)) ∙ written.doit_text (map_sequence (plain P) d) (SequenceNames-map_sequence P (plain P) d (every_sequence (λ (x : Restricted P). P x.0) (λ x. x.1) d));
    }

    -- the image after
    pub effect-named : (i : ImageOf M) (command : CommandOf M) → ImageNames P i → CommandNames P command → MovesNoCode command
        → effect b writing_there (map_command f command) (map_image f i) ≡ map_image f (effect a writing command i)
    effect-named = by_restricted P (λ i command. MovesNoCode command → effect b writing_there (map_command f command) (map_image f i) ≡ map_image f (effect a writing command i)) (λ k c still.
        (λ j. effect b writing_there (map_command-map_command f (plain P) c j) (map_image-map_image f (plain P) k j))
        ∙ effect-map changed (restricted P (some_name P c) a) b (kept (some_name P c)) k (restricted_writing P writing) writing_there kept_writing c (no_move-unmapped (plain P) c still)
        ∙ sym (map_image-map_image f (plain P) (effect (restricted P (some_name P c) a) (restricted_writing P writing) c k))
        ∙ ap (map_image f) (sym (effect-map (plain P) (restricted P (some_name P c) a) a (as_plain P a (some_name P c)) k (restricted_writing P writing) writing (plain_writing P a writing) c (no_move-unmapped (plain P) c still))))

    -- what becomes of a command
    pub judged-named : (i : ImageOf M) (command : CommandOf M) → ImageNames P i → CommandNames P command → MovesNoCode command
        → judged b writing_there (map_image f i) (map_command f command) ≡ result_map_both (map_image f) (map_condition f) (judged a writing i command)
    judged-named i command p q still =
        (λ j. option_map_or (λ (c : ConditionOf N). Err c) (first_false-named i command p q still j) (Ok (effect-named i command p q still j)))
        ∙ by (first_false a i command)
      where
        by : (o : Option (ConditionOf M)) → ◌≡◌ {A = Result (ImageOf N) (ConditionOf N)} (option_map_or (λ c. Err c) (option_map (map_condition f) o) (Ok (map_image f (effect a writing command i))))
            (result_map_both (map_image f) (map_condition f) (option_map_or (λ (c : ConditionOf M). Err c) o (Ok (effect a writing command i))))
        by None = refl
        by (Some c) = refl
