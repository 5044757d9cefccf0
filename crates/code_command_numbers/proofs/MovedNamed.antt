-- Commands that move code are judged the same, and make the same of an image, once names are changed one to one that have a fact; and what they make has no other names.
use Rattle.std.proofs.Common.{◌≡◌, List, map, refl, sym, ap, subst, ◌∙◌}
use Rattle.std.specs.List.{AllByRecursion}
use Rattle.tree_model.specs.Tree.{map_sequence, map_method}
use Rattle.tree_model.proofs.MapNames.{map_sequence-map_sequence, map_method-map_method}
use Rattle.tree_model.proofs.AllNamesLemmas.{SequenceNames-map_sequence, MethodNames-map_method}
use Rattle.image_model.specs.Image.{ImageOf, map_image}
use Rattle.image_model.specs.ImageNames.{ImageNames}
use Rattle.image_model.proofs.Lists.{all-map}
use Rattle.image_model.proofs.MapImage.{map_image-map_image, ImageNames-map_image}
use Rattle.rename_model.specs.ClassRenamed.{WritingOf}
use Rattle.command_model.specs.Commands.{CommandOf, RenameClass, AbstractInstVar, ExtractMethod, InlineMethod, ExtractTemp, InlineTemp}
use Rattle.command_model.specs.Conditions.{ConditionOf, NoReflection, Shallow}
use Rattle.command_model.specs.Asked.{AskedOf}
use Rattle.command_model.specs.Needs.{needs}
use Rattle.command_model.specs.Holds.{holds}
use Rattle.command_model.specs.Effects.{effect}
use Rattle.command_numbers.specs.MappedCommands.{map_command, map_condition}
use Rattle.command_numbers.specs.CommandNames.{CommandNames, ConditionNames}
use Rattle.command_numbers.specs.KeepsAsked.{KeepsWriting}
use Rattle.command_numbers.proofs.Everywhere.{Every, every_item, every_sequence, every_method, every_image}
use Rattle.command_numbers.proofs.Restricted.{Restricted, plain, condition_names, by_restricted, by_restricted_condition}
use Rattle.command_numbers.proofs.CommandsMapped.{map_command-map_command, map_condition-map_condition, list-twice}
use Rattle.code_command_numbers.specs.KeepsMoves.{KeepsMoves}
use Rattle.code_command_numbers.proofs.MovesCode.{MovesCode, IsOfMove}
use Rattle.code_command_numbers.proofs.MovedConditions.{moved_needs-map, moved_holds-map, moved_effect-map}

-- whether a command moves code does not hang on names
moves-unmapped : {M N : Type 0} (f : M → N) (command : CommandOf M) → MovesCode (map_command f command) → MovesCode command
moves-unmapped f (RenameClass c d) moves = moves
moves-unmapped f (AbstractInstVar c x setter given) moves = tt
moves-unmapped f (ExtractMethod c meta s from to t) moves = tt
moves-unmapped f (InlineMethod c meta s from to) moves = tt
moves-unmapped f (ExtractTemp c meta s from to x) moves = tt
moves-unmapped f (InlineTemp c meta s x) moves = tt
moves-unmapped f command moves = absurd moves

of_move-unmapped : {M N : Type 0} (f : M → N) (command : CommandOf M) (condition : ConditionOf M) → IsOfMove (map_command f command) (map_condition f condition) → IsOfMove command condition
of_move-unmapped f command NoReflection moves = moves
of_move-unmapped f command Shallow moves = moves-unmapped f command moves
of_move-unmapped f command condition moves = moves

-- what is asked of names that have a fact, as of any others, where `self` has it
abbrev pub restricted : {M : Type 0} (P : M → Type 0) (a : AskedOf M) → P a.self_name → AskedOf (Restricted P)
restricted P a is_known = record {
  words = record {
    tests = record { same = λ x y. a.words.tests.same x.0 y.0; is_pseudo = λ x. a.words.tests.is_pseudo x.0; form = λ x. a.words.tests.form x.0 };
    is_object = λ x. a.words.is_object x.0;
    is_class = λ x. a.words.is_class x.0;
    is_undefined_object = λ x. a.words.is_undefined_object x.0;
    is_transcript = λ x. a.words.is_transcript x.0;
  };
  command_words = record {
    is_reflective_selector = λ x. a.command_words.is_reflective_selector x.0;
    is_not_understood = λ x. a.command_words.is_not_understood x.0;
    is_reflective_name = λ x. a.command_words.is_reflective_name x.0;
    is_good_class_name = λ x. a.command_words.is_good_class_name x.0;
    is_good_variable_name = λ x. a.command_words.is_good_variable_name x.0;
    is_good_selector = λ x. a.command_words.is_good_selector x.0;
    has_own_meaning = λ x. a.command_words.has_own_meaning x.0;
    arity = λ x. a.command_words.arity x.0;
  };
  is_super = λ x. a.is_super x.0;
  self_name = (a.self_name, is_known);
  is_constant = λ x. a.is_constant x.0;
  part_of = a.part_of;
}

abbrev restricted_writing : {M : Type 0} (P : M → Type 0) → WritingOf M → WritingOf (Restricted P)
restricted_writing P writing = record {
  method_text = λ m. writing.method_text (map_method (plain P) m);
  doit_text = λ b. writing.doit_text (map_sequence (plain P) b);
}

module _ {M : Type 0} (P : M → Type 0) (a : AskedOf M) (is_known : P a.self_name) where
  -- names that stay answer the same
  pub as_plain : KeepsMoves Every (plain P) (restricted P a is_known) a
  as_plain = record {
    asked = record {
      words = record {
        tests = record { same = λ x y s t. refl; is_pseudo = λ x t. refl; form = λ x t. refl };
        is_object = λ x t. refl;
        is_class = λ x t. refl;
        is_undefined_object = λ x t. refl;
        is_transcript = λ x t. refl;
      };
      command_words = record {
        is_reflective_selector = λ x t. refl;
        is_not_understood = λ x t. refl;
        is_reflective_name = λ x t. refl;
        is_good_class_name = λ x t. refl;
        is_good_variable_name = λ x t. refl;
        is_good_selector = λ x t. refl;
        has_own_meaning = λ x t. refl;
        arity = λ x t. refl;
      };
      is_super = λ x t. refl;
      is_constant = λ x t. refl;
    };
    self_known = tt;
    self_name = refl;
    part_of = refl;
  }

  -- the names in the conditions of a command
  pub moved_needs-names : (i : ImageOf M) (command : CommandOf M) → ImageNames P i → CommandNames P command → MovesCode command → AllByRecursion (ConditionNames P) (needs a i command)
  moved_needs-names = by_restricted P (λ i command. MovesCode command → AllByRecursion (ConditionNames P) (needs a i command)) (λ k c moves.
      subst (λ (cs : List (ConditionOf M)). AllByRecursion (ConditionNames P) cs) (sym (moved_needs-map (plain P) (restricted P a is_known) a as_plain k c (moves-unmapped (plain P) c moves)))
      (all-map (ConditionNames P) (map_condition (plain P)) (needs (restricted P a is_known) k c)
      (every_item (λ (x : ConditionOf (Restricted P)). ConditionNames P (map_condition (plain P) x)) (condition_names P) (needs (restricted P a is_known) k c))))

  module _ (writing : WritingOf M) where
    plain_writing : KeepsWriting Every (plain P) (restricted_writing P writing) writing
    plain_writing = record { method_text = λ m t. refl; doit_text = λ d t. refl }

    -- the names in the image after
    pub moved_effect-names : (i : ImageOf M) (command : CommandOf M) → ImageNames P i → CommandNames P command → MovesCode command → ImageNames P (effect a writing command i)
    moved_effect-names = by_restricted P (λ i command. MovesCode command → ImageNames P (effect a writing command i)) (λ k c moves.
        subst (λ (i : ImageOf M). ImageNames P i)
        (sym (moved_effect-map (plain P) (restricted P a is_known) a as_plain k (restricted_writing P writing) writing plain_writing c (moves-unmapped (plain P) c moves)))
        (ImageNames-map_image P (plain P) (effect (restricted P a is_known) (restricted_writing P writing) c k) (every_image (λ (x : Restricted P). P x.0) (λ x. x.1) (effect (restricted P a is_known) (restricted_writing P writing) c k))))

module _ {M N : Type 0} (P : M → Type 0) (f : M → N) (a : AskedOf M) (b : AskedOf N) (keeps : KeepsMoves P f a b) where
  -- such a name, changed
  abbrev pub changed : Restricted P → N
  changed x = f x.0

  pub kept : KeepsMoves Every changed (restricted P a keeps.self_known) b
  kept = record {
    asked = record {
      words = record {
        tests = record {
          same = λ x y s t. keeps.asked.words.tests.same x.0 y.0 x.1 y.1;
          is_pseudo = λ x t. keeps.asked.words.tests.is_pseudo x.0 x.1;
          form = λ x t. keeps.asked.words.tests.form x.0 x.1;
        };
        is_object = λ x t. keeps.asked.words.is_object x.0 x.1;
        is_class = λ x t. keeps.asked.words.is_class x.0 x.1;
        is_undefined_object = λ x t. keeps.asked.words.is_undefined_object x.0 x.1;
        is_transcript = λ x t. keeps.asked.words.is_transcript x.0 x.1;
      };
      command_words = record {
        is_reflective_selector = λ x t. keeps.asked.command_words.is_reflective_selector x.0 x.1;
        is_not_understood = λ x t. keeps.asked.command_words.is_not_understood x.0 x.1;
        is_reflective_name = λ x t. keeps.asked.command_words.is_reflective_name x.0 x.1;
        is_good_class_name = λ x t. keeps.asked.command_words.is_good_class_name x.0 x.1;
        is_good_variable_name = λ x t. keeps.asked.command_words.is_good_variable_name x.0 x.1;
        is_good_selector = λ x t. keeps.asked.command_words.is_good_selector x.0 x.1;
        has_own_meaning = λ x t. keeps.asked.command_words.has_own_meaning x.0 x.1;
        arity = λ x t. keeps.asked.command_words.arity x.0 x.1;
      };
      is_super = λ x t. keeps.asked.is_super x.0 x.1;
      is_constant = λ x t. keeps.asked.is_constant x.0 x.1;
    };
    self_known = tt;
    self_name = keeps.self_name;
    part_of = keeps.part_of;
  }

  -- the conditions of a command
  pub moved_needs-named : (i : ImageOf M) (command : CommandOf M) → ImageNames P i → CommandNames P command → MovesCode command
      → needs b (map_image f i) (map_command f command) ≡ map (map_condition f) (needs a i command)
  moved_needs-named = by_restricted P (λ i command. MovesCode command → needs b (map_image f i) (map_command f command) ≡ map (map_condition f) (needs a i command)) (λ k c moves.
      (λ j. needs b (map_image-map_image f (plain P) k j) (map_command-map_command f (plain P) c j))
      ∙ moved_needs-map changed (restricted P a keeps.self_known) b kept k c (moves-unmapped (plain P) c moves)
      ∙ sym (list-twice (map_condition f) (map_condition (plain P)) (map_condition changed) (map_condition-map_condition f (plain P)) (needs (restricted P a keeps.self_known) k c))
      ∙ ap (map (map_condition f)) (sym (moved_needs-map (plain P) (restricted P a keeps.self_known) a (as_plain P a keeps.self_known) k c (moves-unmapped (plain P) c moves))))

  -- whether a condition holds
  pub moved_holds-named : (i : ImageOf M) (command : CommandOf M) (condition : ConditionOf M) → ImageNames P i → CommandNames P command → ConditionNames P condition → IsOfMove command condition
      → holds b (map_image f i) (map_command f command) (map_condition f condition) ≡ holds a i command condition
  moved_holds-named i command condition p q r =
      by_restricted P (λ i command. IsOfMove command condition → holds b (map_image f i) (map_command f command) (map_condition f condition) ≡ holds a i command condition) (λ k c.
      by_restricted_condition P (λ x. IsOfMove (map_command (plain P) c) x → holds b (map_image f (map_image (plain P) k)) (map_command f (map_command (plain P) c)) (map_condition f x) ≡ holds a (map_image (plain P) k) (map_command (plain P) c) x) (λ x moves.
      (λ j. holds b (map_image-map_image f (plain P) k j) (map_command-map_command f (plain P) c j) (map_condition-map_condition f (plain P) x j))
      ∙ moved_holds-map changed (restricted P a keeps.self_known) b kept k c x (of_move-unmapped (plain P) c x moves)
      ∙ sym (moved_holds-map (plain P) (restricted P a keeps.self_known) a (as_plain P a keeps.self_known) k c x (of_move-unmapped (plain P) c x moves)))
      condition r) i command p q

  module _ (writing : WritingOf M) (writing_there : WritingOf N) (written : KeepsWriting P f writing writing_there) where
    kept_writing : KeepsWriting Every changed (restricted_writing P writing) writing_there
    kept_writing = record {
      method_text = λ m t. ap writing_there.method_text (sym (map_method-map_method f (plain P) m)) ∙ written.method_text (map_method (plain P) m) (MethodNames-map_method P (plain P) m (every_method (λ (x : Restricted P). P x.0) (λ x. x.1) m));
      doit_text = λ d t. ap writing_there.doit_text (sym (map_sequence-map_sequence f (plain P) d)) ∙ written.doit_text (map_sequence (plain P) d) (SequenceNames-map_sequence P (plain P) d (every_sequence (λ (x : Restricted P). P x.0) (λ x. x.1) d));
    }

    -- the image after
    pub moved_effect-named : (i : ImageOf M) (command : CommandOf M) → ImageNames P i → CommandNames P command → MovesCode command
        → effect b writing_there (map_command f command) (map_image f i) ≡ map_image f (effect a writing command i)
    moved_effect-named = by_restricted P (λ i command. MovesCode command → effect b writing_there (map_command f command) (map_image f i) ≡ map_image f (effect a writing command i)) (λ k c moves.
        (λ j. effect b writing_there (map_command-map_command f (plain P) c j) (map_image-map_image f (plain P) k j))
        ∙ moved_effect-map changed (restricted P a keeps.self_known) b kept k (restricted_writing P writing) writing_there kept_writing c (moves-unmapped (plain P) c moves)
        ∙ sym (map_image-map_image f (plain P) (effect (restricted P a keeps.self_known) (restricted_writing P writing) c k))
        ∙ ap (map_image f) (sym (moved_effect-map (plain P) (restricted P a keeps.self_known) a (as_plain P a keeps.self_known) k (restricted_writing P writing) writing (plain_writing P a keeps.self_known writing) c (moves-unmapped (plain P) c moves))))
