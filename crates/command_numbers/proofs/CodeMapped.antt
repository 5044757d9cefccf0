-- What commands ask of code and make of it, where they change but move none, is the same once names are changed one to one.
use Rattle.std.proofs.Common.{◌≡◌, Bool, false, not, ◌&&◌, map, filter, filter_map, Option, Some, None, unwrap_or, option_map, option_and_then, refl, ap, ◌∙◌}
use Rattle.std.specs.Option.{option_map_or}
use Rattle.image_model.specs.Image.{EntryOf, ImageOf, map_entry, map_image}
use Rattle.rename_model.specs.NamesThere.{is_named_in_method}
use Rattle.rename_model.specs.ClassRenamed.{WritingOf}
use Rattle.command_model.specs.Asked.{AskedOf}
use Rattle.command_model.specs.Commands.{CommandOf, AddParameter, AbstractInstVar, ExtractMethod, InlineMethod, ExtractTemp, InlineTemp, MovesNoCode}
use Rattle.command_model.specs.Conditions.{ConditionOf, AtomLiteral, Declared, NotIn, Shallow}
use Rattle.command_model.specs.Places.{users_method}
use Rattle.command_model.specs.Sequences.{with_tree}
use Rattle.command_model.specs.Temporaries.{is_declared_once, temporary_renamed}
use Rattle.command_model.specs.CodeNeeds.{in_no_implementor}
use Rattle.command_model.specs.CodeEffects.{retreed}
use Rattle.command_model.specs.CodeHolds.{code_holds}
use Rattle.command_numbers.specs.MappedCommands.{map_command, map_condition}
use Rattle.command_numbers.specs.KeepsAsked.{KeepsAsked, KeepsWriting}
use Rattle.command_numbers.proofs.Lists.{filter-total, filter_map-total, or-total}
use Rattle.command_numbers.proofs.Everywhere.{Every}
use Rattle.command_numbers.proofs.Classes.{same-map}
use Rattle.command_numbers.proofs.NamesAsked.{is_named_in_method-map}
use Rattle.command_numbers.proofs.TemporariesMapped.{users_method-map, with_tree-map, is_declared_once-map, temporary_renamed-map}
use Rattle.command_numbers.proofs.ParameterConditionsMapped.{is_shallow_speaking-map, is_passed_atom-map}

module _ {M N : Type 0} (f : M → N) (a : AskedOf M) (b : AskedOf N) (keeps : KeepsAsked Every f a b) (i : ImageOf M) where
  -- a new name in each method of a selector
  pub in_no_implementor-map : (s x : M) → in_no_implementor b (map_image f i) (f s) (f x) ≡ map (map_condition f) (in_no_implementor a i s x)
  in_no_implementor-map s x =
      ap (filter_map lacks_there)
      (filter-total (map_entry f) (λ (m : EntryOf M). not m.kernel && a.words.tests.same s m.tree.selector) (λ (m : EntryOf N). not m.kernel && b.words.tests.same (f s) m.tree.selector)
      (λ m. ap (λ (t : Bool). not m.kernel && t) (same-map f a.words b.words keeps.words s m.tree.selector)) i.methods)
      ∙ filter_map-total (map_entry f) (map_condition f) lacks lacks_there (λ m. by m m.class) (filter (λ (m : EntryOf M). not m.kernel && a.words.tests.same s m.tree.selector) i.methods)
    where
      lacks : EntryOf M → Option (ConditionOf M)
      lacks m = option_map (λ c. NotIn c m.meta s x) m.class

      lacks_there : EntryOf N → Option (ConditionOf N)
      lacks_there m = option_map (λ c. NotIn c m.meta (f s) (f x)) m.class

      by : (m : EntryOf M) (o : Option M) → option_map (λ c. NotIn c m.meta (f s) (f x)) (option_map f o) ≡ option_map (map_condition f) (option_map (λ c. NotIn c m.meta s x) o)
      by m None = refl
      by m (Some c) = refl

  -- what is asked of the method of a user
  of_users_method : (c : M) (meta : Bool) (s : M) (p : EntryOf M → Bool) (q : EntryOf N → Bool) → ((m : EntryOf M) → q (map_entry f m) ≡ p m)
      → option_map_or q (users_method b.words.tests.same (map_image f i) (f c) meta (f s)) false ≡ option_map_or p (users_method a.words.tests.same i c meta s) false
  of_users_method c meta s p q e =
      ap (λ (o : Option (EntryOf N)). option_map_or q o false) (users_method-map f a.words b.words keeps.words i c meta s) ∙ or-total (map_entry f) p q false e (users_method a.words.tests.same i c meta s)

  pub declared-map : (command : CommandOf M) (c : M) (meta : Bool) (s x : M) → code_holds b (map_image f i) (map_command f command) (Declared (f c) meta (f s) (f x)) ≡ code_holds a i command (Declared c meta s x)
  declared-map command c meta s x =
      of_users_method c meta s (λ m. is_declared_once a m.tree x) (λ m. is_declared_once b m.tree (f x)) (λ m. is_declared_once-map f a b keeps m.tree x)

  pub not_in-map : (command : CommandOf M) (c : M) (meta : Bool) (s x : M) → code_holds b (map_image f i) (map_command f command) (NotIn (f c) meta (f s) (f x)) ≡ code_holds a i command (NotIn c meta s x)
  not_in-map command c meta s x =
      of_users_method c meta s (λ m. not (is_named_in_method a.words.tests.same x m)) (λ m. not (is_named_in_method b.words.tests.same (f x) m))
      (λ m. ap not (is_named_in_method-map f a.words b.words keeps.words x m))

  -- the literal that a command passes
  pub atom-map : (command : CommandOf M) → code_holds b (map_image f i) (map_command f command) AtomLiteral ≡ code_holds a i command AtomLiteral
  atom-map (AddParameter s t x passed) = is_passed_atom-map f a b keeps passed
  atom-map command = refl

  -- an image in which a method's temporary has another name
  module _ (writing : WritingOf M) (writing_there : WritingOf N) (written : KeepsWriting Every f writing writing_there) where
    temporary-map : (c : M) (meta : Bool) (s x y : M) → retreed b (map_image f i) writing_there (f c) meta (f s) (λ m. Some (temporary_renamed b m.tree (f x) (f y)))
        ≡ option_map (map_image f) (retreed a i writing c meta s (λ m. Some (temporary_renamed a m.tree x y)))
    temporary-map c meta s x y = ap changed_there (users_method-map f a.words b.words keeps.words i c meta s) ∙ by (users_method a.words.tests.same i c meta s)
      where
        changed : Option (EntryOf M) → Option (ImageOf M)
        changed o = option_map (λ tree. with_tree a.words.tests.same writing c meta s tree i) (option_and_then (λ (m : EntryOf M). Some (temporary_renamed a m.tree x y)) o)

        changed_there : Option (EntryOf N) → Option (ImageOf N)
        changed_there o = option_map (λ tree. with_tree b.words.tests.same writing_there (f c) meta (f s) tree (map_image f i)) (option_and_then (λ (m : EntryOf N). Some (temporary_renamed b m.tree (f x) (f y))) o)

        by : (o : Option (EntryOf M)) → changed_there (option_map (map_entry f) o) ≡ option_map (map_image f) (changed o)
        by None = refl
        by (Some m) =
            ap Some (ap (λ tree. with_tree b.words.tests.same writing_there (f c) meta (f s) tree (map_image f i)) (temporary_renamed-map f a b keeps m.tree x y)
            ∙ with_tree-map f a.words b.words keeps.words writing writing_there written c meta s (temporary_renamed a m.tree x y) i)

    pub temporary_effect-map : (c : M) (meta : Bool) (s x y : M) → unwrap_or (retreed b (map_image f i) writing_there (f c) meta (f s) (λ m. Some (temporary_renamed b m.tree (f x) (f y)))) (map_image f i)
        ≡ map_image f (unwrap_or (retreed a i writing c meta s (λ m. Some (temporary_renamed a m.tree x y))) i)
    temporary_effect-map c meta s x y =
        ap (λ (o : Option (ImageOf N)). unwrap_or o (map_image f i)) (temporary-map c meta s x y) ∙ by (retreed a i writing c meta s (λ m. Some (temporary_renamed a m.tree x y)))
      where
        by : (o : Option (ImageOf M)) → unwrap_or (option_map (map_image f) o) (map_image f i) ≡ map_image f (unwrap_or o i)
        by None = refl
        by (Some j) = refl

  -- how high trees are after a command
  pub shallow-map : (command : CommandOf M) → MovesNoCode command → code_holds b (map_image f i) (map_command f command) Shallow ≡ code_holds a i command Shallow
  shallow-map (AddParameter s t x passed) still = is_shallow_speaking-map f a.words b.words keeps.words s i
  shallow-map (AbstractInstVar c x setter given) still = absurd still
  shallow-map (ExtractMethod c meta s from to t) still = absurd still
  shallow-map (InlineMethod c meta s from to) still = absurd still
  shallow-map (ExtractTemp c meta s from to x) still = absurd still
  shallow-map (InlineTemp c meta s x) still = absurd still
  shallow-map command still = refl
