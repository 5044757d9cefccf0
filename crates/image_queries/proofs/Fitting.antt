-- What a name may stand for: the class that defines a variable has a known name, and a class is one of that name.
use Rattle.std.proofs.Common.{◌≡◌, ℕ, ◌<◌, Bool, true, false, cond, List, length, find, Option, Some, None, option_map, unwrap_or, sym}
use Rattle.std.specs.Prelude.{nat_eq}
use Rattle.std.specs.List.{AllByRecursion, list_any}
use Rattle.std.specs.Option.{option_or}
use Rattle.std.proofs.lemmas.Bool.{eqb-true}
use Rattle.rb_base.specs.Names.{name_at, HasNoTwice}
use Rattle.scope_model.specs.declared.local.Local.{Local}
use Rattle.scope_model.specs.declared.local.Local.TheVariants.{Argument, Temporary, NotLocal}
use Rattle.scope_model.specs.NameTests.{is_pseudo_in}
use Rattle.scope_model.specs.Scope.{local_in, local_in_doit}
use Rattle.image_model.specs.Image.{ClassOf, EntryOf, DoItOf, ImageOf}
use Rattle.image_model.specs.ImageNames.{OptionNames, ClassNames, ImageNames}
use Rattle.image_model.specs.Words.{KeepsWords, number_words, text_words}
use Rattle.image_model.specs.Chain.{class_named, class_of_name, chain}
use Rattle.image_model.specs.Means.{VariableKind, of_class, variables, MeaningOf, pseudo, argument, temporary, variable, a_class, transcript, undeclared, as_variable, side_kind, means_along, means_outside, means_by, means, means_in_doit}
use Rattle.image_model.proofs.Lists.{find-all}
use Rattle.image_model.proofs.Changed.{ClassNames-class_of_name, ClassNames-chain_from}
use Rattle.image_model.proofs.Tables.{KeepsWords-number_words}
use Rattle.image_queries.proofs.Lists.{find-passes}

-- what a name may stand for
abbrev pub Fits : (ℕ → Type 0) → ℕ → MeaningOf ℕ → Type 0
Fits P n pseudo = Unit {0}
Fits P n (argument scope) = Unit {0}
Fits P n (temporary scope) = Unit {0}
Fits P n (variable kind c) = P c
Fits P n (a_class c) = c ≡ n
Fits P n transcript = Unit {0}
Fits P n undeclared = Unit {0}

module _ (names : List (List ℕ)) (distinct : HasNoTwice names) (i : ImageOf ℕ) (known : ImageNames (λ n. n < length names) i) where
  -- a name that is known
  abbrev Known : ℕ → Type 0
  Known n = n < length names

  -- as a variable
  fits-variable : (kind : VariableKind) (above : List (ClassOf ℕ)) (n : ℕ) → AllByRecursion (ClassNames Known) above → OptionNames (Fits Known n) (as_variable nat_eq kind above n)
  fits-variable kind above n a = by (find (λ c. list_any (nat_eq n) (variables kind c)) above) (find-all (ClassNames Known) (λ c. list_any (nat_eq n) (variables kind c)) above a)
    where
      by : (o : Option (ClassOf ℕ)) → OptionNames (ClassNames Known) o → OptionNames (Fits Known n) (option_map (λ (c : ClassOf ℕ). variable kind c.name) o)
      by None p = tt
      by (Some c) p = p.name

  -- as a class
  fits-class : (n : ℕ) → OptionNames (Fits Known n) (option_map (λ (c : ClassOf ℕ). a_class c.name) (class_named nat_eq i.classes n))
  fits-class n = by (class_named nat_eq i.classes n) (find-passes (λ (c : ClassOf ℕ). nat_eq n c.name) i.classes)
    where
      by : (o : Option (ClassOf ℕ)) → OptionNames (λ (c : ClassOf ℕ). nat_eq n c.name ≡ true) o → OptionNames (Fits Known n) (option_map (λ (c : ClassOf ℕ). a_class c.name) o)
      by None p = tt
      by (Some c) p = sym (eqb-true n c.name p)

  -- as the transcript
  fits-transcript : (n : ℕ) (b : Bool) → OptionNames (Fits Known n) (cond b (Some transcript) None)
  fits-transcript n true = tt
  fits-transcript n false = tt

  -- the first of these, or nothing
  fits-first : (n : ℕ) (o p r t : Option (MeaningOf ℕ)) → OptionNames (Fits Known n) o → OptionNames (Fits Known n) p → OptionNames (Fits Known n) r → OptionNames (Fits Known n) t
      → Fits Known n (unwrap_or (option_or o (option_or p (option_or r t))) undeclared)
  fits-first n (Some m) p r t a b c d = a
  fits-first n None (Some m) r t a b c d = b
  fits-first n None None (Some m) t a b c d = c
  fits-first n None None None (Some m) a b c d = d
  fits-first n None None None None a b c d = tt

  -- behind all scopes, along a chain
  fits-along : (above : List (ClassOf ℕ)) (meta : Bool) (n : ℕ) → AllByRecursion (ClassNames Known) above → Fits Known n (means_along (number_words names) i.classes above meta n)
  fits-along above meta n a =
      fits-first n (as_variable nat_eq (side_kind meta) above n) (as_variable nat_eq of_class above n) (option_map (λ (c : ClassOf ℕ). a_class c.name) (class_named nat_eq i.classes n)) (cond ((number_words names).is_transcript n) (Some transcript) None)
      (fits-variable (side_kind meta) above n a) (fits-variable of_class above n a) (fits-class n) (fits-transcript n ((number_words names).is_transcript n))

  -- behind all scopes
  fits-outside : (c : Option ℕ) (meta : Bool) (n : ℕ) → Fits Known n (means_outside (number_words names) i c meta n)
  fits-outside c meta n =
      let keeps : KeepsWords Known (name_at names) (number_words names) text_words = KeepsWords-number_words names distinct in
      fits-along (chain nat_eq i.classes c) meta n
      (ClassNames-chain_from Known (name_at names) (number_words names) text_words keeps i.classes (class_of_name nat_eq i.classes c) known.classes (ClassNames-class_of_name Known (name_at names) (number_words names) text_words keeps i.classes c known.classes))

  -- as a local or behind all scopes
  fits-scopes : (n : ℕ) (l : Local) (outside : MeaningOf ℕ) → Fits Known n outside → Fits Known n (means_by l outside)
  fits-scopes n (Argument scope) outside p = tt
  fits-scopes n (Temporary scope) outside p = tt
  fits-scopes n NotLocal outside p = p

  -- as a pseudo-variable or not
  fits-pseudo : (n : ℕ) (b : Bool) (m : MeaningOf ℕ) → Fits Known n m → Fits Known n (cond b pseudo m)
  fits-pseudo n true m p = tt
  fits-pseudo n false m p = p

  -- in a method
  pub fits-means : (m : EntryOf ℕ) (path : List ℕ) (n : ℕ) → Fits Known n (means (number_words names) i m path n)
  fits-means m path n =
      fits-pseudo n (is_pseudo_in names n) (means_by (local_in nat_eq (is_pseudo_in names) m.tree path n) (means_outside (number_words names) i m.class m.meta n))
      (fits-scopes n (local_in nat_eq (is_pseudo_in names) m.tree path n) (means_outside (number_words names) i m.class m.meta n) (fits-outside m.class m.meta n))

  -- the name of the class of do-its
  abbrev doit_class : Option ℕ
  doit_class = option_map (λ (c : ClassOf ℕ). c.name) (find (λ (c : ClassOf ℕ). (number_words names).is_undefined_object c.name) i.classes)

  -- in a do-it
  pub fits-means_in_doit : (d : DoItOf ℕ) (path : List ℕ) (n : ℕ) → Fits Known n (means_in_doit (number_words names) i d path n)
  fits-means_in_doit d path n =
      fits-pseudo n (is_pseudo_in names n) (means_by (local_in_doit nat_eq (is_pseudo_in names) d.body path n) (means_outside (number_words names) i doit_class false n))
      (fits-scopes n (local_in_doit nat_eq (is_pseudo_in names) d.body path n) (means_outside (number_words names) i doit_class false n) (fits-outside doit_class false n))
