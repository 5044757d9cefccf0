-- What names mean behind all scopes after a class has a new name.
use Rattle.std.proofs.Common.{◌≡◌, List, [], ◌∷◌, Option, Some, None, refl, sym, ap, ◌∙◌, subst}
use Rattle.std.specs.Prelude.{Bool, true, false, cond, if◌then◌else◌, map, find, option_map, unwrap_or}
use Rattle.std.specs.Option.{option_or}
use Rattle.std.proofs.lemmas.Bool.{false≢true}
use Rattle.std.specs.List.{AllByRecursion}
use Rattle.rb_base.specs.Names.{text_eq}
use Rattle.rb_base.proofs.NamesLemmas.{text_eq-refl}
use Rattle.image_model.specs.Image.{ClassOf}
use Rattle.image_model.specs.ImageNames.{OptionNames}
use Rattle.image_model.specs.Words.{text_words}
use Rattle.image_model.specs.Chain.{class_named, chain}
use Rattle.image_model.specs.Means.{of_class, MeaningOf, pseudo, argument, temporary, variable, a_class, transcript, undeclared, map_meaning, definer, side_kind, means_along}
use Rattle.image_model.specs.Uses.{is_that_class}
use Rattle.run_model.specs.Values.{Name}
use Rattle.run_model.proofs.Finite.{by_cases}
use Rattle.run_model.proofs.RenamingLemmas.{text-same}
use Rattle.rename_laws.proofs.NewNames.{new, Other, new-class, new-other}
use Rattle.rename_laws.proofs.ClassesAfter.{after, IsOther, definer-after, definer-new, named-after, chain-after, chain-other}

-- what is found passes the test
pub find-passes : {X : Type 0} (p : X → Bool) (xs : List X) → OptionNames (λ x. p x ≡ true) (find p xs)
find-passes p [] = tt
find-passes p (x ∷ xs) = by (p x) refl (find-passes p xs)
  where
    by : (b : Bool) → p x ≡ b → OptionNames (λ y. p y ≡ true) (find p xs) → OptionNames (λ y. p y ≡ true) (cond b (Some x) (find p xs))
    by true e rest = e
    by false e rest = rest

-- what a name means, by the classes that are found for it
abbrev pub meaning_by : Bool → (side shared named : Option (ClassOf Name)) → Bool → MeaningOf Name
meaning_by meta side shared named b =
    unwrap_or (option_or (option_map (λ (e : ClassOf Name). variable (side_kind meta) e.name) side) (option_or (option_map (λ (e : ClassOf Name). variable of_class e.name) shared) (option_or (option_map (λ (e : ClassOf Name). a_class e.name) named) (if b then Some transcript else None)))) undeclared

-- a name that means a class or `Transcript` is not that of the class
abbrev pub IsApart : Name → Name → MeaningOf Name → Type 0
IsApart c n pseudo = Unit {0}
IsApart c n (argument scope) = Unit {0}
IsApart c n (temporary scope) = Unit {0}
IsApart c n (variable kind e) = Unit {0}
IsApart c n (a_class e) = text_eq c n ≡ false
IsApart c n transcript = text_eq c n ≡ false
IsApart c n undeclared = Unit {0}

any-apart : (c n : Name) (g : MeaningOf Name) → text_eq c n ≡ false → IsApart c n g
any-apart c n pseudo e = tt
any-apart c n (argument scope) e = tt
any-apart c n (temporary scope) e = tt
any-apart c n (variable kind x) e = tt
any-apart c n (a_class x) e = e
any-apart c n transcript e = e
any-apart c n undeclared e = tt

module _ (c d : Name) (meta : Bool) where
  -- each class that is found has its new name
  renamed-by : (side shared named : Option (ClassOf Name)) (b : Bool) → meaning_by meta (option_map (after c d) side) (option_map (after c d) shared) (option_map (after c d) named) b ≡ map_meaning (new c d) (meaning_by meta side shared named b)
  renamed-by (Some x) shared named b = refl
  renamed-by None (Some x) named b = refl
  renamed-by None None (Some x) b = refl
  renamed-by None None None true = refl
  renamed-by None None None false = refl

  -- a variable is one whatever class has its name
  variable-by : (side shared named : Option (ClassOf Name)) (b : Bool) (user : ClassOf Name) → text_eq c user.name ≡ true → is_that_class text_eq c (meaning_by meta side shared (Some user) b) ≡ false →
      meaning_by meta (option_map (after c d) side) (option_map (after c d) shared) named b ≡ map_meaning (new c d) (meaning_by meta side shared (Some user) b)
  variable-by (Some x) shared named b user e h = refl
  variable-by None (Some x) named b user e h = refl
  variable-by None None named b user e h = absurd (false≢true (sym h ∙ e))

  -- and it is apart from the class
  apart-by : (n : Name) (side shared : Option (ClassOf Name)) (b : Bool) (user : ClassOf Name) → text_eq c user.name ≡ true → is_that_class text_eq c (meaning_by meta side shared (Some user) b) ≡ false →
      IsApart c n (meaning_by meta side shared (Some user) b)
  apart-by n (Some x) shared b user e h = tt
  apart-by n None (Some x) b user e h = tt
  apart-by n None None b user e h = absurd (false≢true (sym h ∙ e))

  -- the class itself is found by its name
  class-by : (n : Name) (side shared named : Option (ClassOf Name)) (b : Bool) → OptionNames (λ (e : ClassOf Name). text_eq n e.name ≡ true) named → is_that_class text_eq c (meaning_by meta side shared named b) ≡ true →
      (n ≡ c) × (meaning_by meta side shared named b ≡ a_class c)
  class-by n (Some x) shared named b k h = absurd (false≢true h)
  class-by n None (Some x) named b k h = absurd (false≢true h)
  class-by n None None (Some x) b k h = (text-same n x.name k ∙ sym (text-same c x.name h), ap a_class (sym (text-same c x.name h)))
  class-by n None None None true k h = absurd (false≢true h)
  class-by n None None None false k h = absurd (false≢true h)

  module _ (classes : List (ClassOf Name)) (others : AllByRecursion (IsOther c d) classes) (user : ClassOf Name) (found : class_named text_eq classes c ≡ Some user) (home : Option Name) (fine : OptionNames (Other c d) home) where
    -- what a name means before and after
    abbrev pub before_it : Name → MeaningOf Name
    before_it n = means_along text_words classes (chain text_eq classes home) meta n

    abbrev pub after_it : Name → MeaningOf Name
    after_it n = means_along text_words (map (after c d) classes) (chain text_eq (map (after c d) classes) (option_map (new c d) home)) meta n

    -- the classes that are found for it
    abbrev side : Name → Option (ClassOf Name)
    side n = definer text_eq (side_kind meta) (chain text_eq classes home) n

    abbrev shared : Name → Option (ClassOf Name)
    shared n = definer text_eq of_class (chain text_eq classes home) n

    -- the class has its name
    user-named : text_eq c user.name ≡ true
    user-named = subst (OptionNames (λ (e : ClassOf Name). text_eq c e.name ≡ true)) found (find-passes (λ e. text_eq c e.name) classes)

    -- by the classes that are found after
    after-by : (n : Name) → after_it n ≡ meaning_by meta (option_map (after c d) (side n)) (option_map (after c d) (shared n)) (class_named text_eq (map (after c d) classes) n) (text_words.is_transcript n)
    after-by n =
        ap (λ cs. means_along text_words (map (after c d) classes) cs meta n) (chain-after c d classes others home fine)
        ∙ (λ i. meaning_by meta (definer-after c d (side_kind meta) (chain text_eq classes home) n i) (definer-after c d of_class (chain text_eq classes home) n i) (class_named text_eq (map (after c d) classes) n) (text_words.is_transcript n))

    -- what means anything but the class means it after, with the new names
    pub stays-after : (n : Name) → Other c d n → is_that_class text_eq c (before_it n) ≡ false → after_it n ≡ map_meaning (new c d) (before_it n)
    stays-after n o h = after-by n ∙ by_cases (text_eq c n) (λ e. here e (ap (class_named text_eq classes) (sym (text-same c n e)) ∙ found)) there
      where
        goal : Type 0
        goal = meaning_by meta (option_map (after c d) (side n)) (option_map (after c d) (shared n)) (class_named text_eq (map (after c d) classes) n) (text_words.is_transcript n) ≡ map_meaning (new c d) (before_it n)

        here : text_eq c n ≡ true → class_named text_eq classes n ≡ Some user → goal
        here e q =
            let was : before_it n ≡ meaning_by meta (side n) (shared n) (Some user) (text_words.is_transcript n) = ap (λ o. meaning_by meta (side n) (shared n) o (text_words.is_transcript n)) q in
            variable-by (side n) (shared n) (class_named text_eq (map (after c d) classes) n) (text_words.is_transcript n) user user-named (ap (is_that_class text_eq c) (sym was) ∙ h) ∙ ap (map_meaning (new c d)) (sym was)

        there : text_eq c n ≡ false → goal
        there e =
            let named : class_named text_eq (map (after c d) classes) n ≡ option_map (after c d) (class_named text_eq classes n) = ap (class_named text_eq (map (after c d) classes)) (sym (new-other c d n e)) ∙ named-after c d classes others n o in
            ap (λ x. meaning_by meta (option_map (after c d) (side n)) (option_map (after c d) (shared n)) x (text_words.is_transcript n)) named ∙ renamed-by (side n) (shared n) (class_named text_eq classes n) (text_words.is_transcript n)

    -- and is apart from the class
    pub stays-apart : (n : Name) → is_that_class text_eq c (before_it n) ≡ false → IsApart c n (before_it n)
    stays-apart n h = by_cases (text_eq c n) (λ e. here (ap (class_named text_eq classes) (sym (text-same c n e)) ∙ found)) (λ e. any-apart c n (before_it n) e)
      where
        here : class_named text_eq classes n ≡ Some user → IsApart c n (before_it n)
        here q =
            let was : before_it n ≡ meaning_by meta (side n) (shared n) (Some user) (text_words.is_transcript n) = ap (λ o. meaning_by meta (side n) (shared n) o (text_words.is_transcript n)) q in
            subst (IsApart c n) (sym was) (apart-by n (side n) (shared n) (text_words.is_transcript n) user user-named (ap (is_that_class text_eq c) (sym was) ∙ h))

    -- what means the class is its name
    pub class-before : (n : Name) → is_that_class text_eq c (before_it n) ≡ true → (n ≡ c) × (before_it n ≡ a_class c)
    class-before n h = class-by n (side n) (shared n) (class_named text_eq classes n) (text_words.is_transcript n) (find-passes (λ e. text_eq n e.name) classes) h

    -- and the new name means the class after
    pub class-after : Other c d c → after_it d ≡ a_class d
    class-after o =
        after-by d
        ∙ (λ i. meaning_by meta (option_map (after c d) (definer-new c d (side_kind meta) (chain text_eq classes home) (chain-other c d classes others home) i)) (option_map (after c d) (definer-new c d of_class (chain text_eq classes home) (chain-other c d classes others home) i)) (named i) (text_words.is_transcript d))
        ∙ ap a_class (new-class c d user.name user-named)
      where
        named : class_named text_eq (map (after c d) classes) d ≡ Some (after c d user)
        named = ap (class_named text_eq (map (after c d) classes)) (sym (new-class c d c (text_eq-refl c))) ∙ named-after c d classes others c o ∙ ap (option_map (after c d)) found
