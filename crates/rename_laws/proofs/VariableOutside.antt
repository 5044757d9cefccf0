-- What names mean behind all scopes after a variable has a new name.
use Rattle.std.proofs.Common.{◌≡◌, List, Option, Some, None, refl, ap, ◌∙◌}
use Rattle.std.specs.Prelude.{Bool, true, false, ◌&&◌, map, option_map}
use Rattle.std.specs.List.{AllByRecursion, list_any}
use Rattle.std.proofs.lemmas.Bool.{false≢true}
use Rattle.rb_base.specs.Names.{text_eq}
use Rattle.image_model.specs.Image.{ClassOf}
use Rattle.image_model.specs.ImageNames.{OptionNames}
use Rattle.image_model.specs.Words.{text_words}
use Rattle.image_model.specs.Replaced.{KeepsHierarchy}
use Rattle.image_model.specs.Chain.{class_named, chain}
use Rattle.image_model.specs.Means.{VariableKind, of_instance, of_class_side, of_class, variables, MeaningOf, variable, a_class, definer, side_kind, means_along}
use Rattle.image_model.specs.Uses.{same_kind, is_variable}
use Rattle.image_model.proofs.Kept.{class_named-kept, chain-kept}
use Rattle.image_model.proofs.Lists.{all-implies, find-all}
use Rattle.run_model.specs.Values.{Name}
use Rattle.run_model.proofs.Finite.{and-true_left, and-true_right}
use Rattle.resolved_model.proofs.LookupLemmas.{everywhere}
use Rattle.rename_laws.proofs.OutsideAfter.{meaning_by}
use Rattle.rename_laws.proofs.VariableClasses.{after, keeps-hierarchy, definer-told, definer-apart, definer-old, definer-new, definer-none}

-- not both
pub and-false_right : (a b : Bool) → b ≡ false → (a && b) ≡ false
and-false_right true b e = e
and-false_right false b e = refl

-- a side has no class variables of its own
side-apart : (kind : VariableKind) (meta : Bool) → same_kind kind of_class ≡ true → same_kind kind (side_kind meta) ≡ false
side-apart of_instance meta h = absurd (false≢true h)
side-apart of_class_side meta h = absurd (false≢true h)
side-apart of_class true h = refl
side-apart of_class false h = refl

module _ (kind : VariableKind) (c x y : Name) (meta : Bool) where
  -- each class has its name
  after-name : (e : ClassOf Name) → (after kind c x y e).name ≡ e.name
  after-name e = (keeps-hierarchy kind c x y e).name

  -- classes that are found after for those that were found mean the same
  kept-by : (side shared named : Option (ClassOf Name)) (b : Bool) → meaning_by meta (option_map (after kind c x y) side) (option_map (after kind c x y) shared) (option_map (after kind c x y) named) b ≡ meaning_by meta side shared named b
  kept-by (Some e) shared named b = ap (variable (side_kind meta)) (after-name e)
  kept-by None (Some e) named b = ap (variable of_class) (after-name e)
  kept-by None None (Some e) b = ap a_class (after-name e)
  kept-by None None None true = refl
  kept-by None None None false = refl

  -- the variable is not found there
  abbrev NotIt : VariableKind → ClassOf Name → Type 0
  NotIt k e = (same_kind kind k && text_eq c e.name) ≡ false

  -- a name that does not mean the variable, by what is found for it
  old-by : (side shared named : Option (ClassOf Name)) (b : Bool) (side_after shared_after : Option (ClassOf Name)) →
      (OptionNames (NotIt (side_kind meta)) side → side_after ≡ option_map (after kind c x y) side) → (OptionNames (NotIt of_class) shared → shared_after ≡ option_map (after kind c x y) shared) →
      is_variable text_eq kind c (meaning_by meta side shared named b) ≡ false → meaning_by meta side_after shared_after (option_map (after kind c x y) named) b ≡ meaning_by meta side shared named b
  old-by (Some e) shared named b side_after shared_after p q h =
      ap (λ o. meaning_by meta o shared_after (option_map (after kind c x y) named) b) (p h) ∙ ap (variable (side_kind meta)) (after-name e)
  old-by None (Some e) named b side_after shared_after p q h =
      (λ i. meaning_by meta (p tt i) (q h i) (option_map (after kind c x y) named) b) ∙ ap (variable of_class) (after-name e)
  old-by None None named b side_after shared_after p q h =
      (λ i. meaning_by meta (p tt i) (q tt i) (option_map (after kind c x y) named) b) ∙ kept-by None None named b

  -- the new name, by what is found for it after, and for the old name before
  new-by : (side shared named : Option (ClassOf Name)) (b : Bool) (side_after shared_after named_after : Option (ClassOf Name)) (b_after : Bool) →
      ((d : ClassOf Name) → side ≡ Some d → (same_kind kind (side_kind meta) && text_eq c d.name) ≡ true → side_after ≡ Some (after kind c x y d)) → (same_kind kind (side_kind meta) ≡ false → side_after ≡ None) →
      ((d : ClassOf Name) → shared ≡ Some d → (same_kind kind of_class && text_eq c d.name) ≡ true → shared_after ≡ Some (after kind c x y d)) →
      is_variable text_eq kind c (meaning_by meta side shared named b) ≡ true → meaning_by meta side_after shared_after named_after b_after ≡ meaning_by meta side shared named b
  new-by (Some e) shared named b side_after shared_after named_after b_after p q r h =
      ap (λ o. meaning_by meta o shared_after named_after b_after) (p e refl h) ∙ ap (variable (side_kind meta)) (after-name e)
  new-by None (Some e) named b side_after shared_after named_after b_after p q r h =
      (λ i. meaning_by meta (q (side-apart kind meta (and-true_left (same_kind kind of_class) (text_eq c e.name) h)) i) (r e refl h i) named_after b_after) ∙ ap (variable of_class) (after-name e)
  new-by None None (Some e) b side_after shared_after named_after b_after p q r h = absurd (false≢true h)
  new-by None None None true side_after shared_after named_after b_after p q r h = absurd (false≢true h)
  new-by None None None false side_after shared_after named_after b_after p q r h = absurd (false≢true h)

  -- no name means the variable among other classes
  apart-by : (side shared named : Option (ClassOf Name)) (b : Bool) → OptionNames (λ (e : ClassOf Name). text_eq c e.name ≡ false) side → OptionNames (λ (e : ClassOf Name). text_eq c e.name ≡ false) shared → is_variable text_eq kind c (meaning_by meta side shared named b) ≡ false
  apart-by (Some e) shared named b p q = and-false_right (same_kind kind (side_kind meta)) (text_eq c e.name) p
  apart-by None (Some e) named b p q = and-false_right (same_kind kind of_class) (text_eq c e.name) q
  apart-by None None (Some e) b p q = refl
  apart-by None None None true p q = refl
  apart-by None None None false p q = refl

  module _ (classes : List (ClassOf Name)) (home : Option Name) where
    -- the chain before
    abbrev pub chain_before : List (ClassOf Name)
    chain_before = chain text_eq classes home

    -- what a name means before and after
    abbrev pub before_it : Name → MeaningOf Name
    before_it n = means_along text_words classes chain_before meta n

    abbrev pub after_it : Name → MeaningOf Name
    after_it n = means_along text_words (map (after kind c x y) classes) (chain text_eq (map (after kind c x y) classes) home) meta n

    -- the classes that are found for it
    abbrev side : Name → Option (ClassOf Name)
    side n = definer text_eq (side_kind meta) chain_before n

    abbrev shared : Name → Option (ClassOf Name)
    shared n = definer text_eq of_class chain_before n

    abbrev named : Name → Option (ClassOf Name)
    named n = class_named text_eq classes n

    -- and after
    abbrev found_after : VariableKind → Name → Option (ClassOf Name)
    found_after k n = definer text_eq k (map (after kind c x y) chain_before) n

    hierarchy : AllByRecursion (KeepsHierarchy (after kind c x y)) classes
    hierarchy = everywhere (KeepsHierarchy (after kind c x y)) (keeps-hierarchy kind c x y) classes

    after-found : (n : Name) → after_it n ≡ meaning_by meta (found_after (side_kind meta) n) (found_after of_class n) (option_map (after kind c x y) (named n)) (text_words.is_transcript n)
    after-found n =
        let along : chain text_eq (map (after kind c x y) classes) home ≡ map (after kind c x y) chain_before = chain-kept text_eq (after kind c x y) classes hierarchy home in
        λ i. meaning_by meta (definer text_eq (side_kind meta) (along i) n) (definer text_eq of_class (along i) n) (class_named-kept text_eq (after kind c x y) classes hierarchy n i) (text_words.is_transcript n)

    -- a name whose definers stay
    stays-if : (n : Name) → ((k : VariableKind) → found_after k n ≡ option_map (after kind c x y) (definer text_eq k chain_before n)) → after_it n ≡ before_it n
    stays-if n h =
        after-found n
        ∙ (λ i. meaning_by meta (h (side_kind meta) i) (h of_class i) (option_map (after kind c x y) (named n)) (text_words.is_transcript n))
        ∙ kept-by (side n) (shared n) (named n) (text_words.is_transcript n)

    -- a name other than the two means the same
    pub other-stays : (n : Name) → text_eq x n ≡ false → text_eq y n ≡ false → after_it n ≡ before_it n
    other-stays n p q = stays-if n (λ k. definer-told kind c x y k chain_before n p q)

    -- so does each where the class does not stand on the chain
    pub apart-stays : AllByRecursion (λ (e : ClassOf Name). text_eq c e.name ≡ false) chain_before → (n : Name) → after_it n ≡ before_it n
    apart-stays a n = stays-if n (λ k. definer-apart kind c x y k chain_before n a)

    -- and the old name, where it does not mean the variable
    pub old-stays : is_variable text_eq kind c (before_it x) ≡ false → after_it x ≡ before_it x
    old-stays h =
        after-found x
        ∙ old-by (side x) (shared x) (named x) (text_words.is_transcript x) (found_after (side_kind meta) x) (found_after of_class x)
        (λ k. definer-old kind c x y (side_kind meta) chain_before k) (λ k. definer-old kind c x y of_class chain_before k) h

    -- the new name, that no class on the chain defined, means the variable that the old name meant
    pub new-means : AllByRecursion (λ (e : ClassOf Name). (k : VariableKind) → list_any (text_eq y) (variables k e) ≡ false) chain_before → is_variable text_eq kind c (before_it x) ≡ true → after_it y ≡ before_it x
    new-means a h =
        let lacks : (k : VariableKind) → AllByRecursion (λ (e : ClassOf Name). list_any (text_eq y) (variables k e) ≡ false) chain_before = λ k. all-implies _ _ (λ e z. z k) chain_before a in
        after-found y
        ∙ new-by (side x) (shared x) (named x) (text_words.is_transcript x) (found_after (side_kind meta) y) (found_after of_class y) (option_map (after kind c x y) (named y)) (text_words.is_transcript y)
        (λ d q s. definer-new kind c x y (side_kind meta) chain_before d (and-true_left (same_kind kind (side_kind meta)) (text_eq c d.name) s) (lacks kind) q (and-true_right (same_kind kind (side_kind meta)) (text_eq c d.name) s))
        (λ s. definer-none kind c x y (side_kind meta) chain_before s (lacks (side_kind meta)))
        (λ d q s. definer-new kind c x y of_class chain_before d (and-true_left (same_kind kind of_class) (text_eq c d.name) s) (lacks kind) q (and-true_right (same_kind kind of_class) (text_eq c d.name) s)) h

    -- no name means the variable where the class does not stand on the chain
    pub apart-means : AllByRecursion (λ (e : ClassOf Name). text_eq c e.name ≡ false) chain_before → (n : Name) → is_variable text_eq kind c (before_it n) ≡ false
    apart-means a n =
        apart-by (side n) (shared n) (named n) (text_words.is_transcript n) (find-all _ (λ e. list_any (text_eq n) (variables (side_kind meta) e)) chain_before a) (find-all _ (λ e. list_any (text_eq n) (variables of_class e)) chain_before a)
