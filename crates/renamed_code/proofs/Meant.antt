-- A name that means a class is the name of that class.
use Rattle.std.proofs.Common.{◌≡◌, ℕ, Bool, true, false, cond, ◌&&◌, List, [], ◌∷◌, find, Option, Some, None, option_map, unwrap_or, refl, sym, ap, subst, ◌∙◌, true≢false}
use Rattle.std.specs.Prelude.{nat_eq}
use Rattle.std.specs.List.{list_any}
use Rattle.std.specs.Option.{option_or}
use Rattle.std.proofs.lemmas.Bool.{eqb-true}
use Rattle.scope_model.specs.declared.local.Local.{Local}
use Rattle.scope_model.specs.declared.local.Local.TheVariants.{Argument, Temporary, NotLocal}
use Rattle.scope_model.specs.NameTests.{is_pseudo_in}
use Rattle.scope_model.specs.Scope.{local_in, local_in_doit}
use Rattle.image_model.specs.Image.{ClassOf, EntryOf, DoItOf, ImageOf}
use Rattle.image_model.specs.Words.{number_words}
use Rattle.image_model.specs.Chain.{class_named, chain}
use Rattle.image_model.specs.Means.{VariableKind, of_class, variables, MeaningOf, pseudo, variable, a_class, transcript, undeclared, as_variable, side_kind, means_along, means_outside, means_by, means, means_in_doit}
use Rattle.image_model.specs.Uses.{is_that_class}

-- whether two tests pass, where the second implies the first
implied : (a b : Bool) → (b ≡ true → a ≡ true) → (a && b) ≡ b
implied true b h = refl
implied false true h = absurd (true≢false (sym (h refl)))
implied false false h = refl

module _ (c n : ℕ) where
  -- the meaning is the class only where the name is its name
  abbrev Fits : MeaningOf ℕ → Type 0
  Fits m = is_that_class nat_eq c m ≡ true → nat_eq c n ≡ true

  abbrev FitsIf : Option (MeaningOf ℕ) → Type 0
  FitsIf None = Unit {0}
  FitsIf (Some m) = Fits m

  -- what is no class
  no_class : {X : Type 0} → false ≡ true → X
  no_class e = absurd (true≢false (sym e))

  fits-variable : (kind : VariableKind) (above : List (ClassOf ℕ)) → FitsIf (as_variable nat_eq kind above n)
  fits-variable kind above = by (find (λ (e : ClassOf ℕ). list_any (nat_eq n) (variables kind e)) above)
    where
      by : (o : Option (ClassOf ℕ)) → FitsIf (option_map (λ (e : ClassOf ℕ). variable kind e.name) o)
      by None = tt
      by (Some e) = no_class

  fits-class : (classes : List (ClassOf ℕ)) → FitsIf (option_map (λ (e : ClassOf ℕ). a_class e.name) (class_named nat_eq classes n))
  fits-class [] = tt
  fits-class (e ∷ es) = by (nat_eq n e.name) refl (fits-class es)
    where
      by : (b : Bool) → nat_eq n e.name ≡ b → FitsIf (option_map (λ (d : ClassOf ℕ). a_class d.name) (class_named nat_eq es n)) → FitsIf (option_map (λ (d : ClassOf ℕ). a_class d.name) (cond b (Some e) (class_named nat_eq es n)))
      by true is rest = λ h. subst (λ (k : ℕ). nat_eq c k ≡ true) (sym (eqb-true n e.name is)) h
      by false is rest = rest

  fits-transcript : (b : Bool) → FitsIf (cond b (Some transcript) None)
  fits-transcript true = no_class
  fits-transcript false = tt

  fits-first : (o p r t : Option (MeaningOf ℕ)) → FitsIf o → FitsIf p → FitsIf r → FitsIf t → Fits (unwrap_or (option_or o (option_or p (option_or r t))) undeclared)
  fits-first (Some m) p r t a b d e = a
  fits-first None (Some m) r t a b d e = b
  fits-first None None (Some m) t a b d e = d
  fits-first None None None (Some m) a b d e = e
  fits-first None None None None a b d e = no_class

  fits-scopes : (l : Local) (outside : MeaningOf ℕ) → Fits outside → Fits (means_by l outside)
  fits-scopes (Argument scope) outside p = no_class
  fits-scopes (Temporary scope) outside p = no_class
  fits-scopes NotLocal outside p = p

  fits-pseudo : (b : Bool) (m : MeaningOf ℕ) → Fits m → Fits (cond b pseudo m)
  fits-pseudo true m p = no_class
  fits-pseudo false m p = p

  module _ (names : List (List ℕ)) (i : ImageOf ℕ) where
    fits-outside : (o : Option ℕ) (meta : Bool) → Fits (means_outside (number_words names) i o meta n)
    fits-outside o meta =
        let above : List (ClassOf ℕ) = chain nat_eq i.classes o in
        fits-first (as_variable nat_eq (side_kind meta) above n) (as_variable nat_eq of_class above n) (option_map (λ (e : ClassOf ℕ). a_class e.name) (class_named nat_eq i.classes n)) (cond ((number_words names).is_transcript n) (Some transcript) None)
        (fits-variable (side_kind meta) above) (fits-variable of_class above) (fits-class i.classes) (fits-transcript ((number_words names).is_transcript n))

    pub fits-means : (m : EntryOf ℕ) (path : List ℕ) → Fits (means (number_words names) i m path n)
    fits-means m path =
        fits-pseudo (is_pseudo_in names n) (means_by (local_in nat_eq (is_pseudo_in names) m.tree path n) (means_outside (number_words names) i m.class m.meta n))
        (fits-scopes (local_in nat_eq (is_pseudo_in names) m.tree path n) (means_outside (number_words names) i m.class m.meta n) (fits-outside m.class m.meta))

    pub fits-means_in_doit : (d : DoItOf ℕ) (path : List ℕ) → Fits (means_in_doit (number_words names) i d path n)
    fits-means_in_doit d path =
        let home : Option ℕ = option_map (λ (e : ClassOf ℕ). e.name) (find (λ (e : ClassOf ℕ). (number_words names).is_undefined_object e.name) i.classes) in
        fits-pseudo (is_pseudo_in names n) (means_by (local_in_doit nat_eq (is_pseudo_in names) d.body path n) (means_outside (number_words names) i home false n))
        (fits-scopes (local_in_doit nat_eq (is_pseudo_in names) d.body path n) (means_outside (number_words names) i home false n) (fits-outside home false))

    -- so the spelling need not be asked for
    pub spelled-means : (m : EntryOf ℕ) (path : List ℕ) → (nat_eq c n && is_that_class nat_eq c (means (number_words names) i m path n)) ≡ is_that_class nat_eq c (means (number_words names) i m path n)
    spelled-means m path = implied (nat_eq c n) (is_that_class nat_eq c (means (number_words names) i m path n)) (fits-means m path)

    pub spelled-means_in_doit : (d : DoItOf ℕ) (path : List ℕ) → (nat_eq c n && is_that_class nat_eq c (means_in_doit (number_words names) i d path n)) ≡ is_that_class nat_eq c (means_in_doit (number_words names) i d path n)
    spelled-means_in_doit d path = implied (nat_eq c n) (is_that_class nat_eq c (means_in_doit (number_words names) i d path n)) (fits-means_in_doit d path)
