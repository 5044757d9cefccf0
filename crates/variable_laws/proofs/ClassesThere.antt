-- Classes that are found by their names, and what they define where they stand.
use Rattle.std.proofs.Common.{◌≡◌, List, [], ◌∷◌, Option, Some, None, refl, sym, ap, ◌∙◌}
use Rattle.std.specs.Prelude.{true, false, not, ◌||◌}
use Rattle.std.specs.List.{AllByRecursion, list_any}
use Rattle.std.specs.Option.{option_map_or}
use Rattle.std.proofs.lemmas.Bool.{false≢true}
use Rattle.rb_base.specs.Names.{text_eq}
use Rattle.image_model.specs.Image.{ClassOf, ImageOf}
use Rattle.image_model.specs.Chain.{class_named}
use Rattle.image_model.specs.Means.{VariableKind}
use Rattle.run_model.specs.Values.{Name}
use Rattle.run_model.proofs.Finite.{by_cases}
use Rattle.run_model.proofs.RenamingLemmas.{text-same}
use Rattle.rename_model.specs.Conditions.{is_user_class, has_variable}
use Rattle.rename_laws.proofs.ChainFacts.{is_on, IsFound}
use Rattle.variable_laws.proofs.NamesPut.{or-true}
use Rattle.variable_laws.proofs.ClassesChanged.{defining}
use Rattle.variable_laws.proofs.Links.{other-holds}

module _ (i : ImageOf Name) where
  -- a class of the user is there
  pub user-found : (c : Name) → is_user_class text_eq i c ≡ true → (d : ClassOf Name) × (class_named text_eq i.classes c ≡ Some d)
  user-found c h = by (class_named text_eq i.classes c) refl h
    where
      by : (o : Option (ClassOf Name)) → class_named text_eq i.classes c ≡ o → option_map_or (λ (z : ClassOf Name). not z.kernel) o false ≡ true → (d : ClassOf Name) × (class_named text_eq i.classes c ≡ Some d)
      by None q r = absurd (false≢true r)
      by (Some d) q r = (d, q)

  -- two classes that are found by one name are one
  pub one-class : (c : Name) (d e : ClassOf Name) → class_named text_eq i.classes c ≡ Some d → IsFound i.classes e → text_eq c e.name ≡ true → d ≡ e
  one-class c d e q found t =
      let both : Some d ≡ Some e = sym q ∙ ap (class_named text_eq i.classes) (text-same c e.name t) ∙ found in
      cc

  -- the class that has a variable defines it
  pub has-defines : (kind : VariableKind) (c x : Name) (d : ClassOf Name) → has_variable text_eq i kind c x ≡ true → class_named text_eq i.classes c ≡ Some d → defining kind x d ≡ true
  has-defines kind c x d has q = sym (ap (λ o. option_map_or (defining kind x) o false) q) ∙ has

  -- where a class stands that defines a variable, one there defines it
  pub defines-there : (kind : VariableKind) (c x : Name) (d : ClassOf Name) → class_named text_eq i.classes c ≡ Some d → defining kind x d ≡ true → (cs : List (ClassOf Name)) → AllByRecursion (IsFound i.classes) cs → is_on c cs ≡ true → list_any (defining kind x) cs ≡ true
  defines-there kind c x d q own [] found on = on
  defines-there kind c x d q own (z ∷ zs) found on =
      by_cases (text_eq c z.name)
      (λ t. ap (λ b. b || list_any (defining kind x) zs) (ap (defining kind x) (sym (one-class c d z q found.0 t)) ∙ own))
      (λ t. or-true (defining kind x z) (list_any (defining kind x) zs) (defines-there kind c x d q own zs found.1 (other-holds (text_eq c z.name) (is_on c zs) t on)))
