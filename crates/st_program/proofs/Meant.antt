-- What a name stands for, found among slots.
use Rattle.std.proofs.Common.{◌≡◌, ℕ, zero, suc, ◌<◌, ◌-◌, arith, Bool, true, false, cond, List, Option, Some, None, option_map, refl, sym, ap, ◌∙◌}
use Rattle.std.specs.Prelude.{codes, unwrap_or}
use Rattle.std.specs.Option.{option_and_then, option_or}
use Rattle.rb_base.specs.Names.{text_eq}
use Rattle.image_model.specs.Image.{ClassOf, ImageOf}
use Rattle.image_model.specs.Words.{text_words}
use Rattle.image_model.specs.Chain.{class_named, chain}
use Rattle.image_model.specs.Means.{VariableKind, of_class, MeaningOf, variable, a_class, transcript, undeclared, definer, as_variable, side_kind, means_outside}
use Rattle.run_model.specs.Values.{Name}
use Rattle.run_model.specs.Runs.{doit_class}
use Rattle.class_table.specs.Slots.{Slots}
use Rattle.class_table.specs.View.{image_of}
use Rattle.class_table.specs.Valid.{IsOrderly}
use Rattle.st_program.specs.declared.meaning.Kind.{Kind}
use Rattle.st_program.specs.declared.meaning.Kind.TheVariants as kind
use Rattle.st_program.specs.Slots.{class_slot}
use Rattle.st_program.specs.Definers.{kind_from, side_of, defined_at, next_above, definer_from, means_from}
use Rattle.image_model.specs.Upwards.{upwards, first_given}
use Rattle.st_program.proofs.Chains.{definer_found, named_found}

twice : {X Y Z : Type 0} (f : Y → Z) (g : X → Y) (o : Option X) → option_map f (option_map g o) ≡ option_map (λ x. f (g x)) o
twice f g None = refl
twice f g (Some x) = refl

side : (meta : Bool) → kind_from (side_of meta) ≡ side_kind meta
side true = refl
side false = refl

-- one step up, past a class that does not define the variable
pub walk_on : (s : Slots) (j : Kind) (t : Name) (m n k : ℕ) (o p : Option ℕ) → 0 < n → m ≡ n - 1 → o ≡ Some k → defined_at s j t k ≡ None → p ≡ next_above s k
    → first_given (defined_at s j t) (upwards (next_above s) m p) ≡ first_given (defined_at s j t) (upwards (next_above s) n o)
walk_on s j t m zero k o p l e q d u = absurd (omega arith)
walk_on s j t m (suc n) k o p l e q d u =
    let same : m ≡ n = omega (arith, e) in
    (λ i. first_given (defined_at s j t) (upwards (next_above s) (same i) (u i)))
    ∙ ap (λ z. option_or z (first_given (defined_at s j t) (upwards (next_above s) n (next_above s k)))) (sym d)
    ∙ ap (λ z. first_given (defined_at s j t) (upwards (next_above s) (suc n) z)) (sym q)

module _ (s : Slots) (orderly : IsOrderly s) where
  abbrev image : ImageOf Name
  image = image_of s

  as_found : (j : Kind) (t : Name) (c : Option Name) → option_map (λ d. variable (kind_from j) d) (definer_from s j t (option_and_then (class_slot s) c)) ≡ as_variable text_eq (kind_from j) (chain text_eq image.classes c) t
  as_found j t c = ap (option_map (λ d. variable (kind_from j) d)) (definer_found s orderly j t c) ∙ twice (λ d. variable (kind_from j) d) (λ (d : ClassOf Name). d.name) (definer text_eq (kind_from j) (chain text_eq image.classes c) t)

  class_found : (t : Name) → option_map (λ (k : ℕ). a_class t) (class_slot s t) ≡ option_map (λ (d : ClassOf Name). a_class d.name) (class_named text_eq image.classes t)
  class_found t =
      sym (twice (λ u. a_class u) (λ (k : ℕ). t) (class_slot s t)) ∙ ap (option_map (λ u. a_class u)) (named_found s orderly t) ∙ twice (λ u. a_class u) (λ (d : ClassOf Name). d.name) (class_named text_eq image.classes t)

  pub meant : (c : Option Name) (meta : Bool) (t : Name) → means_from s (option_and_then (class_slot s) c) meta t ≡ means_outside text_words image c meta t
  meant c meta t =
      (λ i. unwrap_or (option_or (as_found (side_of meta) t c i) (option_or (as_found kind.Shared t c i) (option_or (class_found t i) (cond (text_eq (codes "Transcript") t) (Some transcript) None)))) undeclared)
      ∙ ap (λ k. unwrap_or (option_or (as_variable text_eq k (chain text_eq image.classes c) t) (option_or (as_variable text_eq of_class (chain text_eq image.classes c) t) (option_or (option_map (λ (d : ClassOf Name). a_class d.name) (class_named text_eq image.classes t)) (cond (text_eq (codes "Transcript") t) (Some transcript) None)))) undeclared) (side meta)

  -- the class of which do-its are read as methods
  pub doit_class_found : (t : Name) → t ≡ codes "UndefinedObject" → option_map (λ (k : ℕ). t) (class_slot s t) ≡ doit_class image
  doit_class_found t e = named_found s orderly t ∙ ap (λ u. option_map (λ (d : ClassOf Name). d.name) (class_named text_eq image.classes u)) e
