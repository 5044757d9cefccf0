-- A method is the same as itself.
use Rattle.std.proofs.Common.{◌≡◌, ℕ, Bool, true, not, ◌||◌, List, [], ◌∷◌, Option, Some, None, is_some, refl, sym, true≢false}
use Rattle.std.specs.Prelude.{nat_eq}
use Rattle.std.specs.List.{list_all}
use Rattle.std.specs.Option.{option_map_or, option_eq}
use Rattle.std.proofs.lemmas.Bool.{and_from, or_right}
use Rattle.tree_model.specs.Nodes.{Placed, nodes}
use Rattle.same_trees.proofs.Told.{code_refl}
use Rattle.image_model.specs.Image.{EntryOf}
use Rattle.image_model.specs.Words.{number_words}
use Rattle.image_model.specs.Means.{VariableKind, of_instance, of_class_side, of_class, MeaningOf, pseudo, argument, temporary, variable, a_class, transcript, undeclared, means}
use Rattle.image_model.specs.Uses.{name_used, same_kind}
use Rattle.class_table.specs.Slots.{Slots}
use Rattle.class_table.specs.View.{number_image}
use Rattle.class_table.proofs.Live.{eqb-refl}
use Rattle.command_model.specs.SameMethods.{same_meaning, has_super, is_same_method}
use Rattle.commands.specs.Views.{asked_by}
use Rattle.method_questions.specs.Found.{are_same}
use Rattle.method_questions.proofs.OwnMethods.{sides-same}

kind-self : (k : VariableKind) → same_kind k k ≡ true
kind-self of_instance = refl
kind-self of_class_side = refl
kind-self of_class = refl

meaning-self : (p : MeaningOf ℕ) → same_meaning nat_eq p p ≡ true
meaning-self pseudo = refl
meaning-self (argument k) = eqb-refl k
meaning-self (temporary k) = eqb-refl k
meaning-self (variable k c) = and_from _ _ (kind-self k) (eqb-refl c)
meaning-self (a_class c) = eqb-refl c
meaning-self transcript = refl
meaning-self undeclared = refl

each-passes : {X : Type 0} (p : X → Bool) → ((x : X) → p x ≡ true) → (xs : List X) → list_all p xs ≡ true
each-passes p h [] = refl
each-passes p h (x ∷ xs) = and_from (p x) (list_all p xs) (h x) (each-passes p h xs)

class-self : (o : Option ℕ) → option_eq nat_eq o o ≡ true
class-self None = refl
class-self (Some n) = eqb-refl n

module _ (s : Slots) where
  method-self : (m : EntryOf ℕ) → is_same_method (number_words s.names) (asked_by s.names).is_super (number_image s) (number_image s) m m ≡ true
  method-self m =
      and_from _ _ (code_refl nat_eq eqb-refl m.tree)
      (and_from _ _ (or_right (not (has_super (asked_by s.names).is_super m || has_super (asked_by s.names).is_super m)) _ (and_from _ _ (class-self m.class) (sides-same m.meta)))
      (each-passes (λ (e : Placed ℕ). option_map_or (λ x. same_meaning nat_eq (means (number_words s.names) (number_image s) m e.0 x) (means (number_words s.names) (number_image s) m e.0 x)) (name_used e.1) true)
      (λ e. by e.0 (name_used e.1)) (nodes m.tree.body)))
    where
      by : (path : List ℕ) (o : Option ℕ) → option_map_or (λ x. same_meaning nat_eq (means (number_words s.names) (number_image s) m path x) (means (number_words s.names) (number_image s) m path x)) o true ≡ true
      by path None = refl
      by path (Some x) = meaning-self (means (number_words s.names) (number_image s) m path x)

  pub same-self : (o : Option (EntryOf ℕ)) → is_some o ≡ true → are_same s o o ≡ true
  same-self None e = absurd (true≢false (sym e))
  same-self (Some m) e = method-self m
