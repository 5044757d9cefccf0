-- A message to self unfolds to the assignment that its method answers.
use Rattle.std.proofs.Common.{◌≡◌, ℕ, List, [], ◌∷◌, length, Some, None, refl, sym, ap, ◌∙◌, subst}
use Rattle.std.specs.Prelude.{false, not, cond, option_map, codes}
use Rattle.rb_base.specs.Names.{text_eq}
use Rattle.rb_base.proofs.NamesLemmas.{text_eq-refl}
use Rattle.tree_model.specs.Tree.{var, assign, return, no_trees, more_trees, no_statements, more_statements}
use Rattle.image_model.specs.Image.{ImageOf}
use Rattle.image_model.specs.Words.{text_words}
use Rattle.image_model.specs.Chain.{chain}
use Rattle.image_model.specs.Means.{MeaningOf, pseudo, argument, temporary, variable, of_instance, of_class_side, of_class, a_class, transcript, undeclared, means_outside}
use Rattle.run_model.specs.Values.{Name}
use Rattle.run_model.specs.Shapes.{shape_of}
use Rattle.resolved_model.specs.ResolvedTrees.{of_word, of_local, reading, sending, assigning, returning, no_nodes, more_nodes, no_lines, more_lines}
use Rattle.resolved_model.specs.ResolvedImages.{by_code, doing_of, resolved_entry, resolved_image}
use Rattle.resolved_model.specs.ResolvedShapes.{resolved_shape}
use Rattle.resolved_model.specs.Resolving.{target_of}
use Rattle.resolved_model.specs.Environments.{Declared, as_argument, opened, kind_in, place_in, target_in, tree_in}
use Rattle.resolved_model.proofs.ResolvingLemmas.{method-resolved}
use Rattle.resolved_model.proofs.ShapeLemmas.{shape-in}
use Rattle.unfolded_calls.specs.Unfolding.{Allowed, IsOuterTarget, Unfolds, unfolded_setter}
use Rattle.unfolded_calls.specs.SameContexts.{IsOutside}
use Rattle.unfolded_calls.proofs.Untouched.{means-outside}
use Rattle.unfolded_places.specs.Inlining.{IsInlined, IsStored}
use Rattle.unfolded_places.specs.Standing.{AllStoresUnfold}
use Rattle.unfolded_places.proofs.Congruence.{ControlLaw, so-message}
use Rattle.unfolded_places.proofs.NamesThere.{local-read, known-target}
use Rattle.unfolded_places.proofs.Inlined.{self-there, code-answers}

target-outside : (m : MeaningOf Name) (k : ℕ) (n : Name) → IsOutside m → IsOuterTarget (target_of m k n)
target-outside pseudo k n t = tt
target-outside (argument scope) k n t = absurd t
target-outside (temporary scope) k n t = absurd t
target-outside (variable of_instance c) k n t = tt
target-outside (variable of_class_side c) k n t = tt
target-outside (variable of_class c) k n t = tt
target-outside (a_class c) k n t = tt
target-outside transcript k n t = tt
target-outside undeclared k n t = tt

target-anywhere : (m : MeaningOf Name) (k j : ℕ) (n : Name) → IsOutside m → target_of m k n ≡ target_of m j n
target-anywhere pseudo k j n t = refl
target-anywhere (argument scope) k j n t = absurd t
target-anywhere (temporary scope) k j n t = absurd t
target-anywhere (variable of_instance c) k j n t = refl
target-anywhere (variable of_class_side c) k j n t = refl
target-anywhere (variable of_class c) k j n t = refl
target-anywhere (a_class c) k j n t = refl
target-anywhere transcript k j n t = refl
target-anywhere undeclared k j n t = refl

module _ (control : ControlLaw) (i : ImageOf Name) (gone : Allowed) where
  pub stored-unfolds : AllStoresUnfold i gone (IsInlined i gone) (IsStored i gone)
  stored-unfolds m place g A s x t u h y message unfolds =
      subst (λ z. Unfolds (resolved_image i) gone g (sending z s (more_nodes (tree_in f A t) no_nodes)) (assigning (target_in A (f x) x) u)) (sym (self-there f A))
      (subst (λ z. Unfolds (resolved_image i) gone g (sending (reading (of_word (codes "self"))) s (more_nodes (tree_in f A t) no_nodes)) (assigning z u)) (sym (known-target A (f x) x None y.plain_variable y.there))
      (unfolded_setter (target_of (f x) (place_in A x) x) (target-outside (f x) (place_in A x) x (means-outside i.classes (chain text_eq i.classes m.class) m.meta x))
      (record {
        class = y.class;
        meta = y.meta;
        method = resolved_entry i y.target;
        here = h.standing ∙ y.here;
        target = y.found;
        doing =
            ap (doing_of i y.target) y.primitive
            ∙ ap by_code (method-resolved i y.target ∙ code-answers control i gone y.target before [] (more_statements y.note (return (assign x (var y.argument))) no_statements) 1 y.temporaries y.statements (ap length y.arguments)
            ∙ (λ k. record { parameters = 1; temporaries = 0; statements = more_lines (returning (assigning (stored-target k) (read-argument k))) no_lines }));
        shape =
            ap (λ z. resolved_shape s z (more_nodes (tree_in f A t) no_nodes)) (sym (self-there f A)) ∙ shape-in f A s (var (codes "self")) (more_trees t no_trees)
            ∙ so-message control f f A A (shape_of s (var (codes "self")) (more_trees t no_trees)) (control s (var (codes "self")) (more_trees t no_trees) ∙ ap not message);
        above = λ e. absurd (cc);
      })
      unfolds))
    where
      f : Name → MeaningOf Name
      f n = means_outside text_words i m.class m.meta n

      before : Name → MeaningOf Name
      before n = means_outside text_words i y.target.class y.target.meta n

      formals : List Declared
      formals = opened y.target.tree.arguments [] []

      one-formal : opened y.target.tree.arguments [] [] ≡ as_argument y.argument ∷ []
      one-formal = ap (λ xs. opened xs [] []) y.arguments

      is-argument : kind_in formals y.argument ≡ Some false
      is-argument = ap (λ l. kind_in l y.argument) one-formal ∙ ap (λ b. option_map (λ (d : Declared). d.is_temporary) (cond b (Some (as_argument y.argument)) None)) (text_eq-refl y.argument)

      first-place : place_in formals y.argument ≡ 0
      first-place = ap (λ l. place_in l y.argument) one-formal ∙ ap (λ b. cond (not b) 1 0) (text_eq-refl y.argument)

      is-other : kind_in formals x ≡ None
      is-other = ap (λ l. kind_in l x) one-formal ∙ ap (λ b. option_map (λ (d : Declared). d.is_temporary) (cond b (Some (as_argument y.argument)) None)) y.other

      read-argument : tree_in before formals (var y.argument) ≡ reading (of_local 0)
      read-argument = ap reading (local-read formals (before y.argument) y.argument false y.plain_argument is-argument ∙ ap of_local first-place)

      stored-target : target_in formals (before x) x ≡ target_of (f x) (place_in A x) x
      stored-target =
          known-target formals (before x) x None y.plain_variable is-other ∙ ap (λ m. target_of m (place_in formals x) x) y.same
          ∙ target-anywhere (f x) (place_in formals x) (place_in A x) x (means-outside i.classes (chain text_eq i.classes m.class) m.meta x)
