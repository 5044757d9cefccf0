-- A method is the same as itself.
use Rattle.std.proofs.Common.{◌≡◌, ℕ, List, Option, Some, None, refl, ap, ◌∙◌}
use Rattle.std.specs.Prelude.{true, not, ◌||◌}
use Rattle.std.proofs.Math.Bool.{beq}
use Rattle.std.specs.Option.{option_eq, option_map_or}
use Rattle.std.proofs.lemmas.Bool.{eq-eqb, or_right}
use Rattle.rb_base.specs.Names.{text_eq}
use Rattle.rb_base.proofs.NamesLemmas.{text_eq-refl}
use Rattle.tree_model.specs.Tree.{TreeOf}
use Rattle.tree_model.specs.Path.{part_in}
use Rattle.tree_model.specs.Nodes.{Placed, nodes}
use Rattle.tree_model.proofs.NodesLemmas.{part_in-Contains}
use Rattle.image_model.specs.Image.{EntryOf, ImageOf}
use Rattle.image_model.specs.Words.{text_words}
use Rattle.image_model.specs.Means.{MeaningOf, pseudo, argument, temporary, variable, a_class, transcript, undeclared, means}
use Rattle.image_model.specs.Uses.{name_used, same_kind}
use Rattle.image_model.proofs.Ends.{place-contains}
use Rattle.run_model.specs.Values.{Name}
use Rattle.run_model.proofs.Finite.{and-true_both}
use Rattle.same_trees.specs.SameTrees.{same_code}
use Rattle.same_trees.proofs.Told.{code_refl}
use Rattle.command_model.specs.SameMethods.{same_meaning, means_same_in, has_super, are_of_one_side, is_same_method}
use Rattle.rename_laws.proofs.VariableClasses.{kind-refl}
use Rattle.agreement_laws.specs.Reaching.{is_super}
use Rattle.strip_model.proofs.Least.{side-reflexive}
use Rattle.strip_laws.proofs.Listed.{all-from}

class-self : (o : Option Name) → option_eq text_eq o o ≡ true
class-self None = refl
class-self (Some n) = text_eq-refl n

meaning-self : (g : MeaningOf Name) → same_meaning text_eq g g ≡ true
meaning-self pseudo = refl
meaning-self (argument k) = eq-eqb k k refl
meaning-self (temporary k) = eq-eqb k k refl
meaning-self (variable k c) = and-true_both (same_kind k k) (text_eq c c) (kind-refl k) (text_eq-refl c)
meaning-self (a_class c) = text_eq-refl c
meaning-self transcript = refl
meaning-self undeclared = refl

-- in two images in which its names mean the same
pub method-self : (i j : ImageOf Name) (m : EntryOf Name) → ((path : List ℕ) (u : TreeOf Name) (n : Name) → part_in m.tree.body path ≡ Some u → name_used u ≡ Some n → means text_words j m path n ≡ means text_words i m path n) →
    is_same_method text_words is_super i j m m ≡ true
method-self i j m h =
    and-true_both (same_code text_eq m.tree m.tree) _ (code_refl text_eq text_eq-refl m.tree)
    (and-true_both (not (has_super is_super m || has_super is_super m) || are_of_one_side text_eq m m) (means_same_in text_words i m j m)
    (or_right (not (has_super is_super m || has_super is_super m)) (are_of_one_side text_eq m m) (and-true_both (option_eq text_eq m.class m.class) (beq m.meta m.meta) (class-self m.class) (side-reflexive m.meta)))
    (all-from (λ (e : Placed Name). option_map_or (λ x. same_meaning text_eq (means text_words i m e.0 x) (means text_words j m e.0 x)) (name_used e.1) true) (nodes m.tree.body)
    (λ k e at. by e (name_used e.1) (λ n q. h e.0 e.1 n (part_in-Contains m.tree.body e.0 e.1 (place-contains (nodes m.tree.body) k e at)) q))))
  where
    by : (e : Placed Name) (o : Option Name) → ((n : Name) → o ≡ Some n → means text_words j m e.0 n ≡ means text_words i m e.0 n) → option_map_or (λ x. same_meaning text_eq (means text_words i m e.0 x) (means text_words j m e.0 x)) o true ≡ true
    by e None q = refl
    by e (Some n) q = ap (same_meaning text_eq (means text_words i m e.0 n)) (q n refl) ∙ meaning-self (means text_words i m e.0 n)
