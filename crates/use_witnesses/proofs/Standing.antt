-- What is in the way in a method that a command brings, and the rest, as the witnesses of conditions.
use Rattle.std.proofs.Common.{◌≡◌, ℕ, Bool, true, false, List, [], ◌∷◌, ◌++◌, map, refl, sym, ap, ◌∙◌}
use Rattle.std.specs.Prelude.{filter}
use Rattle.std.proofs.lemmas.List.{append-nil}
use Rattle.tree_model.specs.Nodes.{Placed, nodes}
use Rattle.image_model.specs.Image.{EntryOf}
use Rattle.command_model.specs.Numbers.{number_command_words}
use Rattle.commands.specs.Views.{command_of}
use Rattle.commands.specs.declared.command.Command.TheVariants as command
use Rattle.commands.specs.declared.command.NewMethod.{NewMethod}
use Rattle.st_tree.specs.View.{method_of}
use Rattle.std.specs.List.{flat_map}
use Rattle.command_model.specs.MethodEffects.{new_method}
use Rattle.refusal_witnesses.specs.NameWitnesses.{added_by, reflections_in}
use Rattle.refusal_witnesses.specs.Witnesses.{OwnerOf, InMethod, WitnessOf, AWhole, a_node, nodes_that, where_true}
use Rattle.witness_lists.specs.declared.nodes.Sought.{Sought}
use Rattle.witness_lists.specs.declared.nodes.Sought.TheVariants as sought
use Rattle.witness_lists.specs.Sought.{heads_method, passes}
use Rattle.witness_lists.specs.Walks.{standing_in}
use Rattle.use_witnesses.specs.Brought.{as_in}

module _ (m : EntryOf ℕ) (o : OwnerOf ℕ) where
  as-in-append : (ws vs : List (WitnessOf ℕ)) → map (as_in m) (ws ++ vs) ≡ map (as_in m) ws ++ map (as_in m) vs
  as-in-append [] vs = refl
  as-in-append (w ∷ ws) vs = ap (λ us. as_in m w ∷ us) (as-in-append ws vs)

  nodes-in : (es : List (Placed ℕ)) → map (λ (e : Placed ℕ). a_node (InMethod m) e.0) es ≡ map (as_in m) (map (λ (e : Placed ℕ). a_node o e.0) es)
  nodes-in [] = refl
  nodes-in (e ∷ es) = ap (λ us. a_node (InMethod m) e.0 ∷ us) (nodes-in es)

  whole-in : (b : Bool) → where_true b (AWhole (InMethod m)) ≡ map (as_in m) (where_true b (AWhole o))
  whole-in true = refl
  whole-in false = refl

  -- what stands in a tree of an owner, as in a method
  pub standing-as : (names : List (List ℕ)) (x : Sought) → standing_in names x (InMethod m) m.tree ≡ map (as_in m) (standing_in names x o m.tree)
  standing-as names x =
      (λ i. whole-in (heads_method names x m.tree) i ++ nodes-in (filter (λ (e : Placed ℕ). passes names x e.1) (nodes m.tree.body)) i)
      ∙ sym (as-in-append (where_true (heads_method names x m.tree) (AWhole o)) (nodes_that (λ e. passes names x e.1) o m.tree.body))

-- what looks at the program itself in the method that comes
pub reflections-brought : (names : List (List ℕ)) (new : NewMethod) (o : OwnerOf ℕ)
    → flat_map (reflections_in (number_command_words names)) (added_by (command_of (command.AddMethod new)))
    ≡ map (as_in (new_method new.class new.meta new.protocol new.source (method_of new.tree))) (standing_in names sought.Reflection o (method_of new.tree))
reflections-brought names new o =
    let m : EntryOf ℕ = new_method new.class new.meta new.protocol new.source (method_of new.tree) in
    append-nil (reflections_in (number_command_words names) m) ∙ standing-as m o names sought.Reflection
