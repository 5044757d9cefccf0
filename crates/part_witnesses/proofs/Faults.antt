-- The nodes of a part that have a fault.
use Rattle.std.proofs.Common.{◌≡◌, ℕ, ◌&&◌, Bool, true, false, cond, not, List, [], ◌∷◌, map, refl, ap, ◌∙◌}
use Rattle.std.specs.Prelude.{filter}
use Rattle.tree_model.specs.Nodes.{Placed, nodes}
use Rattle.st_tree.specs.View.{method_of}
use Rattle.image_model.specs.Image.{EntryOf}
use Rattle.command_model.specs.Parts.{inside_from, is_within}
use Rattle.command_model.specs.Places.{part_nodes, is_return}
use Rattle.commands.specs.Views.{asked_by}
use Rattle.part_questions.specs.declared.faults.Asked.{Asked}
use Rattle.part_questions.specs.declared.faults.Fault.{Fault}
use Rattle.part_questions.specs.declared.faults.Fault.TheVariants as fault
use Rattle.part_questions.specs.Faults.{is_at_fault, has_fault}
use Rattle.part_questions.specs.Parts.{part_of}
use Rattle.refusal_witnesses.specs.PartWitnesses.{assigns_outer, is_node_steady}
use Rattle.refusal_witnesses.specs.Witnesses.{OwnerOf, InMethod, WitnessOf, a_node}
use Rattle.part_witnesses.specs.Standing.{fault_standing}

-- a test of the items that are kept
filter-kept : {X : Type 0} (kept p : X → Bool) (xs : List X) → filter (λ x. kept x && p x) xs ≡ filter p (filter kept xs)
filter-kept kept p [] = refl
filter-kept {X} kept p (x ∷ xs) = ap (λ (ys : List X). cond (kept x && p x) (x ∷ ys) ys) (filter-kept kept p xs) ∙ by (kept x)
  where
    by : (b : Bool) → cond (b && p x) (x ∷ filter p (filter kept xs)) (filter p (filter kept xs)) ≡ filter p (cond b (x ∷ filter kept xs) (filter kept xs))
    by true = refl
    by false = refl

module _ (it : Asked) (o : OwnerOf ℕ) where
  -- nodes by their paths
  abbrev shown_nodes : List (Placed ℕ) → List (WitnessOf ℕ)
  shown_nodes es = map (λ (e : Placed ℕ). a_node o e.0) es

  -- those of a method that are in the part and have the fault
  abbrev pub faulty : Fault → List (WitnessOf ℕ)
  faulty what = shown_nodes (filter (is_at_fault it what) (nodes (method_of it.method.now).body))

  faulty-kept : (what : Fault) → faulty what ≡ shown_nodes (filter (has_fault it what) (part_nodes (method_of it.method.now) (part_of it.part.now)))
  faulty-kept what = ap shown_nodes (filter-kept (λ (e : Placed ℕ). is_within (part_of it.part.now) e.0) (has_fault it what) (nodes (method_of it.method.now).body))

  -- they are those of the definition
  pub fault-told : (what : Fault) (m : EntryOf ℕ) → method_of it.method.now ≡ m.tree → o ≡ InMethod m → faulty what ≡ fault_standing it.names.now what m (part_of it.part.now)
  fault-told fault.Return m same at =
      faulty-kept fault.Return
      ∙ (λ j. map (λ (e : Placed ℕ). a_node (at j) e.0) (filter (λ (e : Placed ℕ). is_return e.1) (part_nodes (same j) (part_of it.part.now))))
  fault-told fault.AssignsOuter m same at =
      faulty-kept fault.AssignsOuter
      ∙ (λ j. map (λ (e : Placed ℕ). a_node (at j) e.0) (filter (assigns_outer (asked_by it.names.now) (same j) (inside_from (part_of it.part.now))) (part_nodes (same j) (part_of it.part.now))))
  fault-told fault.Unsteady m same at =
      faulty-kept fault.Unsteady
      ∙ (λ j. map (λ (e : Placed ℕ). a_node (at j) e.0) (filter (λ (e : Placed ℕ). not (is_node_steady (asked_by it.names.now) (same j) (inside_from (part_of it.part.now)) e)) (part_nodes (same j) (part_of it.part.now))))
