-- The witnesses of the conditions of arguments are the same once names are changed one to one.
use Rattle.std.proofs.Common.{◌≡◌, ℕ, ◌-◌, Bool, false, not, ◌||◌, List, [], ◌∷◌, map, filter, slice_get, Option, refl, ap, ◌∙◌}
use Rattle.std.specs.List.{list_all}
use Rattle.std.specs.Option.{option_map_or}
use Rattle.tree_model.specs.Tree.{TreeOf, TreesOf, map_names, map_trees, map_method}
use Rattle.tree_model.specs.Path.{nth}
use Rattle.tree_model.proofs.Children.{nth-map_trees}
use Rattle.image_model.specs.Image.{EntryOf, ImageOf, map_entry, map_image}
use Rattle.image_model.specs.Nodes.{NodeOf, image_nodes}
use Rattle.image_model.specs.Uses.{places}
use Rattle.command_model.specs.Asked.{AskedOf}
use Rattle.command_model.specs.ParameterConditions.{passed_by, formal_reads, may_be_dropped}
use Rattle.command_numbers.specs.KeepsAsked.{KeepsAsked}
use Rattle.command_numbers.proofs.Lists.{get-map, all-total, or-total, made-total, flat-total}
use Rattle.command_numbers.proofs.Everywhere.{Every}
use Rattle.command_numbers.proofs.Classes.{same-map}
use Rattle.command_numbers.proofs.UsesAsked.{map_node, places-map}
use Rattle.command_numbers.proofs.ParameterConditionsMapped.{passed_by-map, formal_reads-map, may_be_dropped-map}
use Rattle.refusal_witnesses.specs.Witnesses.{InMethod, WitnessOf, a_node, a_use, a_method}
use Rattle.refusal_witnesses.specs.ParameterWitnesses.{argument_reads_in, argument_reads, passes_plain, other_passings}
use Rattle.witness_numbers.specs.MappedWitnesses.{map_witness}
use Rattle.witness_numbers.proofs.Gathered.{mapped, else-map, uses-map, paths-map}

module _ {M N : Type 0} (f : M → N) (a : AskedOf M) (b : AskedOf N) (keeps : KeepsAsked Every f a b) (i : ImageOf M) (s : M) (k : ℕ) where
  -- where methods read an argument
  argument_reads_in-map : (m : EntryOf M) → argument_reads_in b (map_image f i) (f s) k (map_entry f m) ≡ mapped f (argument_reads_in a i s k m)
  argument_reads_in-map m =
      else-map f (m.kernel || not (a.words.tests.same s m.tree.selector)) (m.kernel || not (b.words.tests.same (f s) (f m.tree.selector))) found found_there (λ j. m.kernel || not (same-map f a.words b.words keeps.words s m.tree.selector j))
      ((λ j. option_map_or reads_there (get-map f m.tree.arguments (k - 1) j) (a_method (map_entry f m) ∷ []))
      ∙ made-total f (map (map_witness f)) reads reads_there (a_method m ∷ []) (a_method (map_entry f m) ∷ []) each refl (slice_get m.tree.arguments (k - 1)))
    where
      reads : M → List (WitnessOf M)
      reads x = map (a_node (InMethod m)) (formal_reads a m.tree x)

      reads_there : N → List (WitnessOf N)
      reads_there x = map (a_node (InMethod (map_entry f m))) (formal_reads b (map_method f m.tree) x)

      found : List (WitnessOf M)
      found = option_map_or reads (slice_get m.tree.arguments (k - 1)) (a_method m ∷ [])

      found_there : List (WitnessOf N)
      found_there = option_map_or reads_there (slice_get (map f m.tree.arguments) (k - 1)) (a_method (map_entry f m) ∷ [])

      each : (x : M) → reads_there (f x) ≡ mapped f (reads x)
      each x = ap (map (a_node (InMethod (map_entry f m)))) (formal_reads-map f a b keeps m.tree x) ∙ paths-map f (InMethod m) (λ (p : List ℕ). p) (formal_reads a m.tree x)

  pub argument_reads-map : argument_reads b (map_image f i) (f s) k ≡ mapped f (argument_reads a i s k)
  argument_reads-map = flat-total (map_entry f) (map_witness f) (argument_reads_in a i s k) (argument_reads_in b (map_image f i) (f s) k) argument_reads_in-map i.methods

  -- what messages pass
  passes_plain-map : (e : NodeOf M) → passes_plain b (map_image f i) (f s) k (map_node f e) ≡ passes_plain a i s k e
  passes_plain-map e =
      ap (list_all plain_there) (passed_by-map f a.words b.words keeps.words s e.tree) ∙ all-total (map_trees f) is_plain plain_there each (passed_by a.words.tests.same s e.tree)
    where
      is_plain : TreesOf M → Bool
      is_plain args = option_map_or (may_be_dropped a i e) (nth args (k - 1)) false

      plain_there : TreesOf N → Bool
      plain_there args = option_map_or (may_be_dropped b (map_image f i) (map_node f e)) (nth args (k - 1)) false

      each : (args : TreesOf M) → plain_there (map_trees f args) ≡ is_plain args
      each args =
          ap (λ (o : Option (TreeOf N)). option_map_or (may_be_dropped b (map_image f i) (map_node f e)) o false) (nth-map_trees f args (k - 1))
          ∙ or-total (map_names f) (may_be_dropped a i e) (may_be_dropped b (map_image f i) (map_node f e)) false (may_be_dropped-map f a b keeps i e) (nth args (k - 1))

  pub other_passings-map : other_passings b (map_image f i) (f s) k ≡ mapped f (other_passings a i s k)
  other_passings-map =
      ap (map (a_use {N = N})) (places-map f a.words b.words keeps.words i (λ (e : NodeOf M). not (passes_plain a i s k e)) (λ (e : NodeOf N). not (passes_plain b (map_image f i) (f s) k e)) (λ e. ap not (passes_plain-map e)))
      ∙ uses-map f (places (filter (λ (e : NodeOf M). not (passes_plain a i s k e)) (image_nodes i)))
