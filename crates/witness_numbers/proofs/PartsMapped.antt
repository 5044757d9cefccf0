-- The witnesses of the conditions of a part that is taken out are the same once names are changed one to one.
use Rattle.std.proofs.Common.{◌≡◌, ℕ, zero, suc, Bool, not, List, [], ◌∷◌, ◌++◌, map, filter, take, drop, Option, refl, ap, ◌∙◌}
use Rattle.std.specs.Option.{option_map_or}
use Rattle.std.specs.Prelude.{if◌then◌else◌}
use Rattle.tree_model.specs.Tree.{TreeOf, TreesOf, no_trees, more_trees, map_names, map_trees, map_sequence, map_method}
use Rattle.tree_model.specs.Path.{children, child, part_in}
use Rattle.tree_model.specs.Nodes.{Placed}
use Rattle.tree_model.proofs.Children.{children-map_names, child-map_names}
use Rattle.tree_model.proofs.Parts.{part_in-map_sequence}
use Rattle.image_model.specs.Image.{EntryOf, ImageOf, map_entry, map_image}
use Rattle.command_model.specs.Parts.{Part, Expression, Run, inside_from}
use Rattle.command_model.specs.Asked.{AskedOf}
use Rattle.command_model.specs.Places.{part_nodes, is_return, innermost}
use Rattle.command_model.specs.PartConditions.{is_value_unused, is_part, assigns_outer, is_node_steady}
use Rattle.command_numbers.proofs.Lists.{or-total}
use Rattle.command_numbers.proofs.Everywhere.{Every}
use Rattle.command_numbers.proofs.NodesAsked.{mapped_node}
use Rattle.code_command_numbers.specs.KeepsMoves.{KeepsMoves}
use Rattle.code_command_numbers.proofs.PlacesMapped.{innermost-map, part_nodes-map, is_return-map}
use Rattle.code_command_numbers.proofs.PartConditionsMapped.{is_value_unused-map, is_before_sends-map, is_part-map, assigns_outer-map, is_node_steady-map, is_plain-map}
use Rattle.refusal_witnesses.specs.Witnesses.{InMethod, APart, a_node}
use Rattle.refusal_witnesses.specs.PartWitnesses.{part_nodes_that, returns_in, used_value, no_part, outer_assignments, unsteady, not_plain, before_it, before_expression, evaluated_before}
use Rattle.witness_numbers.proofs.Gathered.{mapped, where-map, paths-map, chosen_nodes-map}

module _ {M N : Type 0} (f : M → N) where
  -- the nodes of a part that pass tests which agree
  part_nodes_that-map : (p : Placed M → Bool) (q : Placed N → Bool) → ((e : Placed M) → q (mapped_node f e) ≡ p e) → (m : EntryOf M) (part : Part) → part_nodes_that q (map_entry f m) part ≡ mapped f (part_nodes_that p m part)
  part_nodes_that-map p q e m part =
      ap (λ (es : List (Placed N)). map (λ (x : Placed N). a_node (InMethod (map_entry f m)) x.0) (filter q es)) (part_nodes-map f m.tree part)
      ∙ chosen_nodes-map f p q e (InMethod m) (part_nodes m.tree part)

  pub returns_in-map : (m : EntryOf M) (part : Part) → returns_in (map_entry f m) part ≡ mapped f (returns_in m part)
  returns_in-map = part_nodes_that-map (λ e. is_return e.1) (λ e. is_return e.1) (λ e. is_return-map f e.1)

  pub used_value-map : (m : EntryOf M) (part : Part) → used_value (map_entry f m) part ≡ mapped f (used_value m part)
  used_value-map m part =
      where-map f (not (is_value_unused m.tree part)) (not (is_value_unused (map_method f m.tree) part)) (APart (InMethod m) part) (APart (InMethod (map_entry f m)) part) (ap not (is_value_unused-map f m.tree part)) refl

module _ {M N : Type 0} (f : M → N) (a : AskedOf M) (b : AskedOf N) (keeps : KeepsMoves Every f a b) where
  pub no_part-map : (m : EntryOf M) (part : Part) → no_part b (map_entry f m) part ≡ mapped f (no_part a m part)
  no_part-map m part =
      where-map f (not (is_part a m.tree part)) (not (is_part b (map_method f m.tree) part)) (APart (InMethod m) part) (APart (InMethod (map_entry f m)) part) (ap not (is_part-map f a b keeps m.tree part)) refl

  pub outer_assignments-map : (m : EntryOf M) (part : Part) → outer_assignments b (map_entry f m) part ≡ mapped f (outer_assignments a m part)
  outer_assignments-map m part =
      part_nodes_that-map f (assigns_outer a m.tree (inside_from part)) (assigns_outer b (map_method f m.tree) (inside_from part)) (assigns_outer-map f a b keeps m.tree (inside_from part)) m part

  pub unsteady-map : (m : EntryOf M) (part : Part) → unsteady b (map_entry f m) part ≡ mapped f (unsteady a m part)
  unsteady-map m part =
      part_nodes_that-map f (λ (e : Placed M). not (is_node_steady a m.tree (inside_from part) e)) (λ (e : Placed N). not (is_node_steady b (map_method f m.tree) (inside_from part) e))
      (λ e. ap not (is_node_steady-map f a b keeps m.tree (inside_from part) e)) m part

  -- what is evaluated before a part
  module _ (i : ImageOf M) (m : EntryOf M) (path : List ℕ) where
    not_plain-map : (at : List ℕ) (j k : ℕ) (ts : TreesOf M) → not_plain b (map_image f i) (map_entry f m) path at j k (map_trees f ts) ≡ not_plain a i m path at j k ts
    not_plain-map at j zero ts = refl
    not_plain-map at j (suc k) no_trees = refl
    not_plain-map at j (suc k) (more_trees t ts) = λ l. (if is_plain-map f a b keeps i m path t l then [] else (at ++ j ∷ []) ∷ []) ++ not_plain-map at (suc j) k ts l

    before_it-map : (at : List ℕ) (t : TreeOf M) (ks : List ℕ) → before_it b (map_image f i) (map_entry f m) path at (map_names f t) ks ≡ before_it a i m path at t ks
    before_it-map at t [] = refl
    before_it-map at t (k ∷ ks) =
        λ j. (if is_before_sends-map f t k j then [] else at ∷ [])
        ++ ((ap (not_plain b (map_image f i) (map_entry f m) path at 0 k) (children-map_names f t) ∙ not_plain-map at 0 k (children t)) j
        ++ (ap (λ (o : Option (TreeOf N)). option_map_or (λ c. before_it b (map_image f i) (map_entry f m) path (at ++ k ∷ []) c ks) o (at ∷ [])) (child-map_names f t k)
        ∙ or-total (map_names f) (λ c. before_it a i m path (at ++ k ∷ []) c ks) (λ c. before_it b (map_image f i) (map_entry f m) path (at ++ k ∷ []) c ks) (at ∷ []) (λ c. before_it-map (at ++ k ∷ []) c ks) (child t k)) j)

    -- in the innermost statement, to whose sequence so many steps lead
    abbrev in_statement : ℕ → List (List ℕ)
    in_statement k = option_map_or (λ t. before_it a i m path (take (suc k) path) t (drop (suc k) path)) (part_in m.tree.body (take (suc k) path)) (path ∷ [])

    abbrev in_statement_there : ℕ → List (List ℕ)
    in_statement_there k = option_map_or (λ t. before_it b (map_image f i) (map_entry f m) path (take (suc k) path) t (drop (suc k) path)) (part_in (map_sequence f m.tree.body) (take (suc k) path)) (path ∷ [])

    in_statement-map : (k : ℕ) → in_statement_there k ≡ in_statement k
    in_statement-map k =
        ap (λ (o : Option (TreeOf N)). option_map_or (λ t. before_it b (map_image f i) (map_entry f m) path (take (suc k) path) t (drop (suc k) path)) o (path ∷ [])) (part_in-map_sequence f m.tree.body (take (suc k) path))
        ∙ or-total (map_names f) (λ t. before_it a i m path (take (suc k) path) t (drop (suc k) path)) (λ t. before_it b (map_image f i) (map_entry f m) path (take (suc k) path) t (drop (suc k) path)) (path ∷ [])
        (λ t. before_it-map (take (suc k) path) t (drop (suc k) path)) (part_in m.tree.body (take (suc k) path))

    before_expression-map : before_expression b (map_image f i) (map_entry f m) path ≡ before_expression a i m path
    before_expression-map =
        ap (λ (o : Option (TreeOf N)). option_map_or before_there o (path ∷ [])) (part_in-map_sequence f m.tree.body path)
        ∙ or-total (map_names f) before before_there (path ∷ []) each (part_in m.tree.body path)
      where
        before : TreeOf M → List (List ℕ)
        before t = if is_return t then path ∷ [] else in_statement (innermost m.tree path)

        before_there : TreeOf N → List (List ℕ)
        before_there t = if is_return t then path ∷ [] else in_statement_there (innermost (map_method f m.tree) path)

        each : (t : TreeOf M) → before_there (map_names f t) ≡ before t
        each t = λ j. if is_return-map f t j then path ∷ [] else (ap in_statement_there (innermost-map f m.tree path) ∙ in_statement-map (innermost m.tree path)) j

  pub evaluated_before-map : (i : ImageOf M) (m : EntryOf M) (part : Part) → evaluated_before b (map_image f i) (map_entry f m) part ≡ mapped f (evaluated_before a i m part)
  evaluated_before-map i m (Expression path) = ap (map (a_node (InMethod (map_entry f m)))) (before_expression-map i m path) ∙ paths-map f (InMethod m) (λ (p : List ℕ). p) (before_expression a i m path)
  evaluated_before-map i m (Run path first count) = refl
