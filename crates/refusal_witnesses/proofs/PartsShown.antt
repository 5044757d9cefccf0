-- The conditions of a part hold just where the part is there and nothing is in their way.
use Rattle.std.proofs.Common.{◌≡◌, ℕ, zero, suc, List, [], ◌∷◌, ◌++◌, Option, refl, sym, ◌∙◌}
use Rattle.std.specs.Prelude.{Bool, true, false, cond, not, ◌&&◌, filter, take, drop}
use Rattle.std.specs.List.{list_any}
use Rattle.std.specs.Option.{option_map_or}
use Rattle.tree_model.specs.Tree.{TreeOf, TreesOf, no_trees, more_trees}
use Rattle.tree_model.specs.Path.{child, children, part_in}
use Rattle.tree_model.specs.Nodes.{Placed}
use Rattle.scope_model.specs.Control.{is_empty}
use Rattle.image_model.specs.Image.{EntryOf, ImageOf}
use Rattle.command_model.specs.Asked.{AskedOf}
use Rattle.command_model.specs.Parts.{Part, Expression, Run, inside_from}
use Rattle.command_model.specs.Places.{part_nodes, is_return, innermost}
use Rattle.command_model.specs.Plain.{is_plain}
use Rattle.command_model.specs.PartConditions.{is_part, has_no_return, assigns_no_outer, are_temporaries_steady, is_value_unused, is_first_evaluated}
use Rattle.refusal_witnesses.specs.Witnesses.{InMethod, WitnessOf, APart, a_node}
use Rattle.refusal_witnesses.specs.PartWitnesses.{part_nodes_that, no_part, returns_in, outer_assignments, unsteady, used_value, evaluated_before, assigns_outer, is_node_steady, is_before_sends, not_plain, before_it, before_expression}
use Rattle.refusal_witnesses.proofs.Lists.{empty-map, empty-filter, empty-failing, two-all, empty-unless, failing-option}

module _ {N : Type 0} where
  empty-part-nodes : (test : Placed N → Bool) (m : EntryOf N) (part : Part) → not (list_any test (part_nodes m.tree part)) ≡ is_empty (part_nodes_that test m part)
  empty-part-nodes test m part =
      let found : Placed N → WitnessOf N = λ e. a_node (InMethod m) e.0 in
      sym (empty-map found (filter test (part_nodes m.tree part)) ∙ empty-filter test (part_nodes m.tree part))

  pub shows-returns : (m : EntryOf N) (part : Part) → has_no_return m.tree part ≡ is_empty (returns_in m part)
  shows-returns m part = empty-part-nodes (λ e. is_return e.1) m part

  pub shows-used-value : (m : EntryOf N) (part : Part) → is_value_unused m.tree part ≡ is_empty (used_value m part)
  shows-used-value m part = sym (empty-unless (is_value_unused m.tree part) (APart (InMethod m) part))

module _ {N : Type 0} (a : AskedOf N) where
  pub shows-no-part : (m : EntryOf N) (part : Part) → is_part a m.tree part ≡ is_empty (no_part a m part)
  shows-no-part m part = sym (empty-unless (is_part a m.tree part) (APart (InMethod m) part))

  pub shows-outer-assignments : (m : EntryOf N) (part : Part) → assigns_no_outer a m.tree part ≡ is_empty (outer_assignments a m part)
  shows-outer-assignments m part = empty-part-nodes (assigns_outer a m.tree (inside_from part)) m part

  pub shows-unsteady : (m : EntryOf N) (part : Part) → are_temporaries_steady a m.tree part ≡ is_empty (unsteady a m part)
  shows-unsteady m part =
      let steady : Placed N → Bool = is_node_steady a m.tree (inside_from part) in
      let found : Placed N → WitnessOf N = λ e. a_node (InMethod m) e.0 in
      sym (empty-map found (filter (λ e. not (steady e)) (part_nodes m.tree part)) ∙ empty-failing steady (part_nodes m.tree part))

  module _ (i : ImageOf N) (m : EntryOf N) (path : List ℕ) where
    -- what is private where it stands
    abbrev are_first_plain : ℕ → TreesOf N → Bool
    are_first_plain zero ts = true
    are_first_plain (suc k) no_trees = true
    are_first_plain (suc k) (more_trees t ts) = is_plain a i m path t && are_first_plain k ts

    abbrev is_plain_before : TreeOf N → List ℕ → Bool
    is_plain_before t [] = true
    is_plain_before t (k ∷ ks) =
        is_before_sends t k && (are_first_plain k (children t) && option_map_or (λ c. is_plain_before c ks) (child t k) false)

    unless : {X : Type 0} (b : Bool) (x : X) → is_empty (cond b [] (x ∷ [])) ≡ b
    unless true x = refl
    unless false x = refl

    plain-first : (at : List ℕ) (j k : ℕ) (ts : TreesOf N) → is_empty (not_plain a i m path at j k ts) ≡ are_first_plain k ts
    plain-first at j zero ts = refl
    plain-first at j (suc k) no_trees = refl
    plain-first at j (suc k) (more_trees t ts) =
        two-all (cond (is_plain a i m path t) [] ((at ++ j ∷ []) ∷ [])) (not_plain a i m path at (suc j) k ts) (is_plain a i m path t) (are_first_plain k ts)
        (unless (is_plain a i m path t) (at ++ j ∷ [])) (plain-first at (suc j) k ts)

    plain-before : (at : List ℕ) (t : TreeOf N) (ks : List ℕ) → is_plain_before t ks ≡ is_empty (before_it a i m path at t ks)
    plain-before at t [] = refl
    plain-before at t (k ∷ ks) =
        let deeper : TreeOf N → List (List ℕ) = λ c. before_it a i m path (at ++ k ∷ []) c ks in
        let others : List (List ℕ) = not_plain a i m path at 0 k (children t) in
        let further : List (List ℕ) = option_map_or deeper (child t k) (at ∷ []) in
        let further_plain : Bool = option_map_or (λ c. is_plain_before c ks) (child t k) false in
        sym (two-all (cond (is_before_sends t k) [] (at ∷ [])) (others ++ further) (is_before_sends t k) (are_first_plain k (children t) && further_plain)
        (unless (is_before_sends t k) at)
        (two-all others further (are_first_plain k (children t)) further_plain (plain-first at 0 k (children t))
        (sym (failing-option (λ c. is_plain_before c ks) deeper at (λ c. plain-before (at ++ k ∷ []) c ks) (child t k)))))

    abbrev steps : ℕ
    steps = suc (innermost m.tree path)

    abbrev statement : Option (TreeOf N)
    statement = part_in m.tree.body (take steps path)

    abbrev is_statement_plain : Bool
    is_statement_plain = option_map_or (λ s. is_plain_before s (drop steps path)) statement false

    abbrev before_statement : List (List ℕ)
    before_statement = option_map_or (λ s. before_it a i m path (take steps path) s (drop steps path)) statement (path ∷ [])

    plain-statement : (b : Bool) → (not b && is_statement_plain) ≡ is_empty (cond b (path ∷ []) before_statement)
    plain-statement true = refl
    plain-statement false =
        failing-option (λ s. is_plain_before s (drop steps path)) (λ s. before_it a i m path (take steps path) s (drop steps path)) path
        (λ s. plain-before (take steps path) s (drop steps path)) statement

    plain-expression : is_first_evaluated a i m (Expression path) ≡ is_empty (before_expression a i m path)
    plain-expression =
        failing-option (λ t. not (is_return t) && is_statement_plain) (λ t. cond (is_return t) (path ∷ []) before_statement) path (λ t. plain-statement (is_return t)) (part_in m.tree.body path)

  pub shows-evaluated-before : (i : ImageOf N) (m : EntryOf N) (part : Part) → is_first_evaluated a i m part ≡ is_empty (evaluated_before a i m part)
  shows-evaluated-before i m (Expression path) = plain-expression i m path ∙ sym (empty-map (a_node (InMethod m)) (before_expression a i m path))
  shows-evaluated-before i m (Run path first count) = refl
