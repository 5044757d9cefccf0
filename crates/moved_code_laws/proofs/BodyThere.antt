-- The expression that a method answers may stand in place of a message where the command says so.
use Rattle.std.proofs.Common.{◌≡◌, ℕ, List, [], ◌∷◌, length, Some, None, refl, sym, ap, ◌∙◌, subst, arith}
use Rattle.std.specs.Prelude.{Bool, true, false, not, ◌&&◌, ◌||◌, if◌then◌else◌, nat_lt, codes, unwrap_or}
use Rattle.std.specs.List.{list_any, list_all}
use Rattle.std.specs.Option.{option_map_or}
use Rattle.std.proofs.lemmas.Bool.{false≢true, lt-ltb}
use Rattle.rb_base.specs.Names.{text_eq}
use Rattle.tree_model.specs.Tree.{TreeOf, var, literal, send, cascade, assign, block, brace, return, no_trees, no_statements, more_statements, SequenceOf, Notes}
use Rattle.tree_model.specs.Path.{count, statement_trees, part_at, part_among, part_in}
use Rattle.tree_model.specs.Nodes.{Placed, nodes}
use Rattle.tree_model.proofs.NodesLemmas.{Contains-part_in}
use Rattle.scope_model.specs.declared.local.Local.{Local}
use Rattle.scope_model.specs.declared.local.Local.TheVariants.{Argument, Temporary, NotLocal}
use Rattle.scope_model.specs.SpecialNames.{is_pseudo_variable}
use Rattle.scope_model.specs.Scope.{PlacedScope, method_scope, scopes_round, local_in, local_by}
use Rattle.scope_model.specs.FreeNames.{free_names}
use Rattle.image_model.specs.Image.{EntryOf, ImageOf}
use Rattle.image_model.specs.Words.{text_words}
use Rattle.image_model.specs.Means.{MeaningOf, pseudo, means_by, means_outside, means}
use Rattle.image_model.specs.Uses.{name_used}
use Rattle.run_model.specs.Values.{Name}
use Rattle.run_model.proofs.Finite.{by_cases}
use Rattle.resolved_model.specs.Resolving.{below}
use Rattle.resolved_model.specs.Environments.{declared_in}
use Rattle.resolved_model.proofs.ResolvingLemmas.{IsInScopes, AreInScopes, below-node, first-node}
use Rattle.rename_laws.specs.BehindKernel.{is_fixed, AssignsNothingFixed}
use Rattle.rename_laws.proofs.Unnamed.{each-passes, fact-of}
use Rattle.parameter_laws.proofs.UnreadImages.{node-fails}
use Rattle.unfolded_calls.specs.SameContexts.{IsOutside}
use Rattle.unfolded_places.specs.Fillings.{filled_tree, MayFill}
use Rattle.command_model.specs.Asked.{text_asked}
use Rattle.command_model.specs.SameMethods.{same_meaning, is_super_node, has_super}
use Rattle.command_model.specs.Places.{SendOf, is_return, is_formal, is_of_block}
use Rattle.command_model.specs.Walk.{onward, rebuilt}
use Rattle.command_model.specs.Inlined.{passed_as, filled}
use Rattle.command_model.specs.InlineConditions.{captures_nothing}
use Rattle.moved_code_laws.proofs.Saying.{alone, said, within, said-within, own_round, in-own}
use Rattle.moved_code_laws.proofs.FilledThere.{Fills, tree-filled}
use Rattle.moved_code_laws.proofs.MayStand.{IsKeptName, IsFine, tree-may}

-- a test that each node passes
pub node-passes : (p : Placed Name → Bool) (b : SequenceOf Name) → list_all p (nodes b) ≡ true → (path : List ℕ) (u : TreeOf Name) → part_in b path ≡ Some u → p (path, u) ≡ true
node-passes p b e path u q = fact-of (λ x. p x ≡ true) (nodes b) (path, u) (each-passes p (nodes b) e) (Contains-part_in b path u q)

-- what is not fixed is neither a pseudo-variable nor an argument
pub not-fixed : (b : Bool) (l : Local) (g : MeaningOf Name) → is_fixed (if b then pseudo else means_by (if b then NotLocal else l) g) ≡ false → (b ≡ false) × ((k : ℕ) → (if b then NotLocal else l) ≡ Argument k → ⊥)
not-fixed true l g e = absurd (false≢true (sym e))
not-fixed false (Argument k) g e = absurd (false≢true (sym e))
not-fixed false (Temporary k) g e = (refl, λ j q. cc)
not-fixed false NotLocal g e = (refl, λ j q. cc)

module _ (i : ImageOf Name) (m : EntryOf Name) (e : SendOf Name) (target : EntryOf Name) where
  abbrev outer_before : Name → MeaningOf Name
  outer_before n = means_outside text_words i target.class target.meta n

  abbrev outer_after : Name → MeaningOf Name
  outer_after n = means_outside text_words i m.class m.meta n

  abbrev round : List (PlacedScope Name)
  round = scopes_round (method_scope m.tree) e.path

  abbrev supers : Bool
  supers = has_super (text_eq (codes "super")) target

  -- a name that may be moved
  kept-so : (path : List ℕ) (n : Name) →
      option_map_or (λ t. not (list_any (λ x. is_of_block (local_in text_eq is_pseudo_variable target.tree path x)) (free_names text_eq is_pseudo_variable t))) (if is_formal (local_in text_eq is_pseudo_variable target.tree path n) then passed_as text_eq target.tree.arguments e.arguments n else None)
      (is_of_block (local_in text_eq is_pseudo_variable target.tree path n) || same_meaning text_eq (means text_words i target path n) (means text_words i m e.path n)) ≡ true →
      IsKeptName target.tree e.arguments outer_before outer_after round supers (λ x. said (within target.tree path x)) n
  kept-so path n h =
      (λ k. option_map_or (λ t. not (list_any (λ x. is_of_block (said-within target.tree path x k)) (free_names text_eq is_pseudo_variable t))) (if is_formal (said-within target.tree path n k) then passed_as text_eq target.tree.arguments e.arguments n else None)
      (is_of_block (said-within target.tree path n k) || same_meaning text_eq (if is_pseudo_variable n then pseudo else means_by (said-within target.tree path n k) (outer_before n)) (means text_words i m e.path n)))
      ∙ h

  module _ (captures : captures_nothing text_asked i m e target ≡ true) (inside : list_any (λ (x : Placed Name). is_return x.1 && nat_lt 1 (length x.0)) (nodes target.tree.body) ≡ false) (fixed : AssignsNothingFixed (means text_words i target) target.tree.body) where
    name-kept : (path : List ℕ) (u : TreeOf Name) → part_in target.tree.body path ≡ Some u → (n : Name) → name_used u ≡ Some n → IsKeptName target.tree e.arguments outer_before outer_after round supers (λ x. said (within target.tree path x)) n
    name-kept path u q n used =
        kept-so path n
        (sym (ap (λ o. option_map_or (λ y. option_map_or (λ t. not (list_any (λ x. is_of_block (local_in text_eq is_pseudo_variable target.tree path x)) (free_names text_eq is_pseudo_variable t))) (if is_formal (local_in text_eq is_pseudo_variable target.tree path y) then passed_as text_eq target.tree.arguments e.arguments y else None)
        (is_of_block (local_in text_eq is_pseudo_variable target.tree path y) || same_meaning text_eq (means text_words i target path y) (means text_words i m e.path y))) o true) used)
        ∙ node-passes _ target.tree.body captures path u q)

    -- a node that is no return
    pub node-fine : (path : List ℕ) (u : TreeOf Name) → part_in target.tree.body path ≡ Some u → is_return u ≡ false → IsFine target.tree e.arguments outer_before outer_after round supers (within target.tree path) u
    node-fine path u q none = record {
      name = name-kept path u q;
      loose = λ n t r.
          let so = not-fixed (is_pseudo_variable n) (local_by text_eq (scopes_round (method_scope target.tree) path) n) (outer_before n) (fixed path n t (q ∙ ap Some r)) in
          (so.0, λ k a. so.1 k (sym (said-within target.tree path n) ∙ a));
      no_return = none;
      above = λ r. by_cases supers (λ t. t) (λ f. absurd (false≢true (sym (node-fails (λ (x : Placed Name). is_super_node (text_eq (codes "super")) x.1) target.tree.body f path u q) ∙ ap (is_super_node (text_eq (codes "super"))) r)));
    }

    -- below a statement no node is one
    pub no-return : (j k : ℕ) (path : List ℕ) (u : TreeOf Name) → part_in target.tree.body (j ∷ k ∷ path) ≡ Some u → is_return u ≡ false
    no-return j k path u q =
        by_cases (is_return u)
        (λ t. absurd (false≢true (sym (node-fails (λ (x : Placed Name). is_return x.1 && nat_lt 1 (length x.0)) target.tree.body inside (j ∷ k ∷ path) u q) ∙ (λ z. t z && nat_lt 1 (length (j ∷ k ∷ path))) ∙ lt-ltb 1 (length (j ∷ k ∷ path)) (omega arith)))) (λ f. f)

    -- the expression, by paths and by what is declared round it
    pub fills : Fills target.tree e.arguments (filled text_asked target.tree e.arguments) (within target.tree)
    fills path (var n) = ap (λ l. unwrap_or (if is_formal l then passed_as text_eq target.tree.arguments e.arguments n else None) (var n)) (sym (said-within target.tree path n))
    fills path (literal l) = refl
    fills path (send r s args) = refl
    fills path (cascade r ms) = refl
    fills path (assign n t) = refl
    fills path (block ps ts ss c) = refl
    fills path (brace ts) = refl
    fills path (return t) = refl

    module _ (note : Notes) (answer : TreeOf Name) (answers : target.tree.body.statements ≡ more_statements note (return answer) no_statements) where
      -- what names stand for below the answer
      in-answer : IsInScopes alone 2 answer (own_round target.tree) (below 0 (below 0 (within target.tree)))
      in-answer =
          let one = subst (λ ss. AreInScopes alone 1 (statement_trees ss) 0 (own_round target.tree) (within target.tree)) answers (in-own target.tree) in
          let two = first-node alone 1 (return answer) no_trees 0 (own_round target.tree) (within target.tree) one in
          first-node alone 2 answer no_trees 0 (own_round target.tree) (below 0 (within target.tree)) (below-node alone 1 (return answer) (own_round target.tree) (below 0 (within target.tree)) two)

      pub answer-filled : rebuilt (onward 0 (onward 0 (filled text_asked target.tree e.arguments))) answer ≡ filled_tree target.tree.arguments e.arguments [] answer
      answer-filled = tree-filled target.tree e.arguments answer (onward 0 (onward 0 (filled text_asked target.tree e.arguments))) 2 [] (below 0 (below 0 (within target.tree))) (omega arith) tt (λ path u. fills (0 ∷ 0 ∷ path) u) in-answer

      -- it may stand there
      answer-part : (path : List ℕ) (u : TreeOf Name) → part_at answer path ≡ Some u → part_in target.tree.body (0 ∷ 0 ∷ path) ≡ Some u
      answer-part path u q = ap (λ ss. part_among (statement_trees ss) (0 ∷ 0 ∷ path)) answers ∙ q

      pub answer-may : (outside : (n : Name) → IsOutside (outer_before n)) → target.tree.body.temporaries ≡ [] → length target.tree.arguments ≡ count e.arguments →
          MayFill (record { arguments = target.tree.arguments; passed = e.arguments; before = outer_before; after = outer_after; round = declared_in round }) supers (λ s. false) [] answer
      answer-may outside none counted =
          tree-may target.tree e.arguments outer_before outer_after round supers outside none counted answer 2 [] (below 0 (below 0 (within target.tree))) (omega arith) tt in-answer (λ path u q. node-fine (0 ∷ 0 ∷ path) u (answer-part path u q) (no-return 0 0 path u (answer-part path u q)))
