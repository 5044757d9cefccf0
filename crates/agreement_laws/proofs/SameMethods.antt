-- Methods that are told to be the same do the same.
use Rattle.std.proofs.Common.{◌≡◌, ℕ, List, Option, Some, None, refl, sym, ap, ◌∙◌}
use Rattle.std.specs.Prelude.{Bool, true, ◌&&◌, nat_eq}
use Rattle.std.specs.Cmp.Lexicographic.{pointwise}
use Rattle.std.specs.Option.{option_map_or, option_eq}
use Rattle.std.proofs.lemmas.Bool.{false≢true, eqb-true}
use Rattle.std.proofs.lemmas.List.Elements.{All-contains, All-from_recursion}
use Rattle.rb_base.specs.Names.{text_eq}
use Rattle.tree_model.specs.Tree.{TreeOf}
use Rattle.tree_model.specs.Path.{statement_trees, part_in}
use Rattle.tree_model.specs.Nodes.{Placed, nodes}
use Rattle.tree_model.proofs.NodesLemmas.{Contains-part_in}
use Rattle.scope_model.specs.Scope.{method_scope}
use Rattle.image_model.specs.Image.{EntryOf, ImageOf}
use Rattle.image_model.specs.Words.{text_words}
use Rattle.image_model.specs.Means.{MeaningOf, pseudo, argument, temporary, variable, a_class, transcript, undeclared, means}
use Rattle.image_model.specs.Uses.{name_used, same_kind}
use Rattle.run_model.specs.Values.{Name}
use Rattle.run_model.proofs.Finite.{and-true_left, and-true_right}
use Rattle.run_model.proofs.RenamingLemmas.{text-same}
use Rattle.resolved_model.specs.Resolving.{meant_in, resolved_method}
use Rattle.resolved_model.specs.ResolvedImages.{by_code, doing_of, resolved_entry}
use Rattle.mapped_model.proofs.NodesBelow.{among-first}
use Rattle.same_trees.specs.SameTrees.{same_sequence, same_code}
use Rattle.command_model.specs.SameMethods.{same_meaning, means_same_in, is_same_method}
use Rattle.agreement_laws.specs.Reaching.{is_super}
use Rattle.rename_laws.proofs.VariableClasses.{kind-same}
use Rattle.rename_laws.proofs.Unnamed.{each-passes}
use Rattle.agreement_laws.proofs.SameTrees.{names-same, SameScopes, place-same, MeansSame, scope-same}

-- meanings that are told to be one are
meaning-same : (p q : MeaningOf Name) → same_meaning text_eq p q ≡ true → p ≡ q
meaning-same pseudo pseudo h = refl
meaning-same (argument j) (argument k) h = ap argument (eqb-true j k h)
meaning-same (temporary j) (temporary k) h = ap temporary (eqb-true j k h)
meaning-same (variable j c) (variable k d) h = λ i. variable (kind-same j k (and-true_left (same_kind j k) _ h) i) (text-same c d (and-true_right (same_kind j k) _ h) i)
meaning-same (a_class c) (a_class d) h = ap a_class (text-same c d h)
meaning-same transcript transcript h = refl
meaning-same undeclared undeclared h = refl
meaning-same p q h = absurd (false≢true h)

-- numbers that there may be
numbers-same : (o p : Option ℕ) → option_eq nat_eq o p ≡ true → o ≡ p
numbers-same None None h = refl
numbers-same (Some j) (Some k) h = ap Some (eqb-true j k h)
numbers-same o p h = absurd (false≢true h)

module _ (i j : ImageOf Name) (m n : EntryOf Name) (same : is_same_method text_words is_super i j m n ≡ true) where
  code : same_code text_eq m.tree n.tree ≡ true
  code = and-true_left (same_code text_eq m.tree n.tree) _ same

  meanings : means_same_in text_words i m j n ≡ true
  meanings = and-true_right _ (means_same_in text_words i m j n) (and-true_right (same_code text_eq m.tree n.tree) _ same)

  behind_selector : (pointwise text_eq m.tree.arguments n.tree.arguments && (option_eq nat_eq m.tree.primitive n.tree.primitive && same_sequence text_eq m.tree.body n.tree.body)) ≡ true
  behind_selector = and-true_right (text_eq m.tree.selector n.tree.selector) _ code

  behind_arguments : (option_eq nat_eq m.tree.primitive n.tree.primitive && same_sequence text_eq m.tree.body n.tree.body) ≡ true
  behind_arguments = and-true_right (pointwise text_eq m.tree.arguments n.tree.arguments) _ behind_selector

  primitives : m.tree.primitive ≡ n.tree.primitive
  primitives = numbers-same m.tree.primitive n.tree.primitive (and-true_left (option_eq nat_eq m.tree.primitive n.tree.primitive) _ behind_arguments)

  bodies : same_sequence text_eq m.tree.body n.tree.body ≡ true
  bodies = and-true_right (option_eq nat_eq m.tree.primitive n.tree.primitive) _ behind_arguments

  scopes : SameScopes (method_scope m.tree) (method_scope n.tree)
  scopes = record {
    arguments = names-same m.tree.arguments n.tree.arguments (and-true_left (pointwise text_eq m.tree.arguments n.tree.arguments) _ behind_selector);
    temporaries = names-same m.tree.body.temporaries n.tree.body.temporaries (and-true_left (pointwise text_eq m.tree.body.temporaries n.tree.body.temporaries) _ bodies);
    statements = and-true_right (pointwise text_eq m.tree.body.temporaries n.tree.body.temporaries) _ bodies;
  }

  -- each name that a node uses means the same
  node-means : (path : List ℕ) (u : TreeOf Name) → part_in m.tree.body path ≡ Some u → MeansSame (meant_in i m) (meant_in j n) path u
  node-means path u at x e =
      λ k. record { meaning = told k; place = place-same (method_scope m.tree) (method_scope n.tree) scopes path x k }
    where
      test : Placed Name → Bool
      test p = option_map_or (λ y. same_meaning text_eq (means text_words i m p.0 y) (means text_words j n p.0 y)) (name_used p.1) true

      here : test (path, u) ≡ true
      here = All-contains (λ p. test p ≡ true) (nodes m.tree.body) (path, u) (All-from_recursion (λ p. test p ≡ true) (nodes m.tree.body) (each-passes test (nodes m.tree.body) meanings)) (Contains-part_in m.tree.body path u at)

      told : means text_words i m path x ≡ means text_words j n path x
      told = meaning-same (means text_words i m path x) (means text_words j n path x) (sym (ap (λ o. option_map_or (λ y. same_meaning text_eq (means text_words i m path y) (means text_words j n path y)) o true) e) ∙ here)

  -- once names are resolved
  method-same : resolved_method i m ≡ resolved_method j n
  unfolding resolved_method
  method-same = scope-same (method_scope m.tree) (method_scope n.tree) (meant_in i m) (meant_in j n) scopes (among-first (MeansSame (meant_in i m) (meant_in j n)) (statement_trees m.tree.body.statements) node-means)

  doing-by : (p : Option ℕ) → doing_of j n p ≡ doing_of i m p
  doing-by (Some k) = refl
  doing-by None = ap by_code (sym method-same)

  -- what they do
  pub doing-same : (resolved_entry j n).doing ≡ (resolved_entry i m).doing
  doing-same = ap (doing_of j n) (sym primitives) ∙ doing-by m.tree.primitive
