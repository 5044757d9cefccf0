-- Code in which each argument is passed for itself stays as it is.
use Rattle.std.proofs.Common.{◌≡◌, List, [], ◌∷◌, map, Option, Some, None, refl, sym, ap}
use Rattle.std.specs.Prelude.{Bool, true, false, if◌then◌else◌, unwrap_or}
use Rattle.rb_base.specs.Names.{text_eq}
use Rattle.scope_model.specs.SpecialNames.{is_pseudo_variable}
use Rattle.tree_model.specs.Tree.{TreeOf, var, literal, send, cascade, assign, block, brace, return, TreesOf, no_trees, more_trees, trees_of, MessagesOf, no_messages, more_messages, StatementsOf, no_statements, more_statements}
use Rattle.run_model.specs.Values.{Name}
use Rattle.run_model.proofs.RenamingLemmas.{text-same}
use Rattle.resolved_model.specs.Environments.{Declared, opened, kind_in}
use Rattle.unfolded_places.specs.Inlining.{passed_for}
use Rattle.unfolded_places.specs.Fillings.{filled_by, filled_tree, filled_trees, filled_messages, filled_statements}

-- the names themselves
abbrev pub themselves : List Name → TreesOf Name
themselves names = trees_of (map (λ (n : Name). var n) names)

passed-itself : (names : List Name) (n : Name) → unwrap_or (passed_for names (themselves names) n) (var n) ≡ var n
passed-itself [] n = refl
passed-itself (x ∷ xs) n = by (text_eq n x) refl (passed-itself xs n)
  where
    by : (b : Bool) → text_eq n x ≡ b → unwrap_or (passed_for xs (themselves xs) n) (var n) ≡ var n → unwrap_or (if b then Some (var x) else passed_for xs (themselves xs) n) (var n) ≡ var n
    by true e ih = ap (λ y. var y) (sym (text-same n x e))
    by false e ih = ih

module _ (names : List Name) where
  mutual
    pub tree-itself : (inner : List Declared) (t : TreeOf Name) → filled_tree names (themselves names) inner t ≡ t
    tree-itself inner (var n) = by (is_pseudo_variable n) (kind_in inner n)
      where
        by : (b : Bool) (o : Option Bool) → (if b then var n else filled_by names (themselves names) o n) ≡ var n
        by true o = refl
        by false (Some b) = refl
        by false None = passed-itself names n
    tree-itself inner (literal l) = refl
    tree-itself inner (send r s us) = λ i. send (tree-itself inner r i) s (trees-itself inner us i)
    tree-itself inner (cascade r ms) = λ i. cascade (tree-itself inner r i) (messages-itself inner ms i)
    tree-itself inner (assign n t) = ap (assign n) (tree-itself inner t)
    tree-itself inner (block ps ts ss e) = ap (λ x. block ps ts x e) (statements-itself (opened ps ts inner) ss)
    tree-itself inner (brace us) = ap brace (trees-itself inner us)
    tree-itself inner (return t) = ap return (tree-itself inner t)

    trees-itself : (inner : List Declared) (us : TreesOf Name) → filled_trees names (themselves names) inner us ≡ us
    trees-itself inner no_trees = refl
    trees-itself inner (more_trees t us) = λ i. more_trees (tree-itself inner t i) (trees-itself inner us i)

    messages-itself : (inner : List Declared) (ms : MessagesOf Name) → filled_messages names (themselves names) inner ms ≡ ms
    messages-itself inner no_messages = refl
    messages-itself inner (more_messages s us ms) = λ i. more_messages s (trees-itself inner us i) (messages-itself inner ms i)

    statements-itself : (inner : List Declared) (ss : StatementsOf Name) → filled_statements names (themselves names) inner ss ≡ ss
    statements-itself inner no_statements = refl
    statements-itself inner (more_statements c t ss) = λ i. more_statements c (tree-itself inner t i) (statements-itself inner ss i)
