-- Trees with changed names, once their names are resolved.
use Rattle.std.proofs.Common.{◌≡◌, ℕ, suc, ◌+◌, List, [], refl, ap, ◌∙◌}
use Rattle.image_model.proofs.Lists.{length-map}
use Rattle.tree_model.specs.Tree.{TreeOf, var, literal, send, cascade, assign, block, brace, return, TreesOf, no_trees, more_trees, MessagesOf, no_messages, more_messages, StatementsOf, no_statements, more_statements}
use Rattle.tree_model.specs.Path.{count, all_arguments, statement_trees}
use Rattle.scope_model.specs.Scope.{ScopeOf}
use Rattle.run_model.specs.Values.{Name}
use Rattle.resolved_model.specs.ResolvedTrees.{reading, sending, cascading, assigning, block_of, brace_of, returning, more_nodes, more_sends, more_lines}
use Rattle.resolved_model.specs.Resolving.{MeantAt, below, resolved, resolved_trees, resolved_messages, resolved_statements, resolved_scope}
use Rattle.mapped_model.specs.NameMaps.{NameMaps}
use Rattle.mapped_model.specs.MappedImages.{mapped_tree, mapped_trees, mapped_messages, mapped_statements, mapped_code}
use Rattle.mapped_model.proofs.NodesBelow.{Below, Among, among-first, below-children, first-below, others-below, first-message, other-messages}
use Rattle.mapped_model.specs.ChangedTrees.{NewNames, further, changed, changed_trees, changed_messages, changed_statements, changed_scope, IsMappedAt, MeaningsAreMapped}

module _ (f : NameMaps) (owner : Name) where
  -- as many nodes
  count-changed : (to : NewNames) (k : ℕ) (ts : TreesOf Name) → count (changed_trees to f.selector k ts) ≡ count ts
  count-changed to k no_trees = refl
  count-changed to k (more_trees t ts) = ap (λ c. c + 1) (count-changed to (suc k) ts)

  -- what a name means at a path is mapped
  abbrev At : NewNames → MeantAt → MeantAt → List ℕ → TreeOf Name → Type 0
  At to before after path u = IsMappedAt f owner (before path) (after path) (to path) u

  mutual
    -- a node
    changed-tree : (t : TreeOf Name) (to : NewNames) (before after : MeantAt) → Below (At to before after) t → resolved after (changed to f.selector t) ≡ mapped_tree f owner (resolved before t)
    changed-tree (var n) to before after h = ap reading ((h [] (var n) refl).read n refl)
    changed-tree (literal l) to before after h = refl
    changed-tree (send r s args) to before after h =
        let k = below-children (At to before after) (send r s args) h in
        λ i. sending (changed-tree r (further 0 to) (below 0 before) (below 0 after) (first-below (At to before after) r args 0 k) i) (f.selector s) (changed-trees args to before after 1 (others-below (At to before after) r args 0 k) i)
    changed-tree (cascade r ms) to before after h =
        let k = below-children (At to before after) (cascade r ms) h in
        λ i. cascading (changed-tree r (further 0 to) (below 0 before) (below 0 after) (first-below (At to before after) r (all_arguments ms) 0 k) i) (changed-messages ms to before after 1 (others-below (At to before after) r (all_arguments ms) 0 k) i)
    changed-tree (assign n t) to before after h =
        let k = below-children (At to before after) (assign n t) h in
        λ i. assigning ((h [] (assign n t) refl).assigned n t refl i) (changed-tree t (further 0 to) (below 0 before) (below 0 after) (first-below (At to before after) t no_trees 0 k) i)
    changed-tree (block ps ts ss e) to before after h =
        λ i. block_of (length-map (to []) ps i) (length-map (to []) ts i) (changed-lines ss to before after 0 (below-children (At to before after) (block ps ts ss e) h) i)
    changed-tree (brace ts) to before after h = ap brace_of (changed-trees ts to before after 0 (below-children (At to before after) (brace ts) h))
    changed-tree (return t) to before after h =
        let k = below-children (At to before after) (return t) h in
        ap returning (changed-tree t (further 0 to) (below 0 before) (below 0 after) (first-below (At to before after) t no_trees 0 k))

    changed-trees : (ts : TreesOf Name) (to : NewNames) (before after : MeantAt) (k : ℕ) → Among (At to before after) ts k → resolved_trees after k (changed_trees to f.selector k ts) ≡ mapped_trees f owner (resolved_trees before k ts)
    changed-trees no_trees to before after k h = refl
    changed-trees (more_trees t ts) to before after k h =
        λ i. more_nodes (changed-tree t (further k to) (below k before) (below k after) (first-below (At to before after) t ts k h) i) (changed-trees ts to before after (suc k) (others-below (At to before after) t ts k h) i)

    changed-messages : (ms : MessagesOf Name) (to : NewNames) (before after : MeantAt) (k : ℕ) → Among (At to before after) (all_arguments ms) k → resolved_messages after k (changed_messages to f.selector k ms) ≡ mapped_messages f owner (resolved_messages before k ms)
    changed-messages no_messages to before after k h = refl
    changed-messages (more_messages s args ms) to before after k h =
        λ i. more_sends (f.selector s) (changed-trees args to before after k (first-message (At to before after) args (all_arguments ms) k h) i)
        ((ap (λ c. resolved_messages after (k + c) (changed_messages to f.selector (k + count args) ms)) (count-changed to k args)
        ∙ changed-messages ms to before after (k + count args) (other-messages (At to before after) args (all_arguments ms) k h)) i)

    changed-lines : (ss : StatementsOf Name) (to : NewNames) (before after : MeantAt) (k : ℕ) → Among (At to before after) (statement_trees ss) k → resolved_statements after k (changed_statements to f.selector k ss) ≡ mapped_statements f owner (resolved_statements before k ss)
    changed-lines no_statements to before after k h = refl
    changed-lines (more_statements c t ss) to before after k h =
        λ i. more_lines (changed-tree t (further k to) (below k before) (below k after) (first-below (At to before after) t (statement_trees ss) k h) i) (changed-lines ss to before after (suc k) (others-below (At to before after) t (statement_trees ss) k h) i)

  -- a scope
  pub changed-scope : (scope : ScopeOf Name) (to : NewNames) (before after : MeantAt) → MeaningsAreMapped f owner to scope before after → resolved_scope after (changed_scope to f.selector scope) ≡ mapped_code f owner (resolved_scope before scope)
  changed-scope scope to before after h =
      λ i. record {
        parameters = length-map (to []) scope.arguments i;
        temporaries = length-map (to []) scope.temporaries i;
        statements = changed-lines scope.statements to before after 0 (among-first (At to before after) (statement_trees scope.statements) h) i;
      }
