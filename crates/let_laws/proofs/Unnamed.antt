-- Code without a name.
use Rattle.std.proofs.Common.{◌≡◌, ℕ, suc, [], refl, sym, ap, ◌∙◌}
use Rattle.std.specs.Prelude.{false}
use Rattle.std.specs.List.{list_any}
use Rattle.std.specs.Option.{option_map_or}
use Rattle.std.proofs.lemmas.Bool.{false≢true}
use Rattle.rb_base.specs.Names.{text_eq}
use Rattle.rb_base.proofs.NamesLemmas.{text_eq-refl}
use Rattle.tree_model.specs.Tree.{TreeOf, var, literal, send, cascade, assign, block, brace, return, TreesOf, no_trees, more_trees, MessagesOf, no_messages, more_messages, StatementsOf, no_statements, more_statements}
use Rattle.tree_model.specs.Path.{all_arguments, statement_trees}
use Rattle.image_model.specs.Uses.{name_used}
use Rattle.run_model.specs.Values.{Name}
use Rattle.run_model.proofs.Finite.{by_cases}
use Rattle.run_model.proofs.RenamingLemmas.{text-same}
use Rattle.mapped_model.proofs.NodesBelow.{FactAt, Below, Among, below-children, first-below, others-below, first-message, other-messages}
use Rattle.rename_model.specs.NamesThere.{declared_by, is_named_by}
use Rattle.rename_laws.proofs.Unnamed.{neither_left}
use Rattle.let_laws.specs.ReadsFirst.{IsWithout, AreWithout, MessagesWithout, LinesWithout}

-- two names are told apart from both sides
pub told-back : (x n : Name) → text_eq x n ≡ false → text_eq n x ≡ false
told-back x n e = by_cases (text_eq n x) (λ t. absurd (false≢true (sym e ∙ ap (text_eq x) (text-same n x t) ∙ text_eq-refl x))) (λ f. f)

module _ (x : Name) where
  abbrev pub Nameless : FactAt
  Nameless path u = is_named_by text_eq x u ≡ false

  used-other : (u : TreeOf Name) → is_named_by text_eq x u ≡ false → option_map_or (text_eq x) (name_used u) false ≡ false
  used-other u h = neither_left (option_map_or (text_eq x) (name_used u) false) (list_any (text_eq x) (declared_by u)) h

  mutual
    pub tree-nameless : (t : TreeOf Name) → Below Nameless t → IsWithout x t
    tree-nameless (var n) h = told-back x n (used-other (var n) (h [] (var n) refl))
    tree-nameless (literal l) h = tt
    tree-nameless (send r s args) h =
        let j = below-children Nameless (send r s args) h in
        (tree-nameless r (first-below Nameless r args 0 j), trees-nameless args 1 (others-below Nameless r args 0 j))
    tree-nameless (cascade r ms) h =
        let j = below-children Nameless (cascade r ms) h in
        (tree-nameless r (first-below Nameless r (all_arguments ms) 0 j), messages-nameless ms 1 (others-below Nameless r (all_arguments ms) 0 j))
    tree-nameless (assign n t) h = (told-back x n (used-other (assign n t) (h [] (assign n t) refl)), tree-nameless t (first-below Nameless t no_trees 0 (below-children Nameless (assign n t) h)))
    tree-nameless (block ps ts ss e) h = lines-nameless ss 0 (below-children Nameless (block ps ts ss e) h)
    tree-nameless (brace ts) h = trees-nameless ts 0 (below-children Nameless (brace ts) h)
    tree-nameless (return t) h = tree-nameless t (first-below Nameless t no_trees 0 (below-children Nameless (return t) h))

    trees-nameless : (ts : TreesOf Name) (k : ℕ) → Among Nameless ts k → AreWithout x ts
    trees-nameless no_trees k h = tt
    trees-nameless (more_trees t ts) k h = (tree-nameless t (first-below Nameless t ts k h), trees-nameless ts (suc k) (others-below Nameless t ts k h))

    messages-nameless : (ms : MessagesOf Name) (k : ℕ) → Among Nameless (all_arguments ms) k → MessagesWithout x ms
    messages-nameless no_messages k h = tt
    messages-nameless (more_messages s args ms) k h = (trees-nameless args k (first-message Nameless args (all_arguments ms) k h), messages-nameless ms _ (other-messages Nameless args (all_arguments ms) k h))

    pub lines-nameless : (ss : StatementsOf Name) (k : ℕ) → Among Nameless (statement_trees ss) k → LinesWithout x ss
    lines-nameless no_statements k h = tt
    lines-nameless (more_statements c t ss) k h = (tree-nameless t (first-below Nameless t (statement_trees ss) k h), lines-nameless ss (suc k) (others-below Nameless t (statement_trees ss) k h))
