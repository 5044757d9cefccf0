-- Where a new name is called in place of an old one, nothing is declared twice or assigned that may not be.
use Rattle.std.proofs.Common.{◌≡◌, ◌⊎◌, inl, inr, ℕ, suc, ◌+◌, false, List, [], ◌++◌, map, refl, sym, ap, ◌∙◌}
use Rattle.std.specs.Prelude.{◌||◌}
use Rattle.std.specs.List.{list_any}
use Rattle.std.proofs.lemmas.Bool.{or_parts}
use Rattle.rb_base.specs.Names.{text_eq}
use Rattle.tree_model.specs.Tree.{TreeOf, var, literal, send, cascade, assign, block, brace, return, TreesOf, no_trees, more_trees, MessagesOf, no_messages, more_messages, StatementsOf, no_statements, more_statements}
use Rattle.tree_model.specs.Path.{count}
use Rattle.tree_model.specs.Nodes.{below_step, tree_nodes, trees_nodes, messages_nodes, statements_nodes}
use Rattle.grammar_model.specs.Words.{is_pseudo}
use Rattle.grammar_model.specs.Checks.{Known, is_fixed}
use Rattle.reread_law.specs.Declarations.{known_names, has_duplicate, has_duplicate_trees, has_duplicate_messages, has_duplicate_statements, assigns_fixed, assigns_fixed_trees, assigns_fixed_messages, assigns_fixed_statements}
use Rattle.file_model.specs.Filing.{Text}
use Rattle.rename_model.specs.NamesThere.{is_named_by}
use Rattle.rename_model.specs.Renamed.{NewName, beyond}
use Rattle.effect_laws.proofs.Nowhere.{Test, passes, any-deeper, first_fails, both_fail}
use Rattle.effect_laws.proofs.Tests.{differ}
use Rattle.effect_laws.proofs.NamesCalled.{anew, Lacks, twice_to, known_anew, lacks_known, may_assign}
use Rattle.effect_laws.proofs.TreesCalled.{called, called_trees, called_messages, called_statements, IsCalling, calling_on}

module _ (x y : Text) where
  -- a node reads, assigns or declares the new name
  abbrev named : Test
  named path t = is_named_by text_eq y t

  -- what is declared twice was so
  mutual
    twice_called : (t : TreeOf Text) (u : NewName Text) → list_any (passes named) (tree_nodes t) ≡ false → has_duplicate (called x y u t) ≡ has_duplicate t
    twice_called (var n) u h = refl
    twice_called (literal l) u h = refl
    twice_called (send r s xs) u h =
        let k = first_fails named 0 (tree_nodes r) (trees_nodes 1 xs) h in
        λ i. twice_called r (beyond 0 u) k.0 i || all_twice_called xs u 1 1 k.1 i
    twice_called (cascade r ms) u h =
        let k = first_fails named 0 (tree_nodes r) (messages_nodes 1 ms) h in
        λ i. twice_called r (beyond 0 u) k.0 i || messages_twice_called ms u 1 1 k.1 i
    twice_called (assign n t) u h =
        let k = or_parts (is_named_by text_eq y (assign n t)) (list_any (passes named) (below_step 0 (tree_nodes t))) h in
        twice_called t (beyond 0 u) (sym (any-deeper named 0 (tree_nodes t)) ∙ k.1)
    twice_called (block ps ds ss c) u h =
        let k = or_parts (list_any (text_eq y) (ps ++ ds)) (list_any (passes named) (statements_nodes 0 ss)) h in
        λ i. twice_to x y ps ds k.0 i || statements_twice_called ss u 0 0 k.1 i
    twice_called (brace ts) u h = all_twice_called ts u 0 0 h
    twice_called (return t) u h = twice_called t (beyond 0 u) (sym (any-deeper named 0 (tree_nodes t)) ∙ h)

    all_twice_called : (ts : TreesOf Text) (u : NewName Text) (k l : ℕ) → list_any (passes named) (trees_nodes l ts) ≡ false → has_duplicate_trees (called_trees x y u k ts) ≡ has_duplicate_trees ts
    all_twice_called no_trees u k l h = refl
    all_twice_called (more_trees t ts) u k l h =
        let f = first_fails named l (tree_nodes t) (trees_nodes (l + 1) ts) h in
        λ i. twice_called t (beyond k u) f.0 i || all_twice_called ts u (suc k) (l + 1) f.1 i

    messages_twice_called : (ms : MessagesOf Text) (u : NewName Text) (k l : ℕ) → list_any (passes named) (messages_nodes l ms) ≡ false → has_duplicate_messages (called_messages x y u k ms) ≡ has_duplicate_messages ms
    messages_twice_called no_messages u k l h = refl
    messages_twice_called (more_messages s xs ms) u k l h =
        let f = both_fail named (trees_nodes l xs) (messages_nodes (l + count xs) ms) h in
        λ i. all_twice_called xs u k l f.0 i || messages_twice_called ms u (k + count xs) (l + count xs) f.1 i

    pub statements_twice_called : (ss : StatementsOf Text) (u : NewName Text) (k l : ℕ) → list_any (passes named) (statements_nodes l ss) ≡ false → has_duplicate_statements (called_statements x y u k ss) ≡ has_duplicate_statements ss
    statements_twice_called no_statements u k l h = refl
    statements_twice_called (more_statements c t ss) u k l h =
        let f = first_fails named l (tree_nodes t) (statements_nodes (l + 1) ss) h in
        λ i. twice_called t (beyond k u) f.0 i || statements_twice_called ss u (suc k) (l + 1) f.1 i

  -- what is assigned may be, since the new name is no pseudo-variable
  module _ (ordinary : is_pseudo y ≡ false) where
    mutual
      assigned_called : (t : TreeOf Text) (u : NewName Text) (ks : List Known) → IsCalling x y u → Lacks x y ks → list_any (passes named) (tree_nodes t) ≡ false → assigns_fixed ks t ≡ false
          → assigns_fixed (map (anew x y) ks) (called x y u t) ≡ false
      assigned_called (var n) u ks e l h a = refl
      assigned_called (literal q) u ks e l h a = refl
      assigned_called (send r s xs) u ks e l h a =
          let k = first_fails named 0 (tree_nodes r) (trees_nodes 1 xs) h in
          let p = or_parts (assigns_fixed ks r) (assigns_fixed_trees ks xs) a in
          λ i. assigned_called r (beyond 0 u) ks (calling_on x y u 0 e) l k.0 p.0 i || all_assigned_called xs u 1 1 ks e l k.1 p.1 i
      assigned_called (cascade r ms) u ks e l h a =
          let k = first_fails named 0 (tree_nodes r) (messages_nodes 1 ms) h in
          let p = or_parts (assigns_fixed ks r) (assigns_fixed_messages ks ms) a in
          λ i. assigned_called r (beyond 0 u) ks (calling_on x y u 0 e) l k.0 p.0 i || messages_assigned_called ms u 1 1 ks e l k.1 p.1 i
      assigned_called (assign n t) u ks e l h a =
          let k = or_parts (is_named_by text_eq y (assign n t)) (list_any (passes named) (below_step 0 (tree_nodes t))) h in
          let p = or_parts (is_pseudo n || is_fixed ks n) (assigns_fixed ks t) a in
          let q = or_parts (is_pseudo n) (is_fixed ks n) p.0 in
          λ i. (by (e [] n) q.0 i || may_assign x y n (u [] n) ks l (differ y n (or_parts (text_eq y n) false k.0).0) (e [] n) q.1 i)
          || assigned_called t (beyond 0 u) ks (calling_on x y u 0 e) l (sym (any-deeper named 0 (tree_nodes t)) ∙ k.1) p.1 i
        where
          by : (u [] n ≡ n) ⊎ ((x ≡ n) × (u [] n ≡ y)) → is_pseudo n ≡ false → is_pseudo (u [] n) ≡ false
          by (inl q) f = ap is_pseudo q ∙ f
          by (inr q) f = ap is_pseudo q.1 ∙ ordinary
      assigned_called (block ps ds ss c) u ks e l h a =
          let k = or_parts (list_any (text_eq y) (ps ++ ds)) (list_any (passes named) (statements_nodes 0 ss)) h in
          ap (λ (zs : List Known). assigns_fixed_statements zs (called_statements x y u 0 ss)) (known_anew x y ps ds ks)
          ∙ statements_assigned_called ss u 0 0 (known_names ps ds ++ ks) e (lacks_known x y ps ds ks k.0 l) k.1 a
      assigned_called (brace ts) u ks e l h a = all_assigned_called ts u 0 0 ks e l h a
      assigned_called (return t) u ks e l h a = assigned_called t (beyond 0 u) ks (calling_on x y u 0 e) l (sym (any-deeper named 0 (tree_nodes t)) ∙ h) a

      all_assigned_called : (ts : TreesOf Text) (u : NewName Text) (k j : ℕ) (ks : List Known) → IsCalling x y u → Lacks x y ks → list_any (passes named) (trees_nodes j ts) ≡ false → assigns_fixed_trees ks ts ≡ false
          → assigns_fixed_trees (map (anew x y) ks) (called_trees x y u k ts) ≡ false
      all_assigned_called no_trees u k j ks e l h a = refl
      all_assigned_called (more_trees t ts) u k j ks e l h a =
          let f = first_fails named j (tree_nodes t) (trees_nodes (j + 1) ts) h in
          let p = or_parts (assigns_fixed ks t) (assigns_fixed_trees ks ts) a in
          λ i. assigned_called t (beyond k u) ks (calling_on x y u k e) l f.0 p.0 i || all_assigned_called ts u (suc k) (j + 1) ks e l f.1 p.1 i

      messages_assigned_called : (ms : MessagesOf Text) (u : NewName Text) (k j : ℕ) (ks : List Known) → IsCalling x y u → Lacks x y ks → list_any (passes named) (messages_nodes j ms) ≡ false → assigns_fixed_messages ks ms ≡ false
          → assigns_fixed_messages (map (anew x y) ks) (called_messages x y u k ms) ≡ false
      messages_assigned_called no_messages u k j ks e l h a = refl
      messages_assigned_called (more_messages s xs ms) u k j ks e l h a =
          let f = both_fail named (trees_nodes j xs) (messages_nodes (j + count xs) ms) h in
          let p = or_parts (assigns_fixed_trees ks xs) (assigns_fixed_messages ks ms) a in
          λ i. all_assigned_called xs u k j ks e l f.0 p.0 i || messages_assigned_called ms u (k + count xs) (j + count xs) ks e l f.1 p.1 i

      pub statements_assigned_called : (ss : StatementsOf Text) (u : NewName Text) (k j : ℕ) (ks : List Known) → IsCalling x y u → Lacks x y ks → list_any (passes named) (statements_nodes j ss) ≡ false → assigns_fixed_statements ks ss ≡ false
          → assigns_fixed_statements (map (anew x y) ks) (called_statements x y u k ss) ≡ false
      statements_assigned_called no_statements u k j ks e l h a = refl
      statements_assigned_called (more_statements c t ss) u k j ks e l h a =
          let f = first_fails named j (tree_nodes t) (statements_nodes (j + 1) ss) h in
          let p = or_parts (assigns_fixed ks t) (assigns_fixed_statements ks ss) a in
          λ i. assigned_called t (beyond k u) ks (calling_on x y u k e) l f.0 p.0 i || statements_assigned_called ss u (suc k) (j + 1) ks e l f.1 p.1 i
