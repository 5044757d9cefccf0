-- The conditions of a part that is taken out of a method have the same answer once names are changed one to one.
use Rattle.std.proofs.Common.{◌≡◌, ℕ, zero, suc, ◌+◌, Bool, true, false, not, ◌&&◌, ◌||◌, nat_lt, List, [], ◌∷◌, take, drop, Option, refl, ap, ◌∙◌}
use Rattle.std.specs.List.{list_any, list_all}
use Rattle.std.specs.Option.{option_map_or}
use Rattle.tree_model.specs.Tree.{TreeOf, var, literal, send, cascade, assign, block, brace, return, TreesOf, no_trees, more_trees, no_messages, more_messages, SequenceOf, MethodOf, map_names, map_trees, map_sequence, map_method}
use Rattle.tree_model.specs.Path.{count, child, children, statement_trees, part_in}
use Rattle.tree_model.specs.Nodes.{Placed}
use Rattle.tree_model.proofs.Children.{count-map_trees, child-map_names, children-map_names, statement_trees-map_statements}
use Rattle.tree_model.proofs.Parts.{part_in-map_sequence}
use Rattle.scope_model.specs.declared.local.Local.{Local}
use Rattle.scope_model.specs.declared.local.Local.TheVariants.{Argument, Temporary, NotLocal}
use Rattle.scope_model.specs.Scope.{method_scope, local_in}
use Rattle.scope_model.specs.FreeNames.{statements_at}
use Rattle.scope_model.proofs.Changed.{assigned_in_closure_at-map_scope}
use Rattle.image_model.specs.Image.{EntryOf, ImageOf, map_entry, map_image}
use Rattle.image_model.specs.Means.{MeaningOf, pseudo, argument, temporary, variable, a_class, transcript, undeclared, map_meaning, means}
use Rattle.command_model.specs.SameMethods.{is_super_node}
use Rattle.command_model.specs.Asked.{AskedOf}
use Rattle.command_model.specs.Parts.{Part, Expression, Run, inside_from}
use Rattle.command_model.specs.Places.{part_nodes, is_return, is_in_place, innermost}
use Rattle.command_model.specs.Plain.{is_plain_name, is_plain}
use Rattle.command_model.specs.PartConditions.{is_expression_that, has_no_return, is_value_unused, is_before_sends, is_part, is_declared_outside, assigns_outer, assigns_no_outer, is_assigned_in_the_open, is_steady, is_node_steady, are_temporaries_steady, are_first_plain, is_plain_before, is_first_evaluated}
use Rattle.command_numbers.proofs.Lists.{any-total, all-total, or-total}
use Rattle.command_numbers.proofs.Everywhere.{Every, every_method}
use Rattle.command_numbers.proofs.NodesAsked.{mapped_node, is_super_node-map}
use Rattle.command_numbers.proofs.Classes.{same-map}
use Rattle.command_numbers.proofs.UsesAsked.{means-there}
use Rattle.command_numbers.proofs.TemporariesMapped.{local_in-there}
use Rattle.command_numbers.proofs.ParameterConditionsMapped.{is_atom_literal-map}
use Rattle.code_command_numbers.specs.KeepsMoves.{KeepsMoves}
use Rattle.code_command_numbers.proofs.ScopesMapped.{statements_at-map, is_in_place-map}
use Rattle.code_command_numbers.proofs.PlacesMapped.{innermost-map, part_nodes-map, is_return-map, stands_in_closure-map}

-- what a name at a place is in a method
abbrev pub local : {N : Type 0} → AskedOf N → MethodOf N → List ℕ → N → Local
local a m path n = local_in a.words.tests.same a.words.tests.is_pseudo m path n

module _ {M N : Type 0} (f : M → N) where
  -- an expression that passes a test
  pub is_expression_that-map : (p : List ℕ → TreeOf M → Bool) (q : List ℕ → TreeOf N → Bool) → ((path : List ℕ) (t : TreeOf M) → q path (map_names f t) ≡ p path t)
      → (m : MethodOf M) (part : Part) → is_expression_that q (map_method f m) part ≡ is_expression_that p m part
  is_expression_that-map p q e m (Expression path) =
      ap (λ (o : Option (TreeOf N)). option_map_or (λ t. not (is_return t) && q path t) o false) (part_in-map_sequence f m.body path)
      ∙ or-total (map_names f) (λ t. not (is_return t) && p path t) (λ t. not (is_return t) && q path t) false (λ t. λ i. not (is_return-map f t i) && e path t i) (part_in m.body path)
  is_expression_that-map p q e m (Run path first count) = refl

  -- a part without a return
  pub has_no_return-map : (m : MethodOf M) (part : Part) → has_no_return (map_method f m) part ≡ has_no_return m part
  has_no_return-map m part =
      ap (λ (es : List (Placed N)). not (list_any (λ (e : Placed N). is_return e.1) es)) (part_nodes-map f m part)
      ∙ ap not (any-total (mapped_node f) (λ (e : Placed M). is_return e.1) (λ (e : Placed N). is_return e.1) (λ e. is_return-map f e.1) (part_nodes m part))

  -- how many statements stand at a path
  pub count_at-map : (b : SequenceOf M) (path : List ℕ) → count (statement_trees (statements_at (map_sequence f b) path)) ≡ count (statement_trees (statements_at b path))
  count_at-map b path =
      ap (λ ss. count (statement_trees ss)) (statements_at-map f b path) ∙ ap count (statement_trees-map_statements f (statements_at b path)) ∙ count-map_trees f (statement_trees (statements_at b path))

  pub is_value_unused-map : (m : MethodOf M) (part : Part) → is_value_unused (map_method f m) part ≡ is_value_unused m part
  is_value_unused-map m (Expression path) = is_expression_that-map (λ p t. true) (λ p t. true) (λ p t. refl) m (Expression path)
  is_value_unused-map m (Run [] first n) = refl
  is_value_unused-map m (Run (k ∷ ks) first n) = ap (nat_lt (first + n)) (count_at-map m.body (k ∷ ks))

  pub is_before_sends-map : (t : TreeOf M) (k : ℕ) → is_before_sends (map_names f t) k ≡ is_before_sends t k
  is_before_sends-map (var n) k = refl
  is_before_sends-map (literal l) k = refl
  is_before_sends-map (send r s args) k = refl
  is_before_sends-map (cascade r no_messages) k = refl
  is_before_sends-map (cascade r (more_messages s args ms)) k = ap (λ (c : ℕ). nat_lt k (suc c)) (count-map_trees f args)
  is_before_sends-map (assign n t) k = refl
  is_before_sends-map (block ps ts ss d) k = refl
  is_before_sends-map (brace ts) k = refl
  is_before_sends-map (return t) k = refl

module _ {M N : Type 0} (f : M → N) (a : AskedOf M) (b : AskedOf N) (keeps : KeepsMoves Every f a b) where
  -- a part that may be taken out
  pub is_part-map : (m : MethodOf M) (part : Part) → is_part b (map_method f m) part ≡ is_part a m part
  is_part-map m (Expression path) =
      is_expression_that-map f (λ p t. not (is_super_node a.is_super t) && not (is_in_place a.words.tests.form m.body p)) (λ p t. not (is_super_node b.is_super t) && not (is_in_place b.words.tests.form (map_sequence f m.body) p))
      (λ p t. λ i. not (is_super_node-map f a.is_super b.is_super (λ n. keeps.asked.is_super n tt) t i) && not (is_in_place-map f a.words b.words keeps.asked.words m.body p i)) m (Expression path)
  is_part-map m (Run path first n) = refl

  pub local-map : (m : MethodOf M) (path : List ℕ) (n : M) → local b (map_method f m) path (f n) ≡ local a m path n
  local-map m path n = local_in-there f a.words b.words keeps.asked.words m path n

  -- what a part assigns
  pub assigns_outer-map : (m : MethodOf M) (inside : ℕ) (e : Placed M) → assigns_outer b (map_method f m) inside (mapped_node f e) ≡ assigns_outer a m inside e
  assigns_outer-map m inside (path, var n) = refl
  assigns_outer-map m inside (path, literal l) = refl
  assigns_outer-map m inside (path, send r s args) = refl
  assigns_outer-map m inside (path, cascade r ms) = refl
  assigns_outer-map m inside (path, assign n t) = ap (is_declared_outside b inside) (local-map m path n)
  assigns_outer-map m inside (path, block ps ts ss d) = refl
  assigns_outer-map m inside (path, brace ts) = refl
  assigns_outer-map m inside (path, return t) = refl

  pub assigns_no_outer-map : (m : MethodOf M) (part : Part) → assigns_no_outer b (map_method f m) part ≡ assigns_no_outer a m part
  assigns_no_outer-map m part =
      ap (λ (es : List (Placed N)). not (list_any (assigns_outer b (map_method f m) (inside_from part)) es)) (part_nodes-map f m part)
      ∙ ap not (any-total (mapped_node f) (assigns_outer a m (inside_from part)) (assigns_outer b (map_method f m) (inside_from part)) (assigns_outer-map m (inside_from part)) (part_nodes m part))

  -- temporaries that no closure assigns
  pub is_assigned_in_the_open-map : (m : MethodOf M) (path : List ℕ) (scope : ℕ) (n : M) → is_assigned_in_the_open b (map_method f m) path scope (f n) ≡ is_assigned_in_the_open a m path scope n
  is_assigned_in_the_open-map m path scope n =
      ap not (assigned_in_closure_at-map_scope Every f a.words.tests b.words.tests keeps.asked.words.tests (method_scope m) (take scope path) n
      (record { arguments = (every_method Every (λ k. tt) m).arguments; temporaries = (every_method Every (λ k. tt) m).body.temporaries; statements = (every_method Every (λ k. tt) m).body.statements }) tt)

  is_steady-map : (m : MethodOf M) (inside : ℕ) (path : List ℕ) (n : M) (is_read : Bool) (l : Local) → is_steady b (map_method f m) inside path (f n) is_read l ≡ is_steady a m inside path n is_read l
  is_steady-map m inside path n is_read (Argument scope) = refl
  is_steady-map m inside path n is_read (Temporary scope) =
      λ i. not (nat_lt scope inside) || (is_assigned_in_the_open-map m path scope n i && not (is_read && stands_in_closure-map f a.words b.words keeps.asked.words m inside path i))
  is_steady-map m inside path n is_read NotLocal = refl

  steady_here : (m : MethodOf M) (inside : ℕ) (path : List ℕ) (n : M) (is_read : Bool) → is_steady b (map_method f m) inside path (f n) is_read (local b (map_method f m) path (f n)) ≡ is_steady a m inside path n is_read (local a m path n)
  steady_here m inside path n is_read = ap (is_steady b (map_method f m) inside path (f n) is_read) (local-map m path n) ∙ is_steady-map m inside path n is_read (local a m path n)

  pub is_node_steady-map : (m : MethodOf M) (inside : ℕ) (e : Placed M) → is_node_steady b (map_method f m) inside (mapped_node f e) ≡ is_node_steady a m inside e
  is_node_steady-map m inside (path, var n) = steady_here m inside path n true
  is_node_steady-map m inside (path, literal l) = refl
  is_node_steady-map m inside (path, send r s args) = refl
  is_node_steady-map m inside (path, cascade r ms) = refl
  is_node_steady-map m inside (path, assign n t) = steady_here m inside path n false
  is_node_steady-map m inside (path, block ps ts ss d) = refl
  is_node_steady-map m inside (path, brace ts) = refl
  is_node_steady-map m inside (path, return t) = refl

  pub are_temporaries_steady-map : (m : MethodOf M) (part : Part) → are_temporaries_steady b (map_method f m) part ≡ are_temporaries_steady a m part
  are_temporaries_steady-map m part =
      ap (list_all (is_node_steady b (map_method f m) (inside_from part))) (part_nodes-map f m part)
      ∙ all-total (mapped_node f) (is_node_steady a m (inside_from part)) (is_node_steady b (map_method f m) (inside_from part)) (is_node_steady-map m (inside_from part)) (part_nodes m part)

  -- `self`
  pub is_self-map : (n : M) → b.words.tests.same b.self_name (f n) ≡ a.words.tests.same a.self_name n
  is_self-map n = ap (λ (k : N). b.words.tests.same k (f n)) keeps.self_name ∙ same-map f a.words b.words keeps.asked.words a.self_name n

  -- plain names and nodes
  is_plain_name-map : (meaning : MeaningOf M) (n : M) → is_plain_name b (map_meaning f meaning) (f n) ≡ is_plain_name a meaning n
  is_plain_name-map pseudo n = λ i. keeps.asked.is_constant n tt i || is_self-map n i
  is_plain_name-map (argument scope) n = refl
  is_plain_name-map (temporary scope) n = refl
  is_plain_name-map (variable k c) n = refl
  is_plain_name-map (a_class c) n = refl
  is_plain_name-map transcript n = refl
  is_plain_name-map undeclared n = refl

  module _ (i : ImageOf M) (m : EntryOf M) where
    pub is_plain-map : (path : List ℕ) (t : TreeOf M) → is_plain b (map_image f i) (map_entry f m) path (map_names f t) ≡ is_plain a i m path t
    is_plain-map path (var n) =
        ap (λ (k : MeaningOf N). is_plain_name b k (f n)) (means-there f a.words b.words keeps.asked.words i m path n) ∙ is_plain_name-map (means a.words i m path n) n
    is_plain-map path (literal l) = is_atom_literal-map f l
    is_plain-map path (send r s args) = refl
    is_plain-map path (cascade r ms) = refl
    is_plain-map path (assign n t) = refl
    is_plain-map path (block ps ts ss d) = refl
    is_plain-map path (brace ts) = refl
    is_plain-map path (return t) = refl

    are_first_plain-map : (path : List ℕ) (k : ℕ) (ts : TreesOf M) → are_first_plain b (map_image f i) (map_entry f m) path k (map_trees f ts) ≡ are_first_plain a i m path k ts
    are_first_plain-map path zero ts = refl
    are_first_plain-map path (suc k) no_trees = refl
    are_first_plain-map path (suc k) (more_trees t ts) = λ j. is_plain-map path t j && are_first_plain-map path k ts j

    -- what is evaluated before a part
    is_plain_before-map : (path : List ℕ) (t : TreeOf M) (ks : List ℕ) → is_plain_before b (map_image f i) (map_entry f m) path (map_names f t) ks ≡ is_plain_before a i m path t ks
    is_plain_before-map path t [] = refl
    is_plain_before-map path t (k ∷ ks) =
        λ j. is_before_sends-map f t k j
        && ((ap (are_first_plain b (map_image f i) (map_entry f m) path k) (children-map_names f t) ∙ are_first_plain-map path k (children t)) j
        && (ap (λ (o : Option (TreeOf N)). option_map_or (λ c. is_plain_before b (map_image f i) (map_entry f m) path c ks) o false) (child-map_names f t k)
        ∙ or-total (map_names f) (λ c. is_plain_before a i m path c ks) (λ c. is_plain_before b (map_image f i) (map_entry f m) path c ks) false (λ c. is_plain_before-map path c ks) (child t k)) j)

    pub is_first_evaluated-map : (part : Part) → is_first_evaluated b (map_image f i) (map_entry f m) part ≡ is_first_evaluated a i m part
    is_first_evaluated-map part = is_expression_that-map f (λ path t. before path (innermost m.tree path)) (λ path t. before_there path (innermost (map_method f m.tree) path)) (λ path t. by path) m.tree part
      where
        before : List ℕ → ℕ → Bool
        before path k = option_map_or (λ s. is_plain_before a i m path s (drop (suc k) path)) (part_in m.tree.body (take (suc k) path)) false

        before_there : List ℕ → ℕ → Bool
        before_there path k = option_map_or (λ s. is_plain_before b (map_image f i) (map_entry f m) path s (drop (suc k) path)) (part_in (map_sequence f m.tree.body) (take (suc k) path)) false

        by : (path : List ℕ) → before_there path (innermost (map_method f m.tree) path) ≡ before path (innermost m.tree path)
        by path =
            ap (before_there path) (innermost-map f m.tree path)
            ∙ ap (λ (o : Option (TreeOf N)). option_map_or (λ s. is_plain_before b (map_image f i) (map_entry f m) path s (drop (suc (innermost m.tree path)) path)) o false) (part_in-map_sequence f m.tree.body (take (suc (innermost m.tree path)) path))
            ∙ or-total (map_names f) (λ s. is_plain_before a i m path s (drop (suc (innermost m.tree path)) path)) (λ s. is_plain_before b (map_image f i) (map_entry f m) path s (drop (suc (innermost m.tree path)) path)) false
            (λ s. is_plain_before-map path s (drop (suc (innermost m.tree path)) path)) (part_in m.tree.body (take (suc (innermost m.tree path)) path))
