-- What is asked of places in a method has the same answer once names are changed one to one.
use Rattle.std.proofs.Common.{◌≡◌, ℕ, suc, ◌==◌, Bool, cond, ◌&&◌, nat_le, List, map, filter, length, take, slice_get, Option, Some, None, option_map, option_and_then, refl, ap, ◌∙◌}
use Rattle.std.specs.List.{list_any}
use Rattle.std.specs.Option.{option_map_or}
use Rattle.tree_model.specs.Tree.{TreeOf, var, literal, send, cascade, assign, block, brace, return, MethodOf, map_names, map_trees, map_sequence, map_method}
use Rattle.tree_model.specs.Path.{part_in}
use Rattle.tree_model.specs.Nodes.{Placed, nodes}
use Rattle.tree_model.proofs.NodesLemmas.{nodes-map_sequence}
use Rattle.tree_model.proofs.Parts.{part_in-map_sequence}
use Rattle.scope_model.specs.Scope.{PlacedScope, method_scope, scopes_round}
use Rattle.image_model.specs.Words.{WordsOf, KeepsWords}
use Rattle.command_model.specs.Parts.{Part, Expression, Run, is_within}
use Rattle.command_model.specs.Places.{part_nodes, is_return, innermost, sequence_round, statement_round, whole_statement, is_closure_in, stands_in_closure, SendOf, as_send, sent_by}
use Rattle.command_numbers.proofs.Lists.{get-map, any-total, filter-total, or-total}
use Rattle.command_numbers.proofs.Everywhere.{Every}
use Rattle.command_numbers.proofs.NodesAsked.{mapped_node}
use Rattle.code_command_numbers.proofs.ScopesMapped.{map_placed_scope, scopes_round-map, is_closure_in-map}

module _ {M N : Type 0} (f : M → N) where
  -- the innermost scope, sequence and statement round a place
  pub innermost-map : (m : MethodOf M) (path : List ℕ) → innermost (map_method f m) path ≡ innermost m path
  innermost-map m path =
      ap (λ (ps : List (PlacedScope N)). option_map_or (λ (s : PlacedScope N). s.0) (slice_get ps 0) 0) (scopes_round-map f (method_scope m) path)
      ∙ ap (λ (o : Option (PlacedScope N)). option_map_or (λ (s : PlacedScope N). s.0) o 0) (get-map (map_placed_scope f) (scopes_round (method_scope m) path) 0)
      ∙ or-total (map_placed_scope f) (λ (s : PlacedScope M). s.0) (λ (s : PlacedScope N). s.0) 0 (λ s. refl) (slice_get (scopes_round (method_scope m) path) 0)

  pub sequence_round-map : (m : MethodOf M) (path : List ℕ) → sequence_round (map_method f m) path ≡ sequence_round m path
  sequence_round-map m path = ap (λ (k : ℕ). take k path) (innermost-map m path)

  pub statement_round-map : (m : MethodOf M) (path : List ℕ) → statement_round (map_method f m) path ≡ statement_round m path
  statement_round-map m path = ap (λ (k : ℕ). slice_get path k) (innermost-map m path)

  pub whole_statement-map : (m : MethodOf M) (path : List ℕ) → whole_statement (map_method f m) path ≡ whole_statement m path
  whole_statement-map m path = ap (λ (k : ℕ). cond (length path == suc k) (slice_get path k) None) (innermost-map m path)

  -- the nodes of a part
  pub part_nodes-map : (m : MethodOf M) (part : Part) → part_nodes (map_method f m) part ≡ map (mapped_node f) (part_nodes m part)
  part_nodes-map m part =
      ap (filter (λ (e : Placed N). is_within part e.0)) (nodes-map_sequence f m.body)
      ∙ filter-total (mapped_node f) (λ (e : Placed M). is_within part e.0) (λ (e : Placed N). is_within part e.0) (λ e. refl) (nodes m.body)

  pub is_return-map : (t : TreeOf M) → is_return (map_names f t) ≡ is_return t
  is_return-map (var n) = refl
  is_return-map (literal l) = refl
  is_return-map (send r s args) = refl
  is_return-map (cascade r ms) = refl
  is_return-map (assign n t) = refl
  is_return-map (block ps ts ss e) = refl
  is_return-map (brace ts) = refl
  is_return-map (return t) = refl

  -- the message that a node sends
  abbrev pub map_send : SendOf M → SendOf N
  map_send e = record { path = e.path; receiver = map_names f e.receiver; selector = f e.selector; arguments = map_trees f e.arguments }

  as_send-map : (path : List ℕ) (t : TreeOf M) → as_send path (map_names f t) ≡ option_map map_send (as_send path t)
  as_send-map path (var n) = refl
  as_send-map path (literal l) = refl
  as_send-map path (send r s args) = refl
  as_send-map path (cascade r ms) = refl
  as_send-map path (assign n t) = refl
  as_send-map path (block ps ts ss e) = refl
  as_send-map path (brace ts) = refl
  as_send-map path (return t) = refl

  pub sent_by-map : (m : MethodOf M) (part : Part) → sent_by (map_method f m) part ≡ option_map map_send (sent_by m part)
  sent_by-map m (Expression path) = ap (option_and_then (as_send path)) (part_in-map_sequence f m.body path) ∙ by (part_in m.body path)
    where
      by : (o : Option (TreeOf M)) → option_and_then (as_send path) (option_map (map_names f) o) ≡ option_map map_send (option_and_then (as_send path) o)
      by None = refl
      by (Some t) = as_send-map path t
  sent_by-map m (Run path first count) = refl

module _ {M N : Type 0} (f : M → N) (w : WordsOf M) (v : WordsOf N) (keeps : KeepsWords Every f w v) where
  -- whether a place stands in a closure
  pub stands_in_closure-map : (m : MethodOf M) (from : ℕ) (path : List ℕ) → stands_in_closure v.tests.form (map_method f m) from path ≡ stands_in_closure w.tests.form m from path
  stands_in_closure-map m from path =
      ap (list_any (λ (s : PlacedScope N). nat_le from s.0 && is_closure_in v.tests.form (map_sequence f m.body) (take s.0 path))) (scopes_round-map f (method_scope m) path)
      ∙ any-total (map_placed_scope f) (λ (s : PlacedScope M). nat_le from s.0 && is_closure_in w.tests.form m.body (take s.0 path))
      (λ (s : PlacedScope N). nat_le from s.0 && is_closure_in v.tests.form (map_sequence f m.body) (take s.0 path))
      (λ s. ap (λ (b : Bool). nat_le from s.0 && b) (is_closure_in-map f w v keeps m.body (take s.0 path))) (scopes_round (method_scope m) path)
