-- Scopes of trees in which nodes read and assign other names declare what they declared.
use Rattle.std.proofs.Common.{◌≡◌, ℕ, zero, suc, ◌+◌, List, Some, refl, sym, ap, ◌∙◌, arith}
use Rattle.std.specs.Prelude.{map, option_map}
use Rattle.rb_base.specs.Names.{text_eq}
use Rattle.tree_model.specs.Tree.{TreeOf, var, literal, send, cascade, assign, block, brace, return, TreesOf, no_trees, more_trees, MessagesOf, no_messages, more_messages, StatementsOf, no_statements, more_statements}
use Rattle.tree_model.specs.Path.{append, count, nth, all_arguments, statement_trees, children}
use Rattle.scope_model.specs.Scope.{ScopeOf, own_scope, scopes_round, local_by}
use Rattle.run_model.specs.Values.{Name}
use Rattle.resolved_model.specs.Resolving.{place_at}
use Rattle.rename_model.specs.Renamed.{NewName, beyond, renamed, renamed_trees, renamed_messages, renamed_statements}
use Rattle.rename_laws.proofs.Declarations.{declarations, same-local, same-place, round-same}

-- a scope in which nodes read and assign other names
abbrev pub renamed_scope : NewName Name → ScopeOf Name → ScopeOf Name
renamed_scope to s = record s { statements = renamed_statements to 0 s.statements }

-- as many nodes
pub count-renamed : (to : NewName Name) (k : ℕ) (ts : TreesOf Name) → count (renamed_trees to k ts) ≡ count ts
count-renamed to k no_trees = refl
count-renamed to k (more_trees t ts) = ap (λ n. n + 1) (count-renamed to (suc k) ts)

-- one list of nodes after another
append-renamed : (to : NewName Name) (k m : ℕ) (ts us : TreesOf Name) → m ≡ k + count ts → renamed_trees to k (append ts us) ≡ append (renamed_trees to k ts) (renamed_trees to m us)
append-renamed to k m no_trees us e = let here : k ≡ m = omega (arith, e) in ap (λ n. renamed_trees to n us) here
append-renamed to k m (more_trees t ts) us e = ap (more_trees (renamed (beyond k to) t)) (append-renamed to (suc k) m ts us (omega (arith, e)))

-- the arguments of all messages
arguments-renamed : (to : NewName Name) (k : ℕ) (ms : MessagesOf Name) → all_arguments (renamed_messages to k ms) ≡ renamed_trees to k (all_arguments ms)
arguments-renamed to k no_messages = refl
arguments-renamed to k (more_messages s args ms) =
    ap (append (renamed_trees to k args)) (arguments-renamed to (k + count args) ms) ∙ sym (append-renamed to k (k + count args) args (all_arguments ms) refl)

-- the nodes of statements
lines-renamed : (to : NewName Name) (k : ℕ) (ss : StatementsOf Name) → statement_trees (renamed_statements to k ss) ≡ renamed_trees to k (statement_trees ss)
lines-renamed to k no_statements = refl
lines-renamed to k (more_statements c t ss) = ap (more_trees (renamed (beyond k to) t)) (lines-renamed to (suc k) ss)

-- the nodes right below a node
children-renamed : (to : NewName Name) (t : TreeOf Name) → children (renamed to t) ≡ renamed_trees to 0 (children t)
children-renamed to (var n) = refl
children-renamed to (literal l) = refl
children-renamed to (send r s args) = refl
children-renamed to (cascade r ms) = ap (more_trees (renamed (beyond 0 to) r)) (arguments-renamed to 1 ms)
children-renamed to (assign n t) = refl
children-renamed to (block ps ts ss e) = lines-renamed to 0 ss
children-renamed to (brace ts) = refl
children-renamed to (return t) = refl

-- the node of a number
nth-renamed : (to : NewName Name) (k m : ℕ) (ts : TreesOf Name) (j : ℕ) → m ≡ k + j → nth (renamed_trees to k ts) j ≡ option_map (renamed (beyond m to)) (nth ts j)
nth-renamed to k m no_trees j e = refl
nth-renamed to k m (more_trees t ts) zero e = let here : k ≡ m = omega (arith, e) in ap (λ n. Some (renamed (beyond n to) t)) here
nth-renamed to k m (more_trees t ts) (suc j) e = nth-renamed to (suc k) m ts j (omega (arith, e))

-- what a block declares
block-renamed : (to : NewName Name) (depth : ℕ) (t : TreeOf Name) → map declarations (own_scope depth (renamed to t)) ≡ map declarations (own_scope depth t)
block-renamed to depth (var n) = refl
block-renamed to depth (literal l) = refl
block-renamed to depth (send r s args) = refl
block-renamed to depth (cascade r ms) = refl
block-renamed to depth (assign n t) = refl
block-renamed to depth (block ps ts ss e) = refl
block-renamed to depth (brace ts) = refl
block-renamed to depth (return t) = refl

-- the scopes round the end of a path
round-renamed : (s : ScopeOf Name) (to : NewName Name) (path : List ℕ) → map declarations (scopes_round (renamed_scope to s) path) ≡ map declarations (scopes_round s path)
round-renamed s to path =
    round-same renamed (λ from k. beyond k from) (λ from t k. ap (λ (ts : TreesOf Name). nth ts k) (children-renamed from t) ∙ nth-renamed from 0 k (children t) k (omega arith)) block-renamed (λ k. beyond k to) s (renamed_scope to s) refl
    (λ k. ap (λ (ts : TreesOf Name). nth ts k) (lines-renamed to 0 s.statements) ∙ nth-renamed to 0 k (statement_trees s.statements) k (omega arith)) path

module _ (s : ScopeOf Name) (to : NewName Name) (path : List ℕ) (n : Name) where
  -- which scope declares a name
  pub local-renamed : local_by text_eq (scopes_round (renamed_scope to s) path) n ≡ local_by text_eq (scopes_round s path) n
  local-renamed = same-local (scopes_round (renamed_scope to s) path) (scopes_round s path) n (round-renamed s to path)

  -- and its place among those that are declared
  pub place-renamed : place_at (renamed_scope to s) path n ≡ place_at s path n
  place-renamed = same-place (renamed_scope to s) s path n (round-renamed s to path)
