-- Scopes that are the same but for comments declare the same.
use Rattle.std.proofs.Common.{◌≡◌, ℕ, zero, suc, ◌+◌, Bool, cond, List, [], ◌∷◌, ◌++◌, map, Option, Some, None, option_map, unwrap_or, refl, sym, ap, ◌∙◌}
use Rattle.std.proofs.lemmas.List.{map-append}
use Rattle.tree_model.specs.Tree.{TreeOf, var, literal, send, cascade, assign, block, brace, return, TreesOf, no_trees, more_trees, MessagesOf, no_messages, more_messages, StatementsOf, no_statements, more_statements}
use Rattle.tree_model.specs.Bare.{bare, bare_trees, bare_messages, bare_statements}
use Rattle.tree_model.specs.Path.{append, nth, all_arguments, statement_trees, children, child}
use Rattle.scope_model.specs.declared.local.Local.{Local}
use Rattle.scope_model.specs.declared.local.Local.TheVariants.{Argument, Temporary}
use Rattle.scope_model.specs.Scope.{ScopeOf, PlacedScope, own_scope, entered, scopes_round, is_among, local_by}

module _ {N : Type 0} where
  -- a scope without its comments
  abbrev pub bare_scope : ScopeOf N → ScopeOf N
  bare_scope s = record { arguments = s.arguments; temporaries = s.temporaries; statements = bare_statements s.statements }

  abbrev bare_placed : PlacedScope N → PlacedScope N
  bare_placed p = (p.0, bare_scope p.1)

  -- the nodes right below a node
  append-bare : (ts us : TreesOf N) → append (bare_trees ts) (bare_trees us) ≡ bare_trees (append ts us)
  append-bare no_trees us = refl
  append-bare (more_trees t ts) us = ap (more_trees (bare t)) (append-bare ts us)

  arguments-bare : (ms : MessagesOf N) → all_arguments (bare_messages ms) ≡ bare_trees (all_arguments ms)
  arguments-bare no_messages = refl
  arguments-bare (more_messages s args ms) = ap (append (bare_trees args)) (arguments-bare ms) ∙ append-bare args (all_arguments ms)

  statements-bare : (ss : StatementsOf N) → statement_trees (bare_statements ss) ≡ bare_trees (statement_trees ss)
  statements-bare no_statements = refl
  statements-bare (more_statements c t ss) = ap (more_trees (bare t)) (statements-bare ss)

  children-bare : (t : TreeOf N) → children (bare t) ≡ bare_trees (children t)
  children-bare (var n) = refl
  children-bare (literal l) = refl
  children-bare (send r s args) = refl
  children-bare (cascade r ms) = ap (more_trees (bare r)) (arguments-bare ms)
  children-bare (assign n t) = refl
  children-bare (block ps ts ss e) = statements-bare ss
  children-bare (brace ts) = refl
  children-bare (return t) = refl

  nth-bare : (ts : TreesOf N) (k : ℕ) → nth (bare_trees ts) k ≡ option_map bare (nth ts k)
  nth-bare no_trees k = refl
  nth-bare (more_trees t ts) zero = refl
  nth-bare (more_trees t ts) (suc k) = nth-bare ts k

  own-bare : (d : ℕ) (t : TreeOf N) → own_scope d (bare t) ≡ map bare_placed (own_scope d t)
  own-bare d (var n) = refl
  own-bare d (literal l) = refl
  own-bare d (send r s args) = refl
  own-bare d (cascade r ms) = refl
  own-bare d (assign n t) = refl
  own-bare d (block ps ts ss e) = refl
  own-bare d (brace ts) = refl
  own-bare d (return t) = refl

  -- on from a node that may be there
  on-bare : (go : TreeOf N → List (PlacedScope N)) → ((t : TreeOf N) → go (bare t) ≡ map bare_placed (go t)) → (o : Option (TreeOf N)) → unwrap_or (option_map go (option_map bare o)) [] ≡ map bare_placed (unwrap_or (option_map go o) [])
  on-bare go h None = refl
  on-bare go h (Some t) = h t

  -- the blocks that a path enters
  entered-bare : (path : List ℕ) (d : ℕ) (t : TreeOf N) → entered d (bare t) path ≡ map bare_placed (entered d t path)
  entered-bare [] d t = refl
  entered-bare (k ∷ ks) d t =
      (λ i. unwrap_or (option_map (λ c. entered (d + 1) c ks) ((ap (λ ts. nth ts k) (children-bare t) ∙ nth-bare (children t) k) i)) [] ++ own-bare d t i)
      ∙ ap (λ ps. ps ++ map bare_placed (own_scope d t)) (on-bare (λ c. entered (d + 1) c ks) (entered-bare ks (d + 1)) (child t k))
      ∙ sym (map-append bare_placed (unwrap_or (option_map (λ c. entered (d + 1) c ks) (child t k)) []) (own_scope d t))

  round-bare : (s : ScopeOf N) (path : List ℕ) → scopes_round (bare_scope s) path ≡ map bare_placed (scopes_round s path)
  round-bare s [] = refl
  round-bare s (k ∷ ks) =
      ap (λ o. unwrap_or (option_map (λ c. entered 1 c ks) o) [] ++ (0, bare_scope s) ∷ []) (ap (λ ts. nth ts k) (statements-bare s.statements) ∙ nth-bare (statement_trees s.statements) k)
      ∙ ap (λ ps. ps ++ (0, bare_scope s) ∷ []) (on-bare (λ c. entered 1 c ks) (entered-bare ks 1) (nth (statement_trees s.statements) k))
      ∙ sym (map-append bare_placed (unwrap_or (option_map (λ c. entered 1 c ks) (nth (statement_trees s.statements) k)) []) ((0, s) ∷ []))

  -- what scopes say of a name
  local-bare : (same : N → N → Bool) (ps : List (PlacedScope N)) (x : N) → local_by same (map bare_placed ps) x ≡ local_by same ps x
  local-bare same [] x = refl
  local-bare same (p ∷ ps) x =
      ap (λ (l : Local). cond (is_among same p.1.arguments x) (Argument p.0) (cond (is_among same p.1.temporaries x) (Temporary p.0) l)) (local-bare same ps x)

  pub local-same : (same : N → N → Bool) (s r : ScopeOf N) → bare_scope s ≡ bare_scope r → (path : List ℕ) (x : N) → local_by same (scopes_round s path) x ≡ local_by same (scopes_round r path) x
  local-same same s r e path x =
      sym (local-bare same (scopes_round s path) x)
      ∙ ap (λ ps. local_by same ps x) (sym (round-bare s path) ∙ (ap (λ z. scopes_round z path) e ∙ round-bare r path))
      ∙ local-bare same (scopes_round r path) x
