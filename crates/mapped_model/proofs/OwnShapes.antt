-- Code of control sends with no variables but its own.
use Rattle.std.proofs.Common.{zero, suc, Option, Some, None}
use Rattle.std.specs.Prelude.{Bool, true, false, if◌then◌else◌, option_map, option_and_then, unwrap_or, codes}
use Rattle.rb_base.specs.Names.{text_eq}
use Rattle.image_model.specs.ImageNames.{OptionNames}
use Rattle.run_model.specs.Values.{Name}
use Rattle.resolved_model.specs.ResolvedTrees.{ResolvedTree, reading, constant, sending, cascading, assigning, block_of, brace_of, returning, ResolvedTrees, no_nodes, more_nodes, ResolvedCode}
use Rattle.resolved_model.specs.ResolvedShapes.{ResolvedBranch, runs_code, gives_just, ResolvedShape, chooses_way, repeats, as_message, plain_code, one_code, with_code, with_codes, with_repeat, resolved_shape}
use Rattle.mapped_model.specs.OwnVariables.{OwnTree, OwnTrees, OwnStatements}

module _ (Instance ClassSide : Name → Type 0) where
  -- code
  abbrev pub OwnCode : ResolvedCode → Type 0
  OwnCode c = OwnStatements Instance ClassSide c.statements

  -- a branch
  abbrev pub OwnBranch : ResolvedBranch → Type 0
  OwnBranch (runs_code c) = OwnCode c
  OwnBranch (gives_just v) = Unit {0}

  -- a shape
  abbrev pub OwnShape : ResolvedShape → Type 0
  OwnShape (chooses_way a b) = OwnBranch a × OwnBranch b
  OwnShape (repeats sense a b) = OwnCode a × OwnCode b
  OwnShape as_message = Unit {0}

  -- a plain block
  plain-own : (t : ResolvedTree) → OwnTree Instance ClassSide t → OptionNames OwnCode (plain_code t)
  plain-own (block_of zero ts ss) h = h
  plain-own (block_of (suc p) ts ss) h = tt
  plain-own (reading r) h = tt
  plain-own (constant l) h = tt
  plain-own (sending r s args) h = tt
  plain-own (cascading r ms) h = tt
  plain-own (assigning n t) h = tt
  plain-own (brace_of ts) h = tt
  plain-own (returning t) h = tt

  -- one plain block
  one-own : (args : ResolvedTrees) → OwnTrees Instance ClassSide args → OptionNames OwnCode (one_code args)
  one-own no_nodes h = tt
  one-own (more_nodes t no_nodes) h = plain-own t h.0
  one-own (more_nodes t (more_nodes u us)) h = tt

  -- the shape by one block that there may be
  one-shape : (o : Option ResolvedCode) (go : ResolvedCode → ResolvedShape) → OptionNames OwnCode o → ((b : ResolvedCode) → OwnCode b → OwnShape (go b)) → OwnShape (unwrap_or (option_map go o) as_message)
  one-shape (Some b) go h k = k b h
  one-shape None go h k = tt

  -- the shape by two blocks that there may be
  two-shape : (o p : Option ResolvedCode) (go : ResolvedCode → ResolvedCode → ResolvedShape) → OptionNames OwnCode o → OptionNames OwnCode p → ((a b : ResolvedCode) → OwnCode a → OwnCode b → OwnShape (go a b)) →
      OwnShape (unwrap_or (option_map (λ (x : ResolvedCode × ResolvedCode). go x.0 x.1) (option_and_then (λ a. option_map (λ b. (a, b)) p) o)) as_message)
  two-shape (Some a) (Some b) go h k q = q a b h k
  two-shape (Some a) None go h k q = tt
  two-shape None p go h k q = tt

  -- a send with one block
  with_code-own : (args : ResolvedTrees) (go : ResolvedCode → ResolvedShape) → OwnTrees Instance ClassSide args → ((b : ResolvedCode) → OwnCode b → OwnShape (go b)) → OwnShape (with_code args go)
  with_code-own args go h k = one-shape (one_code args) go (one-own args h) k

  -- a send with two blocks
  with_codes-own : (args : ResolvedTrees) (go : ResolvedCode → ResolvedCode → ResolvedShape) → OwnTrees Instance ClassSide args → ((a b : ResolvedCode) → OwnCode a → OwnCode b → OwnShape (go a b)) → OwnShape (with_codes args go)
  with_codes-own no_nodes go h k = tt
  with_codes-own (more_nodes t us) go h k = two-shape (plain_code t) (one_code us) go (plain-own t h.0) (one-own us h.1) k

  -- a loop
  with_repeat-own : (r : ResolvedTree) (args : ResolvedTrees) (sense : Bool) → OwnTree Instance ClassSide r → OwnTrees Instance ClassSide args → OwnShape (with_repeat r args sense)
  with_repeat-own r args sense h k =
      one-shape (plain_code r) (λ a. with_code args (λ b. repeats sense a b)) (plain-own r h) (λ a p. with_code-own args (λ b. repeats sense a b) k (λ b q. (p, q)))

  -- by a condition
  if-own : (b : Bool) (x y : ResolvedShape) → OwnShape x → OwnShape y → OwnShape (if b then x else y)
  if-own true x y p q = p
  if-own false x y p q = q

  -- the shape of a send
  pub shape-own : (s : Name) (r : ResolvedTree) (args : ResolvedTrees) → OwnTree Instance ClassSide r → OwnTrees Instance ClassSide args → OwnShape (resolved_shape s r args)
  unfolding resolved_shape
  shape-own s r args h k =
      if-own (text_eq s (codes "ifTrue:")) _ _ (with_code-own args _ k (λ b p. (p, tt)))
      (if-own (text_eq s (codes "ifFalse:")) _ _ (with_code-own args _ k (λ b p. (tt, p)))
      (if-own (text_eq s (codes "ifTrue:ifFalse:")) _ _ (with_codes-own args _ k (λ a b p q. (p, q)))
      (if-own (text_eq s (codes "ifFalse:ifTrue:")) _ _ (with_codes-own args _ k (λ a b p q. (q, p)))
      (if-own (text_eq s (codes "and:")) _ _ (with_code-own args _ k (λ b p. (p, tt)))
      (if-own (text_eq s (codes "or:")) _ _ (with_code-own args _ k (λ b p. (tt, p)))
      (if-own (text_eq s (codes "whileTrue:")) _ _ (with_repeat-own r args true h k)
      (if-own (text_eq s (codes "whileFalse:")) _ _ (with_repeat-own r args false h k) tt)))))))
