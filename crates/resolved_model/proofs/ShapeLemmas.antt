-- Shapes of sends once their names are resolved.
use Rattle.std.proofs.Common.{◌≡◌, List, [], ◌∷◌, Option, Some, None, refl, ap, ◌∙◌}
use Rattle.std.specs.Prelude.{Bool, true, false, if◌then◌else◌, option_map, option_and_then, unwrap_or, codes}
use Rattle.rb_base.specs.Names.{text_eq}
use Rattle.tree_model.specs.Tree.{TreeOf, var, literal, send, cascade, assign, block, brace, return, TreesOf, no_trees, more_trees, SequenceOf}
use Rattle.image_model.specs.Means.{MeaningOf}
use Rattle.run_model.specs.Values.{Name}
use Rattle.run_model.specs.Shapes.{Branch, runs, is_just, Shape, two_ways, loops, a_message, plain_block, one_block, with_block, with_blocks, with_loop, shape_of}
use Rattle.resolved_model.specs.ResolvedTrees.{ResolvedCode}
use Rattle.resolved_model.specs.ResolvedShapes.{ResolvedBranch, runs_code, gives_just, ResolvedShape, chooses_way, repeats, as_message, plain_code, one_code, with_code, with_codes, with_repeat, resolved_shape}
use Rattle.resolved_model.specs.Environments.{Declared, tree_in, trees_in, code_in}

module _ (g : Name → MeaningOf Name) (env : List Declared) where
  -- a block that is run in place, with its names resolved
  abbrev pub plain_in : SequenceOf Name → ResolvedCode
  plain_in b = code_in g env [] b

  -- a branch with its names resolved
  abbrev pub branch_in : Branch → ResolvedBranch
  branch_in (runs b) = runs_code (plain_in b)
  branch_in (is_just v) = gives_just v

  -- a shape with its names resolved
  abbrev pub shape_in : Shape → ResolvedShape
  shape_in (two_ways a b) = chooses_way (branch_in a) (branch_in b)
  shape_in (loops sense a b) = repeats sense (plain_in a) (plain_in b)
  shape_in a_message = as_message

  -- a plain block
  plain-in : (t : TreeOf Name) → plain_code (tree_in g env t) ≡ option_map plain_in (plain_block t)
  plain-in (block [] ts ss e) = refl
  plain-in (block (p ∷ ps) ts ss e) = refl
  plain-in (var n) = refl
  plain-in (literal l) = refl
  plain-in (send r s args) = refl
  plain-in (cascade r ms) = refl
  plain-in (assign n t) = refl
  plain-in (brace ts) = refl
  plain-in (return t) = refl

  -- one plain block
  one-in : (args : TreesOf Name) → one_code (trees_in g env args) ≡ option_map plain_in (one_block args)
  one-in no_trees = refl
  one-in (more_trees t no_trees) = plain-in t
  one-in (more_trees t (more_trees u us)) = refl

  -- the shape by one block that there may be
  one-shape : (o : Option (SequenceOf Name)) (go : SequenceOf Name → Shape) (go' : ResolvedCode → ResolvedShape) → ((b : SequenceOf Name) → go' (plain_in b) ≡ shape_in (go b)) → unwrap_or (option_map go' (option_map plain_in o)) as_message ≡ shape_in (unwrap_or (option_map go o) a_message)
  one-shape (Some b) go go' h = h b
  one-shape None go go' h = refl

  -- the shape by two blocks that there may be
  two-shape : (o p : Option (SequenceOf Name)) (go : SequenceOf Name → SequenceOf Name → Shape) (go' : ResolvedCode → ResolvedCode → ResolvedShape) → ((a b : SequenceOf Name) → go' (plain_in a) (plain_in b) ≡ shape_in (go a b)) →
      unwrap_or (option_map (λ (x : ResolvedCode × ResolvedCode). go' x.0 x.1) (option_and_then (λ a. option_map (λ b. (a, b)) (option_map plain_in p)) (option_map plain_in o))) as_message
      ≡ shape_in (unwrap_or (option_map (λ (x : SequenceOf Name × SequenceOf Name). go x.0 x.1) (option_and_then (λ a. option_map (λ b. (a, b)) p) o)) a_message)
  two-shape (Some a) (Some b) go go' h = h a b
  two-shape (Some a) None go go' h = refl
  two-shape None p go go' h = refl

  -- a send with one block
  with_code-in : (args : TreesOf Name) (go : SequenceOf Name → Shape) (go' : ResolvedCode → ResolvedShape) → ((b : SequenceOf Name) → go' (plain_in b) ≡ shape_in (go b)) → with_code (trees_in g env args) go' ≡ shape_in (with_block args go)
  with_code-in args go go' h = ap (λ o. unwrap_or (option_map go' o) as_message) (one-in args) ∙ one-shape (one_block args) go go' h

  -- a send with two blocks
  with_codes-in : (args : TreesOf Name) (go : SequenceOf Name → SequenceOf Name → Shape) (go' : ResolvedCode → ResolvedCode → ResolvedShape) → ((a b : SequenceOf Name) → go' (plain_in a) (plain_in b) ≡ shape_in (go a b)) → with_codes (trees_in g env args) go' ≡ shape_in (with_blocks args go)
  with_codes-in no_trees go go' h = refl
  with_codes-in (more_trees t us) go go' h =
      ap (λ o. unwrap_or (option_map (λ (x : ResolvedCode × ResolvedCode). go' x.0 x.1) (option_and_then (λ a. option_map (λ b. (a, b)) (one_code (trees_in g env us))) o)) as_message) (plain-in t)
      ∙ ap (λ p. unwrap_or (option_map (λ (x : ResolvedCode × ResolvedCode). go' x.0 x.1) (option_and_then (λ a. option_map (λ b. (a, b)) p) (option_map plain_in (plain_block t)))) as_message) (one-in us)
      ∙ two-shape (plain_block t) (one_block us) go go' h

  -- a loop
  with_repeat-in : (r : TreeOf Name) (args : TreesOf Name) (sense : Bool) → with_repeat (tree_in g env r) (trees_in g env args) sense ≡ shape_in (with_loop r args sense)
  with_repeat-in r args sense =
      ap (λ o. unwrap_or (option_map (λ a. with_code (trees_in g env args) (λ b. repeats sense a b)) o) as_message) (plain-in r)
      ∙ by (plain_block r) (λ a. with_code-in args (λ b. loops sense a b) (λ b. repeats sense (plain_in a) b) (λ b. refl))
    where
      by : (o : Option (SequenceOf Name)) → ((a : SequenceOf Name) → with_code (trees_in g env args) (λ b. repeats sense (plain_in a) b) ≡ shape_in (with_block args (λ b. loops sense a b))) →
          unwrap_or (option_map (λ a. with_code (trees_in g env args) (λ b. repeats sense a b)) (option_map plain_in o)) as_message ≡ shape_in (unwrap_or (option_map (λ a. with_block args (λ b. loops sense a b)) o) a_message)
      by (Some a) h = h a
      by None h = refl

  -- by a condition
  if-shape : (b : Bool) (x y : Shape) (x' y' : ResolvedShape) → x' ≡ shape_in x → y' ≡ shape_in y → (if b then x' else y') ≡ shape_in (if b then x else y)
  if-shape true x y x' y' p q = p
  if-shape false x y x' y' p q = q

  -- the shape of a send
  pub shape-in : (s : Name) (r : TreeOf Name) (args : TreesOf Name) → resolved_shape s (tree_in g env r) (trees_in g env args) ≡ shape_in (shape_of s r args)
  unfolding shape_of resolved_shape
  shape-in s r args =
      if-shape (text_eq s (codes "ifTrue:")) _ _ _ _ (with_code-in args _ _ (λ b. refl))
      (if-shape (text_eq s (codes "ifFalse:")) _ _ _ _ (with_code-in args _ _ (λ b. refl))
      (if-shape (text_eq s (codes "ifTrue:ifFalse:")) _ _ _ _ (with_codes-in args _ _ (λ a b. refl))
      (if-shape (text_eq s (codes "ifFalse:ifTrue:")) _ _ _ _ (with_codes-in args _ _ (λ a b. refl))
      (if-shape (text_eq s (codes "and:")) _ _ _ _ (with_code-in args _ _ (λ b. refl))
      (if-shape (text_eq s (codes "or:")) _ _ _ _ (with_code-in args _ _ (λ b. refl))
      (if-shape (text_eq s (codes "whileTrue:")) _ _ _ _ (with_repeat-in r args true)
      (if-shape (text_eq s (codes "whileFalse:")) _ _ _ _ (with_repeat-in r args false) refl)))))))
