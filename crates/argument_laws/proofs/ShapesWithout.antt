-- Shapes of sends whose messages do not pass the argument, and that their code may lose it.
use Rattle.std.proofs.Common.{◌≡◌, ℕ, zero, suc, Option, Some, None, refl, sym, ap, ◌∙◌, subst}
use Rattle.std.specs.Prelude.{Bool, true, false, ◌||◌, if◌then◌else◌, option_map, option_and_then, unwrap_or, codes}
use Rattle.std.proofs.lemmas.Bool.{false≢true}
use Rattle.rb_base.specs.Names.{text_eq}
use Rattle.image_model.specs.ImageNames.{OptionNames}
use Rattle.st_kernel.specs.Selectors.{is_control}
use Rattle.run_model.specs.Values.{Name}
use Rattle.run_model.proofs.RenamingLemmas.{text-same}
use Rattle.resolved_model.specs.ResolvedTrees.{of_word, of_local, of_instance_variable, of_class_side_variable, of_class_variable, of_named_class, of_transcript, of_nothing, ResolvedTree, reading, constant, sending, cascading, assigning, block_of, brace_of, returning, ResolvedTrees, no_nodes, more_nodes, ResolvedCode}
use Rattle.resolved_model.specs.ResolvedShapes.{ResolvedBranch, runs_code, gives_just, ResolvedShape, chooses_way, repeats, as_message, plain_code, one_code, with_code, with_codes, with_repeat, resolved_shape}
use Rattle.resolved_model.specs.ResolvedEval.{reads_super}
use Rattle.argument_laws.specs.ArgumentGone.{nodes_without, arguments_without, tree_without, trees_without, block_without}
use Rattle.argument_laws.specs.PlainArguments.{MayLose, MayLoseEach}
use Rattle.argument_laws.proofs.Gaps.{BlockMayLose}

module _ (s : Name) (k : ℕ) (gap : Option ℕ) where
  -- a branch
  abbrev pub branch_without : ResolvedBranch → ResolvedBranch
  branch_without (runs_code c) = runs_code (block_without s k gap c)
  branch_without (gives_just v) = gives_just v

  -- a shape
  abbrev pub shape_without : ResolvedShape → ResolvedShape
  shape_without (chooses_way a b) = chooses_way (branch_without a) (branch_without b)
  shape_without (repeats sense a b) = repeats sense (block_without s k gap a) (block_without s k gap b)
  shape_without as_message = as_message

  -- a branch whose code may lose the argument
  abbrev pub BranchMayLose : ResolvedBranch → Type 0
  BranchMayLose (runs_code c) = BlockMayLose s k gap c
  BranchMayLose (gives_just v) = Unit {0}

  -- a shape
  abbrev pub ShapeMayLose : ResolvedShape → Type 0
  ShapeMayLose (chooses_way a b) = BranchMayLose a × BranchMayLose b
  ShapeMayLose (repeats sense a b) = BlockMayLose s k gap a × BlockMayLose s k gap b
  ShapeMayLose as_message = Unit {0}

  -- a plain block
  plain-after : (t : ResolvedTree) → plain_code (tree_without s k gap t) ≡ option_map (block_without s k gap) (plain_code t)
  plain-after (block_of zero ts ss) = refl
  plain-after (block_of (suc p) ts ss) = refl
  plain-after (reading r) = refl
  plain-after (constant l) = refl
  plain-after (sending r u args) = refl
  plain-after (cascading r ms) = refl
  plain-after (assigning n t) = refl
  plain-after (brace_of ts) = refl
  plain-after (returning t) = refl

  -- one plain block
  one-after : (args : ResolvedTrees) → one_code (trees_without s k gap args) ≡ option_map (block_without s k gap) (one_code args)
  one-after no_nodes = refl
  one-after (more_nodes t no_nodes) = plain-after t
  one-after (more_nodes t (more_nodes u us)) = refl

  -- the shape by one block that there may be
  one-shape : (o : Option ResolvedCode) (go : ResolvedCode → ResolvedShape) → ((b : ResolvedCode) → go (block_without s k gap b) ≡ shape_without (go b)) → unwrap_or (option_map go (option_map (block_without s k gap) o)) as_message ≡ shape_without (unwrap_or (option_map go o) as_message)
  one-shape (Some b) go h = h b
  one-shape None go h = refl

  -- the shape by two blocks that there may be
  two-shape : (o p : Option ResolvedCode) (go : ResolvedCode → ResolvedCode → ResolvedShape) → ((a b : ResolvedCode) → go (block_without s k gap a) (block_without s k gap b) ≡ shape_without (go a b)) →
      unwrap_or (option_map (λ (x : ResolvedCode × ResolvedCode). go x.0 x.1) (option_and_then (λ a. option_map (λ b. (a, b)) (option_map (block_without s k gap) p)) (option_map (block_without s k gap) o))) as_message
      ≡ shape_without (unwrap_or (option_map (λ (x : ResolvedCode × ResolvedCode). go x.0 x.1) (option_and_then (λ a. option_map (λ b. (a, b)) p) o)) as_message)
  two-shape (Some a) (Some b) go h = h a b
  two-shape (Some a) None go h = refl
  two-shape None p go h = refl

  -- a send with one block
  with_code-after : (args : ResolvedTrees) (go : ResolvedCode → ResolvedShape) → ((b : ResolvedCode) → go (block_without s k gap b) ≡ shape_without (go b)) → with_code (trees_without s k gap args) go ≡ shape_without (with_code args go)
  with_code-after args go h = ap (λ o. unwrap_or (option_map go o) as_message) (one-after args) ∙ one-shape (one_code args) go h

  -- a send with two blocks
  with_codes-after : (args : ResolvedTrees) (go : ResolvedCode → ResolvedCode → ResolvedShape) → ((a b : ResolvedCode) → go (block_without s k gap a) (block_without s k gap b) ≡ shape_without (go a b)) → with_codes (trees_without s k gap args) go ≡ shape_without (with_codes args go)
  with_codes-after no_nodes go h = refl
  with_codes-after (more_nodes t us) go h =
      ap (λ o. unwrap_or (option_map (λ (x : ResolvedCode × ResolvedCode). go x.0 x.1) (option_and_then (λ a. option_map (λ b. (a, b)) (one_code (trees_without s k gap us))) o)) as_message) (plain-after t)
      ∙ ap (λ p. unwrap_or (option_map (λ (x : ResolvedCode × ResolvedCode). go x.0 x.1) (option_and_then (λ a. option_map (λ b. (a, b)) p) (option_map (block_without s k gap) (plain_code t)))) as_message) (one-after us)
      ∙ two-shape (plain_code t) (one_code us) go h

  -- a loop by the block of its body
  loop-shape : (sense : Bool) (a : ResolvedCode) (o : Option ResolvedCode) → unwrap_or (option_map (λ b. repeats sense (block_without s k gap a) b) (option_map (block_without s k gap) o)) as_message ≡ shape_without (unwrap_or (option_map (λ b. repeats sense a b) o) as_message)
  loop-shape sense a (Some b) = refl
  loop-shape sense a None = refl

  -- and by that of its test
  test-shape : (args : ResolvedTrees) (sense : Bool) (o : Option ResolvedCode) → unwrap_or (option_map (λ a. with_code (trees_without s k gap args) (λ b. repeats sense a b)) (option_map (block_without s k gap) o)) as_message ≡ shape_without (unwrap_or (option_map (λ a. with_code args (λ b. repeats sense a b)) o) as_message)
  test-shape args sense (Some a) = ap (λ o. unwrap_or (option_map (λ b. repeats sense (block_without s k gap a) b) o) as_message) (one-after args) ∙ loop-shape sense a (one_code args)
  test-shape args sense None = refl

  -- a loop
  with_repeat-after : (r : ResolvedTree) (args : ResolvedTrees) (sense : Bool) → with_repeat (tree_without s k gap r) (trees_without s k gap args) sense ≡ shape_without (with_repeat r args sense)
  with_repeat-after r args sense =
      ap (λ o. unwrap_or (option_map (λ a. with_code (trees_without s k gap args) (λ b. repeats sense a b)) o) as_message) (plain-after r) ∙ test-shape args sense (plain_code r)

  -- by a condition
  if-shape : (b : Bool) (x y x' y' : ResolvedShape) → x' ≡ shape_without x → y' ≡ shape_without y → (if b then x' else y') ≡ shape_without (if b then x else y)
  if-shape true x y x' y' p q = p
  if-shape false x y x' y' p q = q

  -- whether a node is `super`
  pub super-after : (t : ResolvedTree) → reads_super (tree_without s k gap t) ≡ reads_super t
  super-after (reading (of_word n)) = refl
  super-after (reading (of_local n)) = refl
  super-after (reading (of_instance_variable n)) = refl
  super-after (reading (of_class_side_variable n)) = refl
  super-after (reading (of_class_variable c n)) = refl
  super-after (reading (of_named_class c)) = refl
  super-after (reading of_transcript) = refl
  super-after (reading (of_nothing n)) = refl
  super-after (constant l) = refl
  super-after (sending r u args) = refl
  super-after (cascading r ms) = refl
  super-after (assigning n t) = refl
  super-after (block_of ps ts ss) = refl
  super-after (brace_of ts) = refl
  super-after (returning t) = refl

  -- the shape of a send with the arguments that it had
  every-shape : (u : Name) (r : ResolvedTree) (args : ResolvedTrees) → resolved_shape u (tree_without s k gap r) (trees_without s k gap args) ≡ shape_without (resolved_shape u r args)
  unfolding resolved_shape
  every-shape u r args =
      if-shape (text_eq u (codes "ifTrue:")) _ _ _ _ (with_code-after args _ (λ b. refl))
      (if-shape (text_eq u (codes "ifFalse:")) _ _ _ _ (with_code-after args _ (λ b. refl))
      (if-shape (text_eq u (codes "ifTrue:ifFalse:")) _ _ _ _ (with_codes-after args _ (λ a b. refl))
      (if-shape (text_eq u (codes "ifFalse:ifTrue:")) _ _ _ _ (with_codes-after args _ (λ a b. refl))
      (if-shape (text_eq u (codes "and:")) _ _ _ _ (with_code-after args _ (λ b. refl))
      (if-shape (text_eq u (codes "or:")) _ _ _ _ (with_code-after args _ (λ b. refl))
      (if-shape (text_eq u (codes "whileTrue:")) _ _ _ _ (with_repeat-after r args true)
      (if-shape (text_eq u (codes "whileFalse:")) _ _ _ _ (with_repeat-after r args false) refl)))))))

  -- a plain block may lose the argument
  plain-may : (t : ResolvedTree) → MayLose s k gap t → OptionNames (BlockMayLose s k gap) (plain_code t)
  plain-may (block_of zero ts ss) h = h
  plain-may (block_of (suc p) ts ss) h = tt
  plain-may (reading r) h = tt
  plain-may (constant l) h = tt
  plain-may (sending r u args) h = tt
  plain-may (cascading r ms) h = tt
  plain-may (assigning n t) h = tt
  plain-may (brace_of ts) h = tt
  plain-may (returning t) h = tt

  -- one plain block
  one-may : (args : ResolvedTrees) → MayLoseEach s k gap args → OptionNames (BlockMayLose s k gap) (one_code args)
  one-may no_nodes h = tt
  one-may (more_nodes t no_nodes) h = plain-may t h.0
  one-may (more_nodes t (more_nodes u us)) h = tt

  -- the shape by one block that there may be
  one-shape-may : (o : Option ResolvedCode) (go : ResolvedCode → ResolvedShape) → OptionNames (BlockMayLose s k gap) o → ((b : ResolvedCode) → BlockMayLose s k gap b → ShapeMayLose (go b)) → ShapeMayLose (unwrap_or (option_map go o) as_message)
  one-shape-may (Some b) go h f = f b h
  one-shape-may None go h f = tt

  -- the shape by two blocks that there may be
  two-shape-may : (o p : Option ResolvedCode) (go : ResolvedCode → ResolvedCode → ResolvedShape) → OptionNames (BlockMayLose s k gap) o → OptionNames (BlockMayLose s k gap) p → ((a b : ResolvedCode) → BlockMayLose s k gap a → BlockMayLose s k gap b → ShapeMayLose (go a b)) →
      ShapeMayLose (unwrap_or (option_map (λ (x : ResolvedCode × ResolvedCode). go x.0 x.1) (option_and_then (λ a. option_map (λ b. (a, b)) p) o)) as_message)
  two-shape-may (Some a) (Some b) go h f q = q a b h f
  two-shape-may (Some a) None go h f q = tt
  two-shape-may None p go h f q = tt

  -- a send with one block
  with_code-may : (args : ResolvedTrees) (go : ResolvedCode → ResolvedShape) → MayLoseEach s k gap args → ((b : ResolvedCode) → BlockMayLose s k gap b → ShapeMayLose (go b)) → ShapeMayLose (with_code args go)
  with_code-may args go h f = one-shape-may (one_code args) go (one-may args h) f

  -- a send with two blocks
  with_codes-may : (args : ResolvedTrees) (go : ResolvedCode → ResolvedCode → ResolvedShape) → MayLoseEach s k gap args → ((a b : ResolvedCode) → BlockMayLose s k gap a → BlockMayLose s k gap b → ShapeMayLose (go a b)) → ShapeMayLose (with_codes args go)
  with_codes-may no_nodes go h f = tt
  with_codes-may (more_nodes t us) go h f = two-shape-may (plain_code t) (one_code us) go (plain-may t h.0) (one-may us h.1) f

  -- a loop
  with_repeat-may : (r : ResolvedTree) (args : ResolvedTrees) (sense : Bool) → MayLose s k gap r → MayLoseEach s k gap args → ShapeMayLose (with_repeat r args sense)
  with_repeat-may r args sense h f =
      one-shape-may (plain_code r) (λ a. with_code args (λ b. repeats sense a b)) (plain-may r h) (λ a p. with_code-may args (λ b. repeats sense a b) f (λ b q. (p, q)))

  -- by a condition
  if-may : (b : Bool) (x y : ResolvedShape) → ShapeMayLose x → ShapeMayLose y → ShapeMayLose (if b then x else y)
  if-may true x y p q = p
  if-may false x y p q = q

  -- the shape of a send
  pub shape-may : (u : Name) (r : ResolvedTree) (args : ResolvedTrees) → MayLose s k gap r → MayLoseEach s k gap args → ShapeMayLose (resolved_shape u r args)
  unfolding resolved_shape
  shape-may u r args h f =
      if-may (text_eq u (codes "ifTrue:")) _ _ (with_code-may args _ f (λ b p. (p, tt)))
      (if-may (text_eq u (codes "ifFalse:")) _ _ (with_code-may args _ f (λ b p. (tt, p)))
      (if-may (text_eq u (codes "ifTrue:ifFalse:")) _ _ (with_codes-may args _ f (λ a b p q. (p, q)))
      (if-may (text_eq u (codes "ifFalse:ifTrue:")) _ _ (with_codes-may args _ f (λ a b p q. (q, p)))
      (if-may (text_eq u (codes "and:")) _ _ (with_code-may args _ f (λ b p. (p, tt)))
      (if-may (text_eq u (codes "or:")) _ _ (with_code-may args _ f (λ b p. (tt, p)))
      (if-may (text_eq u (codes "whileTrue:")) _ _ (with_repeat-may r args true h f)
      (if-may (text_eq u (codes "whileFalse:")) _ _ (with_repeat-may r args false h f) tt)))))))

-- eight tests one after the other, where none holds
eight : {X : Type 0} (a b c d e f g h : Bool) (x1 x2 x3 x4 x5 x6 x7 x8 y : X) → (a || (b || (c || (d || (e || (f || (g || (h || false)))))))) ≡ false →
    (if a then x1 else if b then x2 else if c then x3 else if d then x4 else if e then x5 else if f then x6 else if g then x7 else if h then x8 else y) ≡ y
eight false false false false false false false false x1 x2 x3 x4 x5 x6 x7 x8 y p = refl
eight a b c d e f g h x1 x2 x3 x4 x5 x6 x7 x8 y p = absurd (false≢true (sym p))

-- a send of a selector that is none of control sends is a message
pub message-shape : (s : Name) (r : ResolvedTree) (args : ResolvedTrees) → is_control s ≡ false → resolved_shape s r args ≡ as_message
unfolding resolved_shape is_control
message-shape s r args h =
    eight (text_eq s (codes "ifTrue:")) (text_eq s (codes "ifFalse:")) (text_eq s (codes "ifTrue:ifFalse:")) (text_eq s (codes "ifFalse:ifTrue:")) (text_eq s (codes "and:")) (text_eq s (codes "or:"))
    (text_eq s (codes "whileTrue:")) (text_eq s (codes "whileFalse:")) _ _ _ _ _ _ _ _ as_message h

module _ (s : Name) (k : ℕ) (apart : is_control s ≡ false) (gap : Option ℕ) where
  -- by whether the selector is the one whose argument goes
  shape-by : (u : Name) (r : ResolvedTree) (args : ResolvedTrees) (b : Bool) → text_eq s u ≡ b →
      resolved_shape u (tree_without s k gap r) (if b then nodes_without k (trees_without s k gap args) else trees_without s k gap args) ≡ shape_without s k gap (resolved_shape u r args)
  shape-by u r args true e =
      let control : is_control u ≡ false = subst (λ x. is_control x ≡ false) (text-same s u e) apart in
      message-shape u (tree_without s k gap r) (nodes_without k (trees_without s k gap args)) control ∙ ap (shape_without s k gap) (sym (message-shape u r args control))
  shape-by u r args false e = every-shape s k gap u r args

  -- the shape of a send
  pub shape-after : (u : Name) (r : ResolvedTree) (args : ResolvedTrees) → resolved_shape u (tree_without s k gap r) (arguments_without s k u (trees_without s k gap args)) ≡ shape_without s k gap (resolved_shape u r args)
  shape-after u r args = shape-by u r args (text_eq s u) refl
