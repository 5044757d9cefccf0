-- Shapes of sends with mapped names.
use Rattle.std.proofs.Common.{◌≡◌, zero, suc, Option, Some, None, refl, ap, ◌∙◌}
use Rattle.std.specs.Prelude.{Bool, true, false, if◌then◌else◌, option_map, option_and_then, unwrap_or, codes}
use Rattle.rb_base.specs.Names.{text_eq}
use Rattle.run_model.specs.Values.{Name}
use Rattle.resolved_model.specs.ResolvedTrees.{of_word, of_local, of_instance_variable, of_class_side_variable, of_class_variable, of_named_class, of_transcript, of_nothing, ResolvedTree, reading, constant, sending, cascading, assigning, block_of, brace_of, returning, ResolvedTrees, no_nodes, more_nodes, ResolvedCode}
use Rattle.resolved_model.specs.ResolvedShapes.{ResolvedBranch, runs_code, gives_just, ResolvedShape, chooses_way, repeats, as_message, plain_code, one_code, with_code, with_codes, with_repeat, resolved_shape}
use Rattle.resolved_model.specs.ResolvedEval.{reads_super}
use Rattle.mapped_model.specs.NameMaps.{NameMaps, IsOneToOne, KeepsWords}
use Rattle.mapped_model.specs.MappedImages.{mapped_tree, mapped_trees, mapped_code}
use Rattle.mapped_model.proofs.Tests.{mapped-word}
use Rattle.mapped_model.proofs.ValuesMapped.{mapped_value}

module _ (f : NameMaps) (owner : Name) where
  -- a branch
  abbrev pub mapped_branch : ResolvedBranch → ResolvedBranch
  mapped_branch (runs_code c) = runs_code (mapped_code f owner c)
  mapped_branch (gives_just v) = gives_just (mapped_value f v)

  -- a shape
  abbrev pub mapped_shape : ResolvedShape → ResolvedShape
  mapped_shape (chooses_way a b) = chooses_way (mapped_branch a) (mapped_branch b)
  mapped_shape (repeats sense a b) = repeats sense (mapped_code f owner a) (mapped_code f owner b)
  mapped_shape as_message = as_message

  -- a plain block
  plain-after : (t : ResolvedTree) → plain_code (mapped_tree f owner t) ≡ option_map (mapped_code f owner) (plain_code t)
  plain-after (block_of zero ts ss) = refl
  plain-after (block_of (suc p) ts ss) = refl
  plain-after (reading r) = refl
  plain-after (constant l) = refl
  plain-after (sending r s args) = refl
  plain-after (cascading r ms) = refl
  plain-after (assigning n t) = refl
  plain-after (brace_of ts) = refl
  plain-after (returning t) = refl

  -- one plain block
  one-after : (args : ResolvedTrees) → one_code (mapped_trees f owner args) ≡ option_map (mapped_code f owner) (one_code args)
  one-after no_nodes = refl
  one-after (more_nodes t no_nodes) = plain-after t
  one-after (more_nodes t (more_nodes u us)) = refl

  -- the shape by one block that there may be
  one-shape : (o : Option ResolvedCode) (go : ResolvedCode → ResolvedShape) → ((b : ResolvedCode) → go (mapped_code f owner b) ≡ mapped_shape (go b)) → unwrap_or (option_map go (option_map (mapped_code f owner) o)) as_message ≡ mapped_shape (unwrap_or (option_map go o) as_message)
  one-shape (Some b) go h = h b
  one-shape None go h = refl

  -- the shape by two blocks that there may be
  two-shape : (o p : Option ResolvedCode) (go : ResolvedCode → ResolvedCode → ResolvedShape) → ((a b : ResolvedCode) → go (mapped_code f owner a) (mapped_code f owner b) ≡ mapped_shape (go a b)) →
      unwrap_or (option_map (λ (x : ResolvedCode × ResolvedCode). go x.0 x.1) (option_and_then (λ a. option_map (λ b. (a, b)) (option_map (mapped_code f owner) p)) (option_map (mapped_code f owner) o))) as_message
      ≡ mapped_shape (unwrap_or (option_map (λ (x : ResolvedCode × ResolvedCode). go x.0 x.1) (option_and_then (λ a. option_map (λ b. (a, b)) p) o)) as_message)
  two-shape (Some a) (Some b) go h = h a b
  two-shape (Some a) None go h = refl
  two-shape None p go h = refl

  -- a send with one block
  with_code-after : (args : ResolvedTrees) (go : ResolvedCode → ResolvedShape) → ((b : ResolvedCode) → go (mapped_code f owner b) ≡ mapped_shape (go b)) → with_code (mapped_trees f owner args) go ≡ mapped_shape (with_code args go)
  with_code-after args go h = ap (λ o. unwrap_or (option_map go o) as_message) (one-after args) ∙ one-shape (one_code args) go h

  -- a send with two blocks
  with_codes-after : (args : ResolvedTrees) (go : ResolvedCode → ResolvedCode → ResolvedShape) → ((a b : ResolvedCode) → go (mapped_code f owner a) (mapped_code f owner b) ≡ mapped_shape (go a b)) → with_codes (mapped_trees f owner args) go ≡ mapped_shape (with_codes args go)
  with_codes-after no_nodes go h = refl
  with_codes-after (more_nodes t us) go h =
      ap (λ o. unwrap_or (option_map (λ (x : ResolvedCode × ResolvedCode). go x.0 x.1) (option_and_then (λ a. option_map (λ b. (a, b)) (one_code (mapped_trees f owner us))) o)) as_message) (plain-after t)
      ∙ ap (λ p. unwrap_or (option_map (λ (x : ResolvedCode × ResolvedCode). go x.0 x.1) (option_and_then (λ a. option_map (λ b. (a, b)) p) (option_map (mapped_code f owner) (plain_code t)))) as_message) (one-after us)
      ∙ two-shape (plain_code t) (one_code us) go h

  -- a loop
  with_repeat-after : (r : ResolvedTree) (args : ResolvedTrees) (sense : Bool) → with_repeat (mapped_tree f owner r) (mapped_trees f owner args) sense ≡ mapped_shape (with_repeat r args sense)
  with_repeat-after r args sense =
      ap (λ o. unwrap_or (option_map (λ a. with_code (mapped_trees f owner args) (λ b. repeats sense a b)) o) as_message) (plain-after r)
      ∙ by (plain_code r)
    where
      by : (o : Option ResolvedCode) → unwrap_or (option_map (λ a. with_code (mapped_trees f owner args) (λ b. repeats sense a b)) (option_map (mapped_code f owner) o)) as_message ≡ mapped_shape (unwrap_or (option_map (λ a. with_code args (λ b. repeats sense a b)) o) as_message)
      by (Some a) = ap (λ o. unwrap_or (option_map (λ b. repeats sense (mapped_code f owner a) b) o) as_message) (one-after args) ∙ blocks (one_code args)
        where
          blocks : (o : Option ResolvedCode) → unwrap_or (option_map (λ b. repeats sense (mapped_code f owner a) b) (option_map (mapped_code f owner) o)) as_message ≡ mapped_shape (unwrap_or (option_map (λ b. repeats sense a b) o) as_message)
          blocks (Some b) = refl
          blocks None = refl
      by None = refl

  -- by a condition
  if-shape : (b b' : Bool) (x y x' y' : ResolvedShape) → b' ≡ b → x' ≡ mapped_shape x → y' ≡ mapped_shape y → (if b' then x' else y') ≡ mapped_shape (if b then x else y)
  if-shape b b' x y x' y' e p q = ap (λ c. if c then x' else y') e ∙ by b
    where
      by : (b : Bool) → (if b then x' else y') ≡ mapped_shape (if b then x else y)
      by true = p
      by false = q

  -- whether a node is `super`
  pub super-after : (t : ResolvedTree) → reads_super (mapped_tree f owner t) ≡ reads_super t
  super-after (reading (of_word n)) = refl
  super-after (reading (of_local k)) = refl
  super-after (reading (of_instance_variable n)) = refl
  super-after (reading (of_class_side_variable n)) = refl
  super-after (reading (of_class_variable c n)) = refl
  super-after (reading (of_named_class c)) = refl
  super-after (reading of_transcript) = refl
  super-after (reading (of_nothing n)) = refl
  super-after (constant l) = refl
  super-after (sending r s args) = refl
  super-after (cascading r ms) = refl
  super-after (assigning n t) = refl
  super-after (block_of ps ts ss) = refl
  super-after (brace_of ts) = refl
  super-after (returning t) = refl

  module _ (single : IsOneToOne f) (keeps : KeepsWords f) where
    -- whether a selector is one that is kept
    word : (w : Name) → f.selector w ≡ w → (s : Name) → text_eq (f.selector s) w ≡ text_eq s w
    word w e s = mapped-word f.selector single.selector w e s

    -- the shape of a send
    pub shape-after : (s : Name) (r : ResolvedTree) (args : ResolvedTrees) → resolved_shape (f.selector s) (mapped_tree f owner r) (mapped_trees f owner args) ≡ mapped_shape (resolved_shape s r args)
    unfolding resolved_shape
    shape-after s r args =
        if-shape (text_eq s (codes "ifTrue:")) _ _ _ _ _ (word _ keeps.one_block.0 s) (with_code-after args _ (λ b. refl))
        (if-shape (text_eq s (codes "ifFalse:")) _ _ _ _ _ (word _ keeps.one_block.1.0 s) (with_code-after args _ (λ b. refl))
        (if-shape (text_eq s (codes "ifTrue:ifFalse:")) _ _ _ _ _ (word _ keeps.two_blocks.0 s) (with_codes-after args _ (λ a b. refl))
        (if-shape (text_eq s (codes "ifFalse:ifTrue:")) _ _ _ _ _ (word _ keeps.two_blocks.1.0 s) (with_codes-after args _ (λ a b. refl))
        (if-shape (text_eq s (codes "and:")) _ _ _ _ _ (word _ keeps.one_block.1.1.0 s) (with_code-after args _ (λ b. refl))
        (if-shape (text_eq s (codes "or:")) _ _ _ _ _ (word _ keeps.one_block.1.1.1.0 s) (with_code-after args _ (λ b. refl))
        (if-shape (text_eq s (codes "whileTrue:")) _ _ _ _ _ (word _ keeps.loops.0 s) (with_repeat-after r args true)
        (if-shape (text_eq s (codes "whileFalse:")) _ _ _ _ _ (word _ keeps.loops.1.0 s) (with_repeat-after r args false) refl)))))))
