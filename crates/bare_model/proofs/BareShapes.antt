-- Shapes of sends and primitives, without comments.
use Rattle.std.proofs.Common.{◌≡◌, List, [], ◌∷◌, length, Option, Some, None, refl, ap, ◌∙◌}
use mathlib.Core.Path.{fun_ext}
use Rattle.std.specs.Prelude.{Bool, true, false, if◌then◌else◌, map, slice_get, option_map, option_and_then, unwrap_or, codes}
use Rattle.std.specs.List.{AllByRecursion}
use Rattle.std.proofs.lemmas.Option.{slice_get-map}
use Rattle.rb_base.specs.Names.{text_eq}
use Rattle.tree_model.specs.Tree.{TreeOf, var, literal, send, cascade, assign, block, brace, return, TreesOf, no_trees, more_trees, SequenceOf}
use Rattle.tree_model.specs.Bare.{bare, bare_trees, bare_sequence}
use Rattle.image_model.specs.Image.{ClassOf}
use Rattle.image_model.specs.Replaced.{KeepsHierarchy}
use Rattle.run_model.specs.Values.{Name}
use Rattle.run_model.specs.Store.{Closure, arity_in}
use Rattle.run_model.specs.Calls.{Call}
use Rattle.run_model.specs.Primitives.{primitive}
use Rattle.run_model.specs.Shapes.{Branch, runs, is_just, Shape, two_ways, loops, a_message, plain_block, one_block, with_block, with_blocks, with_loop, shape_of}
use Rattle.run_model.specs.Eval.{is_super}
use Rattle.run_model.proofs.PrimitiveLemmas.{primitive-kept}
use Rattle.bare_model.specs.BareImages.{bare_class}
use Rattle.bare_model.proofs.BareStores.{bare_closure}

-- a branch without comments
abbrev pub bare_branch : Branch → Branch
bare_branch (runs b) = runs (bare_sequence b)
bare_branch (is_just v) = is_just v

-- a shape without comments
abbrev pub bare_shape : Shape → Shape
bare_shape (two_ways a b) = two_ways (bare_branch a) (bare_branch b)
bare_shape (loops sense a b) = loops sense (bare_sequence a) (bare_sequence b)
bare_shape a_message = a_message

-- a plain block
plain_block-bare : (t : TreeOf Name) → plain_block (bare t) ≡ option_map bare_sequence (plain_block t)
plain_block-bare (block [] ts ss e) = refl
plain_block-bare (block (p ∷ ps) ts ss e) = refl
plain_block-bare (var n) = refl
plain_block-bare (literal l) = refl
plain_block-bare (send r s args) = refl
plain_block-bare (cascade r ms) = refl
plain_block-bare (assign n t) = refl
plain_block-bare (brace ts) = refl
plain_block-bare (return t) = refl

-- one plain block
one_block-bare : (args : TreesOf Name) → one_block (bare_trees args) ≡ option_map bare_sequence (one_block args)
one_block-bare no_trees = refl
one_block-bare (more_trees t no_trees) = plain_block-bare t
one_block-bare (more_trees t (more_trees u us)) = refl

-- the shape by one block that there may be
one-shape : (o : Option (SequenceOf Name)) (go : SequenceOf Name → Shape) → ((b : SequenceOf Name) → go (bare_sequence b) ≡ bare_shape (go b)) → unwrap_or (option_map go (option_map bare_sequence o)) a_message ≡ bare_shape (unwrap_or (option_map go o) a_message)
one-shape (Some b) go h = h b
one-shape None go h = refl

-- the shape by two blocks that there may be
two-shape : (o p : Option (SequenceOf Name)) (go : SequenceOf Name → SequenceOf Name → Shape) → ((a b : SequenceOf Name) → go (bare_sequence a) (bare_sequence b) ≡ bare_shape (go a b)) →
    unwrap_or (option_map (λ (x : SequenceOf Name × SequenceOf Name). go x.0 x.1) (option_and_then (λ a. option_map (λ b. (a, b)) (option_map bare_sequence p)) (option_map bare_sequence o))) a_message
    ≡ bare_shape (unwrap_or (option_map (λ (x : SequenceOf Name × SequenceOf Name). go x.0 x.1) (option_and_then (λ a. option_map (λ b. (a, b)) p) o)) a_message)
two-shape (Some a) (Some b) go h = h a b
two-shape (Some a) None go h = refl
two-shape None p go h = refl

-- a send with one block
with_block-bare : (args : TreesOf Name) (go : SequenceOf Name → Shape) → ((b : SequenceOf Name) → go (bare_sequence b) ≡ bare_shape (go b)) → with_block (bare_trees args) go ≡ bare_shape (with_block args go)
with_block-bare args go h = ap (λ o. unwrap_or (option_map go o) a_message) (one_block-bare args) ∙ one-shape (one_block args) go h

-- a send with two blocks
with_blocks-bare : (args : TreesOf Name) (go : SequenceOf Name → SequenceOf Name → Shape) → ((a b : SequenceOf Name) → go (bare_sequence a) (bare_sequence b) ≡ bare_shape (go a b)) → with_blocks (bare_trees args) go ≡ bare_shape (with_blocks args go)
with_blocks-bare no_trees go h = refl
with_blocks-bare (more_trees t us) go h =
    ap (λ o. unwrap_or (option_map (λ (x : SequenceOf Name × SequenceOf Name). go x.0 x.1) (option_and_then (λ a. option_map (λ b. (a, b)) (one_block (bare_trees us))) o)) a_message) (plain_block-bare t)
    ∙ ap (λ p. unwrap_or (option_map (λ (x : SequenceOf Name × SequenceOf Name). go x.0 x.1) (option_and_then (λ a. option_map (λ b. (a, b)) p) (option_map bare_sequence (plain_block t)))) a_message) (one_block-bare us)
    ∙ two-shape (plain_block t) (one_block us) go h

-- a loop
with_loop-bare : (r : TreeOf Name) (args : TreesOf Name) (sense : Bool) → with_loop (bare r) (bare_trees args) sense ≡ bare_shape (with_loop r args sense)
with_loop-bare r args sense = ap (λ o. unwrap_or (option_map (λ a. with_block (bare_trees args) (λ b. loops sense a b)) o) a_message) (plain_block-bare r) ∙ by (plain_block r)
  where
    by : (o : Option (SequenceOf Name)) → unwrap_or (option_map (λ a. with_block (bare_trees args) (λ b. loops sense a b)) (option_map bare_sequence o)) a_message ≡ bare_shape (unwrap_or (option_map (λ a. with_block args (λ b. loops sense a b)) o) a_message)
    by (Some a) =
        ap (λ o. unwrap_or (option_map (λ b. loops sense (bare_sequence a) b) o) a_message) (one_block-bare args) ∙ blocks (one_block args)
      where
        blocks : (o : Option (SequenceOf Name)) → unwrap_or (option_map (λ b. loops sense (bare_sequence a) b) (option_map bare_sequence o)) a_message ≡ bare_shape (unwrap_or (option_map (λ b. loops sense a b) o) a_message)
        blocks (Some b) = refl
        blocks None = refl
    by None = refl

-- by a condition
if-shape : (b : Bool) (x y x' y' : Shape) → x' ≡ bare_shape x → y' ≡ bare_shape y → (if b then x' else y') ≡ bare_shape (if b then x else y)
if-shape true x y x' y' p q = p
if-shape false x y x' y' p q = q

-- the shape of a send
pub shape-bare : (s : Name) (r : TreeOf Name) (args : TreesOf Name) → shape_of s (bare r) (bare_trees args) ≡ bare_shape (shape_of s r args)
unfolding shape_of
shape-bare s r args =
    if-shape (text_eq s (codes "ifTrue:")) _ _ _ _ (with_block-bare args _ (λ b. refl))
    (if-shape (text_eq s (codes "ifFalse:")) _ _ _ _ (with_block-bare args _ (λ b. refl))
    (if-shape (text_eq s (codes "ifTrue:ifFalse:")) _ _ _ _ (with_blocks-bare args _ (λ a b. refl))
    (if-shape (text_eq s (codes "ifFalse:ifTrue:")) _ _ _ _ (with_blocks-bare args _ (λ a b. refl))
    (if-shape (text_eq s (codes "and:")) _ _ _ _ (with_block-bare args _ (λ b. refl))
    (if-shape (text_eq s (codes "or:")) _ _ _ _ (with_block-bare args _ (λ b. refl))
    (if-shape (text_eq s (codes "whileTrue:")) _ _ _ _ (with_loop-bare r args true)
    (if-shape (text_eq s (codes "whileFalse:")) _ _ _ _ (with_loop-bare r args false) refl)))))))

-- whether a tree is `super`
pub is_super-bare : (t : TreeOf Name) → is_super (bare t) ≡ is_super t
is_super-bare (var n) = refl
is_super-bare (literal l) = refl
is_super-bare (send r s args) = refl
is_super-bare (cascade r ms) = refl
is_super-bare (assign n t) = refl
is_super-bare (block ps ts ss e) = refl
is_super-bare (brace ts) = refl
is_super-bare (return t) = refl

-- each class keeps its name and superclass
pub hierarchy : (classes : List (ClassOf Name)) → AllByRecursion (KeepsHierarchy bare_class) classes
hierarchy [] = tt
hierarchy (c ∷ cs) = (record { name = refl; superclass = refl }, hierarchy cs)

-- what a primitive is given, with the classes without comments
abbrev pub bare_call : Call → Call
bare_call c = record c { classes = map bare_class c.classes }

-- a primitive comes to the same
pub primitive-bare : (c : Call) → primitive (bare_call c) ≡ primitive c
primitive-bare c = primitive-kept bare_class c.classes (hierarchy c.classes) c

-- closures have as many parameters
pub arity-bare : (cs : List Closure) → arity_in (map bare_closure cs) ≡ arity_in cs
arity-bare cs = fun_ext (λ k. ap (λ o. unwrap_or (option_map (λ (c : Closure). length c.parameters) o) 0) (slice_get-map bare_closure cs k) ∙ by (slice_get cs k))
  where
    by : (o : Option Closure) → unwrap_or (option_map (λ (c : Closure). length c.parameters) (option_map bare_closure o)) 0 ≡ unwrap_or (option_map (λ (c : Closure). length c.parameters) o) 0
    by (Some c) = refl
    by None = refl
