-- A send has the shape of a control send exactly where it is one.
use Rattle.std.proofs.Common.{◌≡◌, ℕ, ◌+◌, [], ◌∷◌, Option, Some, None, refl, sym, ap, ◌∙◌, subst, arith}
use Rattle.std.specs.Prelude.{Bool, true, false, not, ◌&&◌, ◌==◌, option_map, option_and_then, unwrap_or, codes, is_some}
use Rattle.std.proofs.lemmas.Bool.{ne_eqb}
use Rattle.rb_base.specs.Names.{text_eq}
use Rattle.scope_model.specs.SpecialNames.{control_form}
use Rattle.scope_model.specs.Control.{is_plain_block, are_plain_blocks, meets}
use Rattle.tree_model.specs.Tree.{TreeOf, var, literal, send, cascade, assign, block, brace, return, TreesOf, no_trees, more_trees, SequenceOf}
use Rattle.tree_model.specs.Path.{count}
use Rattle.run_model.specs.Values.{Name}
use Rattle.run_model.specs.Shapes.{Shape, loops, a_message, is_message, plain_block, with_block, with_blocks, with_loop, shape_of}
use Rattle.run_model.proofs.RenamingLemmas.{text-same}
use Rattle.run_model.proofs.Finite.{by_cases}

-- a tree is seen as a plain block exactly where it is one
plain-some : (t : TreeOf Name) → is_some (plain_block t) ≡ is_plain_block t
plain-some (block [] ts ss e) = refl
plain-some (block (p ∷ ps) ts ss e) = refl
plain-some (var n) = refl
plain-some (literal l) = refl
plain-some (send r s args) = refl
plain-some (cascade r ms) = refl
plain-some (assign n t) = refl
plain-some (brace ts) = refl
plain-some (return t) = refl

-- one more test that holds
and-true : (b : Bool) → (b && true) ≡ b
and-true true = refl
and-true false = refl

-- nothing with more than one tree has one
many-one : (n : ℕ) (b : Bool) → (n + 1 + 1 == 1 && b) ≡ false
many-one n b = ap (λ c. c && b) (ne_eqb (n + 1 + 1) 1 (λ e. absurd (omega arith)))

-- nothing with more than two trees has two
many-two : (n : ℕ) (b : Bool) → (n + 1 + 1 + 1 == 2 && b) ≡ false
many-two n b = ap (λ c. c && b) (ne_eqb (n + 1 + 1 + 1) 2 (λ e. absurd (omega arith)))

-- a shape by the one block that there may be
one-by : (o : Option (SequenceOf Name)) (go : SequenceOf Name → Shape) → ((b : SequenceOf Name) → is_message (go b) ≡ false) → is_message (unwrap_or (option_map go o) a_message) ≡ not (is_some o)
one-by (Some b) go h = h b
one-by None go h = refl

-- a shape by the two blocks that there may be
two-by : (o p : Option (SequenceOf Name)) (go : SequenceOf Name → SequenceOf Name → Shape) → ((a b : SequenceOf Name) → is_message (go a b) ≡ false) →
    is_message (unwrap_or (option_map (λ (x : SequenceOf Name × SequenceOf Name). go x.0 x.1) (option_and_then (λ a. option_map (λ b. (a, b)) p) o)) a_message) ≡ not (is_some o && is_some p)
two-by (Some a) (Some b) go h = h a b
two-by (Some a) None go h = refl
two-by None p go h = refl

-- a send with one argument that is to be a block
with_block-shape : (args : TreesOf Name) (go : SequenceOf Name → Shape) → ((b : SequenceOf Name) → is_message (go b) ≡ false) → is_message (with_block args go) ≡ not (count args == 1 && are_plain_blocks args)
with_block-shape no_trees go h = refl
with_block-shape (more_trees t no_trees) go h = one-by (plain_block t) go h ∙ ap not (plain-some t ∙ sym (and-true (is_plain_block t)))
with_block-shape (more_trees t (more_trees u us)) go h = ap not (sym (many-one (count us) (are_plain_blocks (more_trees t (more_trees u us)))))

-- a send with two arguments that are to be blocks
with_blocks-shape : (args : TreesOf Name) (go : SequenceOf Name → SequenceOf Name → Shape) → ((a b : SequenceOf Name) → is_message (go a b) ≡ false) → is_message (with_blocks args go) ≡ not (count args == 2 && are_plain_blocks args)
with_blocks-shape no_trees go h = refl
with_blocks-shape (more_trees t no_trees) go h = two-by (plain_block t) None go h ∙ ap not (none (is_some (plain_block t)))
  where
    none : (b : Bool) → (b && false) ≡ false
    none true = refl
    none false = refl
with_blocks-shape (more_trees t (more_trees u no_trees)) go h =
    two-by (plain_block t) (plain_block u) go h ∙ ap not (ap (λ b. b && is_some (plain_block u)) (plain-some t) ∙ ap (λ b. is_plain_block t && b) (plain-some u ∙ sym (and-true (is_plain_block u))))
with_blocks-shape (more_trees t (more_trees u (more_trees v vs))) go h =
    two-by (plain_block t) None go h ∙ ap not (none (is_some (plain_block t)) ∙ sym (many-two (count vs) (are_plain_blocks (more_trees t (more_trees u (more_trees v vs))))))
  where
    none : (b : Bool) → (b && false) ≡ false
    none true = refl
    none false = refl

-- a loop
with_loop-shape : (r : TreeOf Name) (args : TreesOf Name) (sense : Bool) → is_message (with_loop r args sense) ≡ not (is_plain_block r && (count args == 1 && are_plain_blocks args))
with_loop-shape r args sense = by (plain_block r) ∙ ap (λ b. not (b && (count args == 1 && are_plain_blocks args))) (plain-some r)
  where
    by : (o : Option (SequenceOf Name)) → is_message (unwrap_or (option_map (λ a. with_block args (λ b. loops sense a b)) o) a_message) ≡ not (is_some o && (count args == 1 && are_plain_blocks args))
    by (Some a) = with_block-shape args _ (λ b. refl)
    by None = refl

-- the statement
abbrev HasShape : TreeOf Name → TreesOf Name → Name → Type 0
HasShape r args s = is_message (shape_of s r args) ≡ not (meets (control_form s) r args)

-- where a selector is one of the control selectors
known : (r : TreeOf Name) (args : TreesOf Name) (s k : Name) → HasShape r args k → text_eq s k ≡ true → HasShape r args s
known r args s k h e = subst (HasShape r args) (sym (text-same s k e)) h

-- where it is none
unknown : (r : TreeOf Name) (args : TreesOf Name) (s : Name) →
    text_eq s (codes "ifTrue:") ≡ false → text_eq s (codes "ifFalse:") ≡ false → text_eq s (codes "ifTrue:ifFalse:") ≡ false → text_eq s (codes "ifFalse:ifTrue:") ≡ false →
    text_eq s (codes "and:") ≡ false → text_eq s (codes "or:") ≡ false → text_eq s (codes "whileTrue:") ≡ false → text_eq s (codes "whileFalse:") ≡ false → HasShape r args s
unfolding shape_of control_form
unknown r args s e1 e2 e3 e4 e5 e6 e7 e8 = rw (e1, e2, e3, e4, e5, e6, e7, e8) refl

-- each of the control selectors
pub shape-control : (r : TreeOf Name) (args : TreesOf Name) (s : Name) → is_message (shape_of s r args) ≡ not (meets (control_form s) r args)
unfolding shape_of control_form
shape-control r args s =
    by_cases (text_eq s (codes "ifTrue:")) (λ e. known r args s _ (with_block-shape args _ (λ b. refl)) e)
    (λ e1. by_cases (text_eq s (codes "ifFalse:")) (λ e. known r args s _ (with_block-shape args _ (λ b. refl)) e)
    (λ e2. by_cases (text_eq s (codes "ifTrue:ifFalse:")) (λ e. known r args s _ (with_blocks-shape args _ (λ a b. refl)) e)
    (λ e3. by_cases (text_eq s (codes "ifFalse:ifTrue:")) (λ e. known r args s _ (with_blocks-shape args _ (λ a b. refl)) e)
    (λ e4. by_cases (text_eq s (codes "and:")) (λ e. known r args s _ (with_block-shape args _ (λ b. refl)) e)
    (λ e5. by_cases (text_eq s (codes "or:")) (λ e. known r args s _ (with_block-shape args _ (λ b. refl)) e)
    (λ e6. by_cases (text_eq s (codes "whileTrue:")) (λ e. known r args s _ (with_loop-shape r args true) e)
    (λ e7. by_cases (text_eq s (codes "whileFalse:")) (λ e. known r args s _ (with_loop-shape r args false) e)
    (λ e8. unknown r args s e1 e2 e3 e4 e5 e6 e7 e8))))))))
