-- Sends whose blocks are run in place before and after, and no closures.
use Rattle.std.proofs.Common.{◌≡◌, List, Option, Some, None, refl, sym, ap, ◌∙◌}
use Rattle.std.specs.Prelude.{Bool, true, false, ◌&&◌, ◌||◌, if◌then◌else◌, option_map, unwrap_or, codes}
use Rattle.std.proofs.lemmas.Bool.{false≢true, not-true}
use Rattle.rb_base.specs.Names.{text_eq}
use Rattle.scope_model.specs.SpecialNames.{is_one_of, one_block_selectors, two_block_selectors, loop_selectors, control_form}
use Rattle.scope_model.specs.declared.local.ControlForm.TheVariants.{OneBlock, TwoBlocks, Loop, NoControl}
use Rattle.scope_model.specs.Control.{is_loop, meets}
use Rattle.tree_model.specs.Tree.{TreeOf, send, TreesOf, SequenceOf}
use Rattle.image_model.specs.Means.{MeaningOf}
use Rattle.run_model.specs.Values.{Name}
use Rattle.run_model.specs.Shapes.{Branch, Shape, two_ways, loops, a_message, plain_block, one_block, with_loop, shape_of}
use Rattle.run_model.proofs.Finite.{by_cases}
use Rattle.run_model.proofs.RenamingLemmas.{text-same}
use Rattle.resolved_model.specs.ResolvedTrees.{ResolvedTree, sending, ResolvedTrees}
use Rattle.resolved_model.specs.ResolvedImages.{ResolvedImage}
use Rattle.resolved_model.specs.ResolvedEval.{reads_super}
use Rattle.resolved_model.specs.ResolvedShapes.{plain_code, ResolvedBranch, ResolvedShape, chooses_way, as_message, resolved_shape}
use Rattle.resolved_model.specs.Environments.{Declared, tree_in, trees_in}
use Rattle.resolved_model.proofs.ShapeLemmas.{shape_in, shape-in}
use Rattle.unfolded_calls.specs.Unfolding.{Allowed, Context, Unfolds, same_message, same_choice, same_loop, UnfoldsAll}
use Rattle.unfolded_places.specs.Becoming.{MakesNoControl}
use Rattle.unfolded_places.proofs.ShapePairs.{CodePair, CodePairs, ShapePair, message_first, choices, turns, shape-pair}
use Rattle.unfolded_places.proofs.Congruence.{ControlLaw, message-so, still-message}

-- the selector of a loop
loop-named : (s : Name) → is_loop (control_form s) ≡ true → (text_eq s (codes "whileTrue:") || (text_eq s (codes "whileFalse:") || false)) ≡ true
unfolding control_form
loop-named s e = by (is_one_of one_block_selectors s) (is_one_of two_block_selectors s) (is_one_of loop_selectors s) e
  where
    by : (a b c : Bool) → is_loop (if a then OneBlock else if b then TwoBlocks else if c then Loop else NoControl) ≡ true → c ≡ true
    by true b c e = absurd (false≢true e)
    by false true c e = absurd (false≢true e)
    by false false true e = refl
    by false false false e = absurd (false≢true e)

-- a loop has the shape of no choice
repeated : (r : TreeOf Name) (args : TreesOf Name) (sense : Bool) (a b : Branch) → with_loop r args sense ≡ two_ways a b → ⊥
repeated r args sense a b e = by (plain_block r) (one_block args) e
  where
    by : (o p : Option (SequenceOf Name)) → unwrap_or (option_map (λ x. unwrap_or (option_map (λ y. loops sense x y) p) a_message) o) a_message ≡ two_ways a b → ⊥
    by (Some x) (Some y) e = cc
    by (Some x) None e = cc
    by None p e = cc

no-choice : (s : Name) (r : TreeOf Name) (args : TreesOf Name) (a b : Branch) → is_loop (control_form s) ≡ true → shape_of s r args ≡ two_ways a b → ⊥
unfolding shape_of
no-choice s r args a b l e =
    by_cases (text_eq s (codes "whileTrue:")) (λ t. repeated r args true a b (sym (ap (λ x. shape_of x r args) (text-same s (codes "whileTrue:") t)) ∙ e))
    (λ f. by_cases (text_eq s (codes "whileFalse:")) (λ t. repeated r args false a b (sym (ap (λ x. shape_of x r args) (text-same s (codes "whileFalse:") t)) ∙ e))
    (λ g. false≢true (sym (λ i. f i || (g i || false)) ∙ loop-named s l)))

choice-no-loop : (f : Name → MeaningOf Name) (A : List Declared) (s : Name) (r : TreeOf Name) (args : TreesOf Name) (a b : ResolvedBranch) → resolved_shape s (tree_in f A r) (trees_in f A args) ≡ chooses_way a b → is_loop (control_form s) ≡ false
choice-no-loop f A s r args a b e = by_cases (is_loop (control_form s)) (λ l. absurd (by (shape_of s r args) refl (sym (shape-in f A s r args) ∙ e) l)) (λ f. f)
  where
    by : (x : Shape) → shape_of s r args ≡ x → shape_in f A x ≡ chooses_way a b → is_loop (control_form s) ≡ true → ⊥
    by (two_ways c d) q e l = no-choice s r args c d l q
    by (loops sense c d) q e l = cc
    by a_message q e l = cc

module _ (i : ResolvedImage) (gone : Allowed) where
  -- two nodes: the one unfolds to the other, where they are no blocks that are run in place; and so do such blocks
  pub record NodePair (in_place : Bool) (g : Context) (x x' : ResolvedTree) : Type 0 where
    pub whole : in_place ≡ false → Unfolds i gone g x x'
    pub code : CodePair i gone g (plain_code x) (plain_code x')

  -- the same of nodes in order
  pub record NodesPair (in_place : Bool) (g : Context) (xs xs' : ResolvedTrees) : Type 0 where
    pub whole : in_place ≡ false → UnfoldsAll i gone g xs xs'
    pub code : CodePairs i gone g xs xs'

-- a send; `b` says whether it is a control send
module _ (control : ControlLaw) (i : ResolvedImage) (gone : Allowed) (f f' : Name → MeaningOf Name) (A B : List Declared) where
  no-meeting : (s : Name) (r : TreeOf Name) (args : TreesOf Name) → resolved_shape s (tree_in f A r) (trees_in f A args) ≡ as_message → meets (control_form s) r args ≡ false
  no-meeting s r args e = not-true (meets (control_form s) r args) (sym (control s r args) ∙ message-so control f f A A (shape_of s r args) (sym (shape-in f A s r args) ∙ e))

  pub sending-moves : {g : Context} (b : Bool) (s : Name) (r r' : TreeOf Name) (args args' : TreesOf Name) → (meets (control_form s) r args ≡ false → b ≡ false) → (reads_super (tree_in f A r) ≡ true → g.supers ≡ true) → gone.is_gone s ≡ false → MakesNoControl (send r s args) (send r' s args') →
      NodePair i gone (is_loop (control_form s) && b) g (tree_in f A r) (tree_in f' B r') → NodesPair i gone b g (trees_in f A args) (trees_in f' B args') → Unfolds i gone g (tree_in f A (send r s args)) (tree_in f' B (send r' s args'))
  sending-moves {g} b s r r' args args' plain sup kept still p q =
      by (resolved_shape s (tree_in f A r) (trees_in f A args)) (resolved_shape s (tree_in f' B r') (trees_in f' B args')) refl refl (shape-pair i gone s (tree_in f A r) (tree_in f' B r') (trees_in f A args) (trees_in f' B args') p.code q.code)
    where
      never : (l c : Bool) → c ≡ false → (l && c) ≡ false
      never true c e = e
      never false c e = refl

      by : (x x' : ResolvedShape) → resolved_shape s (tree_in f A r) (trees_in f A args) ≡ x → resolved_shape s (tree_in f' B r') (trees_in f' B args') ≡ x' → ShapePair i gone g x x' → Unfolds i gone g (sending (tree_in f A r) s (trees_in f A args)) (sending (tree_in f' B r') s (trees_in f' B args'))
      by x x' e e' (message_first y) =
          let no = plain (no-meeting s r args e) in
          same_message e (still-message control f f' A B s r r' args args' still e) kept sup (p.whole (never (is_loop (control_form s)) b no)) (q.whole no)
      by x x' e e' (choices {a = a} {a' = a'} {b = c} {b' = c'} h k) = same_choice a a' c c' e e' (p.whole (ap (λ l. l && b) (choice-no-loop f A s r args a c e))) h k
      by x x' e e' (turns {sense = sense} {a = a} {a' = a'} {b = c} {b' = c'} h k) = same_loop sense a a' c c' e e' h k
