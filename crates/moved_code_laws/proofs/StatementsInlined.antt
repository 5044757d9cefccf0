-- The statements of a method in place of a message that is a statement.
use Rattle.std.proofs.Common.{◌≡◌, ℕ, suc, ◌+◌, List, [], ◌∷◌, ◌++◌, Option, Some, None, refl, sym, ap, ◌∙◌, subst, arith}
use Rattle.std.specs.Prelude.{Bool, true, false, if◌then◌else◌, option_and_then, option_map, unwrap_or}
use Rattle.std.specs.Option.{option_map_or}
use Rattle.std.proofs.lemmas.Bool.{false≢true}
use Rattle.rb_base.specs.Names.{text_eq}
use Rattle.tree_model.specs.Tree.{TreeOf, var, literal, send, cascade, assign, block, brace, return, TreesOf, no_trees, StatementsOf, no_statements, more_statements, Notes}
use Rattle.tree_model.specs.Path.{nth, statement_trees, part_at, part_in}
use Rattle.scope_model.specs.SpecialNames.{is_pseudo_variable, control_form}
use Rattle.scope_model.specs.Control.{is_closure_at}
use Rattle.scope_model.specs.Scope.{PlacedScope, entered}
use Rattle.scope_model.specs.Uses.{UseOf}
use Rattle.image_model.specs.Image.{EntryOf, ImageOf}
use Rattle.image_model.specs.Words.{text_words}
use Rattle.image_model.specs.Chain.{chain}
use Rattle.image_model.specs.Means.{MeaningOf, means_outside}
use Rattle.run_model.specs.Values.{Name}
use Rattle.run_model.proofs.Finite.{by_cases}
use Rattle.resolved_model.specs.ResolvedTrees.{sending, more_lines, ResolvedStatements}
use Rattle.resolved_model.specs.Resolving.{below}
use Rattle.resolved_model.specs.ResolvedImages.{resolved_image}
use Rattle.resolved_model.specs.Environments.{Declared, opened, declared_in, tree_in, trees_in, statements_in}
use Rattle.resolved_model.proofs.ResolvingLemmas.{IsInScopes, below-node, first-node}
use Rattle.unfolded_calls.specs.Unfolding.{Context, opened as opened_context, Unfolds, UnfoldsBody, at_end, at_return, at_line}
use Rattle.unfolded_calls.specs.SameContexts.{IsOutside}
use Rattle.unfolded_calls.proofs.Running.{some-same}
use Rattle.unfolded_calls.proofs.Untouched.{means-outside}
use Rattle.unfolded_places.specs.Inlining.{passed_for}
use Rattle.unfolded_places.specs.InlinedOnce.{none_gone}
use Rattle.unfolded_places.specs.Fillings.{filled_tree, filled_statements, MayFill}
use Rattle.unfolded_places.proofs.Congruence.{ControlLaw}
use Rattle.unfolded_places.proofs.Inlined.{self-there}
use Rattle.unfolded_places.proofs.PassedThere.{outer-outside, IsPassing, IsNear, place-there, part-passed, all-passed as all-there}
use Rattle.unfolded_places.proofs.StandsThere.{Stands as IsThere}
use Rattle.command_model.specs.Places.{SendOf, is_return}
use Rattle.command_model.specs.Inlined.{last_unanswered}
use Rattle.moved_code_laws.specs.WellWritten.{IsWellWritten}
use Rattle.moved_code_laws.proofs.StatementsThere.{AnswersLast}
use Rattle.moved_code_laws.proofs.RunStands.{Stands}
use Rattle.moved_code_laws.proofs.Saying.{alone, within, own_round, in-own}
use Rattle.moved_code_laws.proofs.MayStand.{tree-may}
use Rattle.moved_code_laws.proofs.PassedSteady.{ArePassed}
use Rattle.moved_code_laws.proofs.BodyThere.{node-fine, no-return}
use Rattle.moved_code_laws.proofs.InlinedHere.{Scene, fixed, none, inside, passes, for-name, around, supers, moved, part-fills, passing, part-near}

-- a statement that is no return stays, whatever stands behind it
unanswered-more : (c : Notes) (t : TreeOf Name) (ss : StatementsOf Name) → is_return t ≡ false → last_unanswered (more_statements c t ss) ≡ more_statements c t (last_unanswered ss)
unanswered-more c (var n) no_statements e = refl
unanswered-more c (var n) (more_statements b v ws) e = refl
unanswered-more c (literal l) no_statements e = refl
unanswered-more c (literal l) (more_statements b v ws) e = refl
unanswered-more c (send r s us) no_statements e = refl
unanswered-more c (send r s us) (more_statements b v ws) e = refl
unanswered-more c (cascade r ms) no_statements e = refl
unanswered-more c (cascade r ms) (more_statements b v ws) e = refl
unanswered-more c (assign n u) no_statements e = refl
unanswered-more c (assign n u) (more_statements b v ws) e = refl
unanswered-more c (block ps ts rs d) no_statements e = refl
unanswered-more c (block ps ts rs d) (more_statements b v ws) e = refl
unanswered-more c (brace us) no_statements e = refl
unanswered-more c (brace us) (more_statements b v ws) e = refl
unanswered-more c (return t) ss e = absurd (false≢true (sym e))

-- a return
returned : (t : TreeOf Name) → is_return t ≡ true → (u : TreeOf Name) × (t ≡ return u)
returned (var n) e = absurd (false≢true e)
returned (literal l) e = absurd (false≢true e)
returned (send r s us) e = absurd (false≢true e)
returned (cascade r ms) e = absurd (false≢true e)
returned (assign n t) e = absurd (false≢true e)
returned (block ps ts ss c) e = absurd (false≢true e)
returned (brace us) e = absurd (false≢true e)
returned (return t) e = (t, refl)

-- what stands in place of a node that is no return is none, where none is passed
module _ (xs : List Name) (args : TreesOf Name) (unreturned : (n : Name) (t : TreeOf Name) → passed_for xs args n ≡ Some t → is_return t ≡ false) where
  pub filled-unreturned : (t : TreeOf Name) → is_return t ≡ false → is_return (filled_tree xs args [] t) ≡ false
  filled-unreturned (var n) e = by (is_pseudo_variable n) (passed_for xs args n) refl
    where
      by : (b : Bool) (o : Option (TreeOf Name)) → passed_for xs args n ≡ o → is_return (if b then var n else unwrap_or o (var n)) ≡ false
      by true o q = refl
      by false None q = refl
      by false (Some t) q = unreturned n t q
  filled-unreturned (literal l) e = refl
  filled-unreturned (send r s us) e = refl
  filled-unreturned (cascade r ms) e = refl
  filled-unreturned (assign n t) e = refl
  filled-unreturned (block ps ts ss c) e = refl
  filled-unreturned (brace us) e = refl
  filled-unreturned (return t) e = absurd (false≢true (sym e))

module _ (control : ControlLaw) (i : ImageOf Name) (sound : IsWellWritten i) (c : Name) (meta : Bool) (m : EntryOf Name) (e : SendOf Name) (target : EntryOf Name) (scene : Scene i c meta m e target) (last : AnswersLast target.tree.body.statements) where
  abbrev outer : Name → MeaningOf Name
  outer n = means_outside text_words i m.class m.meta n

  abbrev before : Name → MeaningOf Name
  before n = means_outside text_words i target.class target.meta n

  abbrev pub own_outside : (n : Name) → IsOutside (outer n)
  own_outside = outer-outside control i none_gone m c meta (around i sound c meta m e target scene)

  outside : (n : Name) → IsOutside (before n)
  outside n = means-outside i.classes (chain text_eq i.classes target.class) target.meta n

  abbrev rounds : List (PlacedScope Name)
  rounds = around i sound c meta m e target scene

  abbrev here : List Declared
  here = declared_in rounds

  abbrev over : Bool
  over = supers i sound c meta m e target scene

  abbrev formals : List Declared
  formals = opened target.tree.arguments [] []

  -- the message, and what is passed
  abbrev call : IsPassing control i none_gone m c meta rounds e.selector e.arguments
  call = passing i sound c meta m e target scene control

  abbrev plains : ArePassed i m e target e.arguments
  plains = passes i sound c meta m e target scene

  abbrev there : Context
  there = opened_context plains.actuals over

  abbrev Near : TreeOf Name → Type 0
  Near t = IsNear control i none_gone m c meta rounds e.selector e.arguments call t

  abbrev pub Here : Context → List (UseOf Name) → Type 0
  Here g us = IsThere (resolved_image i) none_gone outer own_outside (Some (c, meta)) g rounds us

  pub unreturned : (n : Name) (t : TreeOf Name) → passed_for target.tree.arguments e.arguments n ≡ Some t → is_return t ≡ false
  unreturned n t q = (for-name i sound c meta m e target scene n t q).1.unreturned

  -- a node of the body
  tree-fits : (t : TreeOf Name) → Near t → MayFill (moved i sound c meta m e target scene) over (λ s. false) [] t → Unfolds (resolved_image i) none_gone there (tree_in before formals t) (tree_in outer here (filled_tree target.tree.arguments e.arguments [] t))
  tree-fits t near may = part-passed control i none_gone m c meta rounds e.selector e.arguments call t (filled_tree target.tree.arguments e.arguments [] t) near (part-fills i sound c meta m e target scene t may)

  -- a statement of it
  module _ (k : ℕ) (t : TreeOf Name) (at : nth (statement_trees target.tree.body.statements) k ≡ Some t) where
    in-statement : IsInScopes alone 1 t (own_round target.tree) (below k (within target.tree))
    in-statement path n = in-own target.tree k k t path n (omega arith) at

    part-there : (path : List ℕ) (u : TreeOf Name) → part_at t path ≡ Some u → part_in target.tree.body (k ∷ path) ≡ Some u
    part-there path u q = ap (option_and_then (λ (x : TreeOf Name). part_at x path)) at ∙ q

    below-it : is_return t ≡ false → (path : List ℕ) (u : TreeOf Name) → part_at t path ≡ Some u → is_return u ≡ false
    below-it r [] u q = ap is_return (sym (some-same q)) ∙ r
    below-it r (j ∷ js) u q = no-return i m e target scene.captures (inside i sound c meta m e target scene) (fixed i sound c meta m e target scene) k j js u (part-there (j ∷ js) u q)

    statement-near : Near t
    statement-near =
        part-near i sound c meta m e target scene control (k ∷ []) t (ap (option_and_then (λ (x : TreeOf Name). part_at x [])) at) (λ r. ap (λ o. option_map_or (λ t. is_closure_at control_form false t r) o false) at) (omega arith)
        (ap (λ o. unwrap_or (option_map (λ t. entered 1 t []) o) [] ++ own_round target.tree) at)

    statement-may : is_return t ≡ false → MayFill (moved i sound c meta m e target scene) over (λ s. false) [] t
    statement-may r =
        tree-may target.tree e.arguments before outer rounds over outside (none i sound c meta m e target scene) scene.counted t 1 [] (below k (within target.tree)) (omega arith) tt in-statement
        (λ path u q. node-fine i m e target scene.captures (inside i sound c meta m e target scene) (fixed i sound c meta m e target scene) (k ∷ path) u (part-there path u q) (below-it r path u q))

  returned-may : (k : ℕ) (u : TreeOf Name) → nth (statement_trees target.tree.body.statements) k ≡ Some (return u) → MayFill (moved i sound c meta m e target scene) over (λ s. false) [] u
  returned-may k u at =
      tree-may target.tree e.arguments before outer rounds over outside (none i sound c meta m e target scene) scene.counted u 2 [] (below 0 (below k (within target.tree))) (omega arith) tt
      (first-node alone 2 u no_trees 0 (own_round target.tree) (below k (within target.tree)) (below-node alone 1 (return u) (own_round target.tree) (below k (within target.tree)) (in-statement k (return u) at)))
      (λ path w q.
      let part = part-there k (return u) at (0 ∷ path) w q in
      node-fine i m e target scene.captures (inside i sound c meta m e target scene) (fixed i sound c meta m e target scene) (k ∷ 0 ∷ path) w part
      (no-return i m e target scene.captures (inside i sound c meta m e target scene) (fixed i sound c meta m e target scene) k 0 path w part))

  returned-near : (k : ℕ) (u : TreeOf Name) → nth (statement_trees target.tree.body.statements) k ≡ Some (return u) → Near u
  returned-near k u at =
      part-near i sound c meta m e target scene control (k ∷ 0 ∷ []) u (ap (option_and_then (λ (x : TreeOf Name). part_at x (0 ∷ []))) at) (λ r. ap (λ o. option_map_or (λ t. is_closure_at control_form false t (0 ∷ r)) o false) at) (omega arith)
      (ap (λ o. unwrap_or (option_map (λ t. entered 1 t (0 ∷ [])) o) [] ++ own_round target.tree) at)

  -- a line of it before others
  line-fits : (d : Notes) (t : TreeOf Name) (rest : ResolvedStatements) (us : StatementsOf Name) → is_return t ≡ false → Unfolds (resolved_image i) none_gone there (tree_in before formals t) (tree_in outer here (filled_tree target.tree.arguments e.arguments [] t)) →
      UnfoldsBody (resolved_image i) none_gone there rest (statements_in outer here (last_unanswered us)) →
      UnfoldsBody (resolved_image i) none_gone there (more_lines (tree_in before formals t) rest) (statements_in outer here (last_unanswered (more_statements d (filled_tree target.tree.arguments e.arguments [] t) us)))
  line-fits d t rest us r p q =
      subst (λ ss. UnfoldsBody (resolved_image i) none_gone there (more_lines (tree_in before formals t) rest) (statements_in outer here ss))
      (sym (unanswered-more d (filled_tree target.tree.arguments e.arguments [] t) us (filled-unreturned target.tree.arguments e.arguments unreturned t r))) (at_line p q)

  -- statements of it, from a number on
  body-fits : (rest : StatementsOf Name) (k : ℕ) → AnswersLast rest → ((j : ℕ) → nth (statement_trees target.tree.body.statements) (k + j) ≡ nth (statement_trees rest) j) →
      UnfoldsBody (resolved_image i) none_gone there (statements_in before formals rest) (statements_in outer here (last_unanswered (filled_statements target.tree.arguments e.arguments [] rest)))
  body-fits no_statements k a h = at_end
  body-fits (more_statements d t no_statements) k a h = by_cases (is_return t) last-one (λ r. line-fits d t (statements_in before formals no_statements) no_statements r (tree-fits t (statement-near k t first) (statement-may k t first r)) at_end)
    where
      none-more : k ≡ k + 0
      none-more = omega arith

      first : nth (statement_trees target.tree.body.statements) k ≡ Some t
      first = ap (nth (statement_trees target.tree.body.statements)) none-more ∙ h 0

      last-one : is_return t ≡ true → UnfoldsBody (resolved_image i) none_gone there (statements_in before formals (more_statements d t no_statements)) (statements_in outer here (last_unanswered (filled_statements target.tree.arguments e.arguments [] (more_statements d t no_statements))))
      last-one r =
          let u = returned t r in
          subst (λ x. UnfoldsBody (resolved_image i) none_gone there (statements_in before formals (more_statements d x no_statements)) (statements_in outer here (last_unanswered (filled_statements target.tree.arguments e.arguments [] (more_statements d x no_statements))))) (sym u.1)
          (at_return (tree-fits u.0 (returned-near k u.0 (first ∙ ap Some u.1)) (returned-may k u.0 (first ∙ ap Some u.1))))
  body-fits (more_statements d t (more_statements b v rs)) k a h =
      line-fits d t (statements_in before formals (more_statements b v rs)) (filled_statements target.tree.arguments e.arguments [] (more_statements b v rs)) a.0 (tree-fits t (statement-near k t first) (statement-may k t first a.0))
      (body-fits (more_statements b v rs) (suc k) a.1 (λ j. ap (nth (statement_trees target.tree.body.statements)) (next j) ∙ h (suc j)))
    where
      none-more : k ≡ k + 0
      none-more = omega arith

      first : nth (statement_trees target.tree.body.statements) k ≡ Some t
      first = ap (nth (statement_trees target.tree.body.statements)) none-more ∙ h 0

      next : (j : ℕ) → suc k + j ≡ k + suc j
      next j = omega arith

  -- the statements that stand in place of the message
  abbrev pub new_statements : StatementsOf Name
  new_statements = last_unanswered (filled_statements target.tree.arguments e.arguments [] target.tree.body.statements)

  body : UnfoldsBody (resolved_image i) none_gone there (statements_in before formals target.tree.body.statements) (statements_in outer here new_statements)
  body = body-fits target.tree.body.statements 0 last (λ j. ap (nth (statement_trees target.tree.body.statements)) (none-before j))
    where
      none-before : (j : ℕ) → 0 + j ≡ j
      none-before j = omega arith

  -- the message
  pub message-stands : (g : Context) (us : List (UseOf Name)) → Here g us → Stands (resolved_image i) none_gone g (tree_in outer here (send e.receiver e.selector e.arguments)) (statements_in outer here new_statements)
  message-stands g us h = record {
    selector = e.selector;
    passed = trees_in outer here e.arguments;
    actuals = plains.actuals;
    supers = over;
    body = statements_in before formals target.tree.body.statements;
    sends = ap (λ y. sending y e.selector (trees_in outer here e.arguments)) (ap (tree_in outer here) scene.to_self ∙ self-there outer here);
    place = place-there control i none_gone m c meta rounds e.selector e.arguments call g us h (statements_in before formals target.tree.body.statements) refl;
    plain = all-there i none_gone outer own_outside (Some (c, meta)) g rounds us h e.arguments plains.actuals plains.passes;
    lines = body;
  }
