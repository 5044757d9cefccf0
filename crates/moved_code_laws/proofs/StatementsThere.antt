-- Where a message stands whose place the conditions of `inlineMethod` allow for statements.
use Rattle.std.proofs.Common.{◌≡◌, ◌<◌, ℕ, zero, suc, List, [], ◌∷◌, ◌++◌, length, Option, Some, None, refl, sym, ap, ◌∙◌, subst, arith}
use Rattle.std.specs.Prelude.{Bool, true, false, not, ◌&&◌, ◌||◌, ◌==◌, nat_lt, if◌then◌else◌, is_some, take, slice_get, option_and_then, codes}
use Rattle.std.specs.List.{list_any}
use Rattle.std.specs.Option.{option_map_or}
use Rattle.std.proofs.lemmas.Bool.{false≢true, ltb-true, eqb-true}
use Rattle.rb_base.specs.Names.{text_eq}
use Rattle.tree_model.specs.Tree.{TreeOf, send, StatementsOf, no_statements, more_statements, MethodOf}
use Rattle.tree_model.specs.Path.{count, nth, part_at, part_in, statement_trees}
use Rattle.tree_model.specs.Nodes.{Placed, nodes}
use Rattle.scope_model.specs.Control.{is_empty}
use Rattle.scope_model.specs.FreeNames.{statements_at}
use Rattle.image_model.specs.Image.{EntryOf, ImageOf}
use Rattle.run_model.specs.Values.{Name}
use Rattle.run_model.proofs.Finite.{by_cases, and-true_left, and-true_right}
use Rattle.rename_laws.proofs.Unnamed.{denied}
use Rattle.unfolded_calls.proofs.Running.{none-some, some-same}
use Rattle.command_model.specs.SameMethods.{has_super}
use Rattle.command_model.specs.Hierarchy.{is_method_of}
use Rattle.command_model.specs.Inlined.{answered}
use Rattle.command_model.specs.Places.{SendOf, is_return, innermost, sequence_round, whole_statement}
use Rattle.code_command_laws.proofs.PutBackRun.{part_in-append}
use Rattle.moved_code_laws.proofs.InlinedHere.{second-holds, Scene}
use Rattle.moved_code_laws.proofs.Targets.{test-there}
use Rattle.moved_code_laws.proofs.SequencesThere.{IsSequence, own_sequence, of_block, HasMore, sequence-there}

-- no statement but the last one is a return
abbrev pub AnswersLast : StatementsOf Name → Type 0
AnswersLast no_statements = Unit {0}
AnswersLast (more_statements c t no_statements) = Unit {0}
AnswersLast (more_statements c t (more_statements d u ss)) = (is_return t ≡ false) × AnswersLast (more_statements d u ss)

abbrev pub answers_last : StatementsOf Name → Bool
answers_last no_statements = true
answers_last (more_statements c t no_statements) = true
answers_last (more_statements c t ss) = not (is_return t) && answers_last ss

pub answers-last : (ss : StatementsOf Name) → answers_last ss ≡ true → AnswersLast ss
answers-last no_statements e = tt
answers-last (more_statements c t no_statements) e = tt
answers-last (more_statements c t (more_statements d u ss)) e = (denied (is_return t) (and-true_left (not (is_return t)) (answers_last (more_statements d u ss)) e), answers-last (more_statements d u ss) (and-true_right (not (is_return t)) (answers_last (more_statements d u ss)) e))

-- a whole statement that does not end a block
abbrev pub is_statement_between : MethodOf Name → List ℕ → Bool
is_statement_between m path =
    option_map_or (λ k. innermost m path == 0 || nat_lt (suc k) (count (statement_trees (statements_at m.body (sequence_round m path))))) (whole_statement m path) false

-- a node is a statement of a sequence; and where that is of a block, a further one stands behind it
pub record IsStatement (m : MethodOf Name) (path : List ℕ) (t : TreeOf Name) : Type 0 where
  pub round : List ℕ
  pub number : ℕ
  pub statements : StatementsOf Name
  pub sequence : IsSequence m round statements
  pub more : HasMore sequence (suc number)
  pub leads : path ≡ round ++ number ∷ []
  pub there : nth (statement_trees statements) number ≡ Some t
  pub whole : whole_statement m path ≡ Some number
  pub stands : sequence_round m path ≡ round

-- the last step of a path, and those before it
steps-so : (path : List ℕ) (d k : ℕ) → length path ≡ suc d → slice_get path d ≡ Some k → path ≡ take d path ++ k ∷ []
steps-so [] d k e q = none-some q
steps-so (j ∷ []) zero k e q = ap (λ x. x ∷ []) (some-same q)
steps-so (j ∷ i ∷ js) zero k e q = absurd (omega (arith, e))
steps-so (j ∷ js) (suc d) k e q = ap (λ xs. j ∷ xs) (steps-so js d k (omega (arith, e)) q)

module _ (m : MethodOf Name) (path : List ℕ) (t : TreeOf Name) (at : part_in m.body path ≡ Some t) where
  -- the number of the statement
  whole-so : (k : ℕ) → whole_statement m path ≡ Some k → (length path ≡ suc (innermost m path)) × (slice_get path (innermost m path) ≡ Some k)
  whole-so k = by (length path == suc (innermost m path)) refl
    where
      by : (b : Bool) → (length path == suc (innermost m path)) ≡ b → (if b then slice_get path (innermost m path) else None) ≡ Some k → (length path ≡ suc (innermost m path)) × (slice_get path (innermost m path) ≡ Some k)
      by true e q = (eqb-true (length path) (suc (innermost m path)) e, q)
      by false e q = none-some q

  -- a statement of the method itself
  own-there : (k : ℕ) → path ≡ k ∷ [] → nth (statement_trees m.body.statements) k ≡ Some t
  own-there k e = one (nth (statement_trees m.body.statements) k) (subst (λ p. part_in m.body p ≡ Some t) e at)
    where
      one : (o : Option (TreeOf Name)) → option_and_then (λ c. part_at c []) o ≡ Some t → o ≡ Some t
      one None q = none-some q
      one (Some u) q = q

  own-statement : (k : ℕ) → whole_statement m path ≡ Some k → innermost m path ≡ 0 → IsStatement m path t
  own-statement k w none =
      let so = whole-so k w in
      let leads : path ≡ k ∷ [] = steps-so path (innermost m path) k so.0 so.1 ∙ ap (λ d. take d path ++ k ∷ []) none in
      record { round = []; number = k; statements = m.body.statements; sequence = own_sequence; more = tt; leads = leads; there = own-there k leads; whole = w; stands = ap (λ d. take d path) none }

  -- one of a block
  block-there : (j : ℕ) (js : List ℕ) (k : ℕ) → path ≡ (j ∷ js) ++ k ∷ [] → whole_statement m path ≡ Some k → sequence_round m path ≡ j ∷ js → (ss : StatementsOf Name) (q : IsSequence m (j ∷ js) ss) → HasMore q (suc k) → IsStatement m path t
  block-there j js k leads w stands ss (of_block _ _ ps ts us e found) more = record {
    round = j ∷ js;
    number = k;
    statements = us;
    sequence = of_block j js ps ts us e found;
    more = more;
    leads = leads;
    there = one (nth (statement_trees us) k) (sym (part_in-append m.body j js (k ∷ []) ∙ ap (option_and_then (λ c. part_at c (k ∷ []))) found) ∙ subst (λ p. part_in m.body p ≡ Some t) leads at);
    whole = w;
    stands = stands;
  }
    where
      one : (o : Option (TreeOf Name)) → option_and_then (λ c. part_at c []) o ≡ Some t → o ≡ Some t
      one None q = none-some q
      one (Some u) q = q

  block-statement : (k : ℕ) (round : List ℕ) → whole_statement m path ≡ Some k → sequence_round m path ≡ round → (innermost m path ≡ 0 → ⊥) → suc k < count (statement_trees (statements_at m.body round)) → IsStatement m path t
  block-statement k [] w s inner l = absurd (inner (none path (innermost m path) (whole-so k w).0 s))
    where
      none : (p : List ℕ) (d : ℕ) → length p ≡ suc d → take d p ≡ [] → d ≡ 0
      none p zero e q = refl
      none [] (suc d) e q = absurd (omega (arith, e))
      none (x ∷ xs) (suc d) e q = absurd (cc)
  block-statement k (j ∷ js) w s inner l =
      let so = whole-so k w in
      let found = sequence-there m j js (suc k) l in
      block-there j js k (steps-so path (innermost m path) k so.0 so.1 ∙ ap (λ r. r ++ k ∷ []) s) w s (statements_at m.body (j ∷ js)) found.0 found.1

  pub statement-there : is_statement_between m path ≡ true → IsStatement m path t
  statement-there e =
      let w = test-there (λ k. innermost m path == 0 || nat_lt (suc k) (count (statement_trees (statements_at m.body (sequence_round m path))))) (whole_statement m path) e in
      by_cases (innermost m path == 0) (λ h. own-statement w.0 w.1 (eqb-true (innermost m path) 0 h))
      (λ f. block-statement w.0 (sequence_round m path) w.1 refl (λ z. false≢true (sym f ∙ ap (λ d. d == 0) z))
      (ltb-true (suc w.0) (count (statement_trees (statements_at m.body (sequence_round m path)))) (second-holds (innermost m path == 0) (nat_lt (suc w.0) (count (statement_trees (statements_at m.body (sequence_round m path))))) w.2 f)))

-- where a method answers no expression alone, the conditions say how its message stands, and that it answers in its last statement
module _ (i : ImageOf Name) (c : Name) (meta : Bool) (m : EntryOf Name) (e : SendOf Name) (target : EntryOf Name) (scene : Scene i c meta m e target) (quiet : answered target.tree.body.statements ≡ None) where
  allowed : (is_statement_between m.tree e.path && answers_last target.tree.body.statements) ≡ true
  allowed =
      second-holds (is_some (answered target.tree.body.statements)) _
      (and-true_right (not (has_super (text_eq (codes "super")) target) || is_method_of text_eq c target) _
      (and-true_right (not (list_any (λ (x : Placed Name). is_return x.1 && nat_lt 1 (length x.0)) (nodes target.tree.body))) _ (and-true_right (is_empty target.tree.body.temporaries) _ (and-true_right (not target.kernel) _ scene.inlinable))))
      (ap is_some quiet)

  pub last-answers : AnswersLast target.tree.body.statements
  last-answers = answers-last target.tree.body.statements (and-true_right (is_statement_between m.tree e.path) _ allowed)

  pub message-there : IsStatement m.tree e.path (send e.receiver e.selector e.arguments)
  message-there = statement-there m.tree e.path (send e.receiver e.selector e.arguments) scene.stands.there (and-true_left (is_statement_between m.tree e.path) _ allowed)
