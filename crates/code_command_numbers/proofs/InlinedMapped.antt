-- What `inlineMethod` makes of a method is the same once names are changed one to one.
use Rattle.std.proofs.Common.{◌≡◌, ℕ, List, [], ◌∷◌, map, Option, Some, None, unwrap_or, option_map, refl, ap, ◌∙◌}
use Rattle.std.specs.Option.{option_or}
use Rattle.tree_model.specs.Tree.{TreeOf, var, literal, send, cascade, assign, block, brace, return, TreesOf, no_trees, more_trees, StatementsOf, no_statements, more_statements, SequenceOf, MethodOf, map_names, map_trees, map_statements, map_method}
use Rattle.tree_model.specs.Path.{method_replaced}
use Rattle.tree_model.proofs.Parts.{method_replaced-map_method}
use Rattle.scope_model.specs.Scope.{local_in}
use Rattle.command_model.specs.Asked.{AskedOf}
use Rattle.command_model.specs.Places.{is_formal, SendOf, sequence_round, whole_statement}
use Rattle.command_model.specs.Sequences.{put_for, sequence_changed}
use Rattle.command_model.specs.Inlined.{answered, last_unanswered, passed_as, passed_for, filled, unfolded, tree_inlined}
use Rattle.command_numbers.specs.KeepsAsked.{KeepsAsked}
use Rattle.command_numbers.proofs.Lists.{chosen}
use Rattle.command_numbers.proofs.Everywhere.{Every}
use Rattle.command_numbers.proofs.Classes.{same-map}
use Rattle.command_numbers.proofs.TreesRebuilt.{IsMadeAlike, rebuilt_sequence-map}
use Rattle.command_numbers.proofs.TemporariesMapped.{local_in-there}
use Rattle.code_command_numbers.proofs.PlacesMapped.{map_send, sequence_round-map, whole_statement-map}
use Rattle.code_command_numbers.proofs.SequencesMapped.{put_for-map, sequence_changed-map}

module _ {M N : Type 0} (f : M → N) where
  -- what a body answers
  pub answered-map : (ss : StatementsOf M) → answered (map_statements f ss) ≡ option_map (map_names f) (answered ss)
  answered-map no_statements = refl
  answered-map (more_statements c (var n) ss) = refl
  answered-map (more_statements c (literal l) ss) = refl
  answered-map (more_statements c (send r s args) ss) = refl
  answered-map (more_statements c (cascade r ms) ss) = refl
  answered-map (more_statements c (assign n t) ss) = refl
  answered-map (more_statements c (block ps ts rs d) ss) = refl
  answered-map (more_statements c (brace ts) ss) = refl
  answered-map (more_statements c (return t) no_statements) = refl
  answered-map (more_statements c (return t) (more_statements d u ss)) = refl

  -- statements that end without `^`
  last_unanswered-map : (ss : StatementsOf M) → last_unanswered (map_statements f ss) ≡ map_statements f (last_unanswered ss)
  last_unanswered-map no_statements = refl
  last_unanswered-map (more_statements c (return t) no_statements) = refl
  last_unanswered-map (more_statements c (return t) (more_statements d u ss)) = ap (more_statements c (return (map_names f t))) (last_unanswered-map (more_statements d u ss))
  last_unanswered-map (more_statements c (var n) ss) = ap (more_statements c (var (f n))) (last_unanswered-map ss)
  last_unanswered-map (more_statements c (literal l) ss) = ap (more_statements c (map_names f (literal l))) (last_unanswered-map ss)
  last_unanswered-map (more_statements c (send r s args) ss) = ap (more_statements c (map_names f (send r s args))) (last_unanswered-map ss)
  last_unanswered-map (more_statements c (cascade r ms) ss) = ap (more_statements c (map_names f (cascade r ms))) (last_unanswered-map ss)
  last_unanswered-map (more_statements c (assign n t) ss) = ap (more_statements c (map_names f (assign n t))) (last_unanswered-map ss)
  last_unanswered-map (more_statements c (block ps ts rs d) ss) = ap (more_statements c (map_names f (block ps ts rs d))) (last_unanswered-map ss)
  last_unanswered-map (more_statements c (brace ts) ss) = ap (more_statements c (map_names f (brace ts))) (last_unanswered-map ss)

module _ {M N : Type 0} (f : M → N) (a : AskedOf M) (b : AskedOf N) (keeps : KeepsAsked Every f a b) where
  -- what is passed for a name
  passed_as-map : (xs : List M) (ts : TreesOf M) (n : M) → passed_as b.words.tests.same (map f xs) (map_trees f ts) (f n) ≡ option_map (map_names f) (passed_as a.words.tests.same xs ts n)
  passed_as-map [] ts n = refl
  passed_as-map (x ∷ xs) no_trees n = refl
  passed_as-map (x ∷ xs) (more_trees t ts) n =
      chosen (option_map (map_names f)) (a.words.tests.same n x) (b.words.tests.same (f n) (f x)) (Some t) (passed_as a.words.tests.same xs ts n) (Some (map_names f t)) (passed_as b.words.tests.same (map f xs) (map_trees f ts) (f n))
      (same-map f a.words b.words keeps.words n x) refl (passed_as-map xs ts n)

  pub passed_for-map : (m : MethodOf M) (args : TreesOf M) (path : List ℕ) (n : M) → passed_for b (map_method f m) (map_trees f args) path (f n) ≡ option_map (map_names f) (passed_for a m args path n)
  passed_for-map m args path n =
      chosen (option_map (map_names f)) (is_formal (local_in a.words.tests.same a.words.tests.is_pseudo m path n)) (is_formal (local_in b.words.tests.same b.words.tests.is_pseudo (map_method f m) path (f n)))
      (passed_as a.words.tests.same m.arguments args n) None (passed_as b.words.tests.same (map f m.arguments) (map_trees f args) (f n)) None
      (ap is_formal (local_in-there f a.words b.words keeps.words m path n)) (passed_as-map m.arguments args n) refl

  filled-map : (m : MethodOf M) (args : TreesOf M) → IsMadeAlike f (filled a m args) (filled b (map_method f m) (map_trees f args))
  filled-map m args path (var n) = ap (λ (o : Option (TreeOf N)). unwrap_or o (var (f n))) (passed_for-map m args path n) ∙ by (passed_for a m args path n)
    where
      by : (o : Option (TreeOf M)) → unwrap_or (option_map (map_names f) o) (var (f n)) ≡ map_names f (unwrap_or o (var n))
      by None = refl
      by (Some t) = refl
  filled-map m args path (literal l) = refl
  filled-map m args path (send r s us) = refl
  filled-map m args path (cascade r ms) = refl
  filled-map m args path (assign n t) = refl
  filled-map m args path (block ps ts ss d) = refl
  filled-map m args path (brace ts) = refl
  filled-map m args path (return t) = refl

  -- a body with what is passed
  pub unfolded-map : (m : MethodOf M) (args : TreesOf M) → unfolded b (map_method f m) (map_trees f args) ≡ map_statements f (unfolded a m args)
  unfolded-map m args = ap (λ (c : SequenceOf N). c.statements) (rebuilt_sequence-map f (filled a m args) (filled b (map_method f m) (map_trees f args)) (filled-map m args) m.body)

  -- a method with a body in place of a message
  pub tree_inlined-map : (m : MethodOf M) (e : SendOf M) (target : MethodOf M) → tree_inlined b (map_method f m) (map_send f e) (map_method f target) ≡ option_map (map_method f) (tree_inlined a m e target)
  tree_inlined-map m e target =
      (λ i. option_or (option_map (λ t. method_replaced (map_method f m) e.path t) (answered (unfolded-map target e.arguments i)))
      (option_map (λ k. sequence_changed (put_for k (last_unanswered (unfolded-map target e.arguments i))) (sequence_round-map f m e.path i) (map_method f m)) (whole_statement-map f m e.path i)))
      ∙ (λ i. option_or (option_map (λ t. method_replaced (map_method f m) e.path t) (answered-map f (unfolded a target e.arguments) i))
      (option_map (λ k. sequence_changed (put_for k (last_unanswered-map f (unfolded a target e.arguments) i)) (sequence_round m e.path) (map_method f m)) (whole_statement m e.path)))
      ∙ by (answered (unfolded a target e.arguments)) (whole_statement m e.path)
    where
      ss : StatementsOf M
      ss = last_unanswered (unfolded a target e.arguments)

      whole : (o : Option ℕ) → option_map (λ k. sequence_changed (put_for k (map_statements f ss)) (sequence_round m e.path) (map_method f m)) o
          ≡ option_map (map_method f) (option_map (λ k. sequence_changed (put_for k ss) (sequence_round m e.path) m) o)
      whole None = refl
      whole (Some k) = ap Some (sequence_changed-map f (put_for k ss) (put_for k (map_statements f ss)) (put_for-map f k ss) (sequence_round m e.path) m)

      by : (o : Option (TreeOf M)) (r : Option ℕ) → option_or (option_map (λ t. method_replaced (map_method f m) e.path t) (option_map (map_names f) o)) (option_map (λ k. sequence_changed (put_for k (map_statements f ss)) (sequence_round m e.path) (map_method f m)) r)
          ≡ option_map (map_method f) (option_or (option_map (λ t. method_replaced m e.path t) o) (option_map (λ k. sequence_changed (put_for k ss) (sequence_round m e.path) m) r))
      by None r = whole r
      by (Some t) r = ap Some (method_replaced-map_method f m e.path t)
