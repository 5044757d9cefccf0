-- A message at a path, and the body that stands in its place.
use Rattle.std.proofs.Common.{◌≡◌, ℕ, List, Option, None, Some, option_map, refl, sym, ap, ◌∙◌}
use Rattle.std.specs.Prelude.{option_and_then}
use Rattle.std.specs.Option.{option_map_or, option_or}
use Rattle.tree_model.specs.Tree.{TreeOf, var, literal, send, cascade, assign, block, brace, return, StatementsOf, MethodOf}
use Rattle.tree_model.specs.Path.{part_in, method_replaced}
use Rattle.command_model.specs.Asked.{AskedOf}
use Rattle.command_model.specs.Parts.{Expression}
use Rattle.command_model.specs.Places.{SendOf, as_send, sent_by, sequence_round, whole_statement}
use Rattle.command_model.specs.Sequences.{put_for, sequence_changed}
use Rattle.command_model.specs.Inlined.{answered, last_unanswered, unfolded, tree_inlined}

module _ {N : Type 0} where
  path-sent : (path : List ℕ) (t : TreeOf N) → option_map_or (λ (e : SendOf N). e.path) (as_send path t) path ≡ path
  path-sent path (var n) = refl
  path-sent path (literal l) = refl
  path-sent path (send r s args) = refl
  path-sent path (cascade r ms) = refl
  path-sent path (assign n t) = refl
  path-sent path (block ps ts ss e) = refl
  path-sent path (brace ts) = refl
  path-sent path (return t) = refl

  -- a message stands where it was looked for
  pub sent-path : (m : MethodOf N) (path : List ℕ) (e : SendOf N) → sent_by m (Expression path) ≡ Some e → e.path ≡ path
  sent-path m path e h = sym (ap (λ (o : Option (SendOf N)). option_map_or (λ (x : SendOf N). x.path) o path) h) ∙ by (part_in m.body path)
    where
      by : (o : Option (TreeOf N)) → option_map_or (λ (x : SendOf N). x.path) (option_and_then (as_send path) o) path ≡ path
      by None = refl
      by (Some t) = path-sent path t

  abbrev made : MethodOf N → StatementsOf N → List ℕ → Option (MethodOf N)
  made m us p = option_or (option_map (λ t. method_replaced m p t) (answered us)) (option_map (λ j. sequence_changed (put_for j (last_unanswered us)) (sequence_round m p) m) (whole_statement m p))

  -- statements stand in place of a message that is a whole one, where they answer no expression
  pub whole-inlined : (a : AskedOf N) (m target : MethodOf N) (e : SendOf N) (path : List ℕ) (ss : StatementsOf N) (k : ℕ) → sent_by m (Expression path) ≡ Some e
      → unfolded a target e.arguments ≡ ss → answered ss ≡ None → whole_statement m path ≡ Some k
      → option_and_then (λ x. tree_inlined a m x target) (sent_by m (Expression path)) ≡ Some (sequence_changed (put_for k (last_unanswered ss)) (sequence_round m path) m)
  whole-inlined a m target e path ss k h u n w =
      ap (option_and_then (λ (x : SendOf N). tree_inlined a m x target)) h
      ∙ ap (λ (us : StatementsOf N). made m us e.path) u
      ∙ ap (made m ss) (sent-path m path e h)
      ∙ ap (λ (o : Option (TreeOf N)). option_or (option_map (λ t. method_replaced m path t) o) (option_map (λ j. sequence_changed (put_for j (last_unanswered ss)) (sequence_round m path) m) (whole_statement m path))) n
      ∙ ap (option_map (λ j. sequence_changed (put_for j (last_unanswered ss)) (sequence_round m path) m)) w
