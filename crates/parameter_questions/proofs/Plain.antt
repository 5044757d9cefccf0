-- What messages pass, by the nodes that send them.
use Rattle.std.proofs.Common.{◌≡◌, ℕ, ◌&&◌, ◌||◌, Bool, true, false, not, cond, List, [], ◌∷◌, refl, ap, true≢false}
use Rattle.std.specs.Prelude.{nat_eq, filter}
use Rattle.std.specs.List.{list_all}
use Rattle.tree_model.specs.Tree.{TreeOf, var, literal, send, cascade, assign, block, brace, return, TreesOf, MessagesOf, no_messages, more_messages, SequenceOf}
use Rattle.tree_model.specs.Nodes.{Placed, nodes}
use Rattle.image_model.specs.Means.{MeaningOf}
use Rattle.image_model.specs.Uses.{has_message, is_sender}
use Rattle.command_model.specs.ParameterConditions.{passed_by}
use Rattle.parameter_questions.specs.Codes.{is_dropped, all_dropped, are_dropped, passes_other}
use Rattle.parameter_questions.specs.Questions.{sends_in}
use Rattle.parameter_questions.proofs.Kept.{kept-all, fails-kept}

-- the first of two tests failed
or-first : (a b : Bool) → (a || b) ≡ false → a ≡ false
or-first true b e = e
or-first false b e = refl

or-second : (a b : Bool) → (a || b) ≡ false → b ≡ false
or-second true b e = absurd (true≢false e)
or-second false b e = e

module _ (s k : ℕ) where
  module _ (meaning : ℕ → MeaningOf ℕ) where
    all-unsent : (ms : MessagesOf ℕ) → has_message nat_eq s ms ≡ false → all_dropped meaning s k ms ≡ true
    all-unsent no_messages e = refl
    all-unsent (more_messages t args ms) e =
        λ j. (not (or-first (nat_eq s t) (has_message nat_eq s ms) e j) || is_dropped meaning k args) && all-unsent ms (or-second (nat_eq s t) (has_message nat_eq s ms) e) j

    -- one list of arguments of a message
    one-passed : (b : Bool) (args : TreesOf ℕ) → (not b || is_dropped meaning k args) ≡ list_all (is_dropped meaning k) (cond b (args ∷ []) [])
    one-passed true args = by (is_dropped meaning k args)
      where
        by : (d : Bool) → d ≡ (d && true)
        by true = refl
        by false = refl
    one-passed false args = refl

    all-passed : (r : TreeOf ℕ) (ms : MessagesOf ℕ) → all_dropped meaning s k ms ≡ list_all (is_dropped meaning k) (passed_by nat_eq s (cascade r ms))
    all-passed r no_messages = refl
    all-passed r (more_messages t args ms) = by (nat_eq s t) (all-passed r ms)
      where
        by : (b : Bool) → all_dropped meaning s k ms ≡ list_all (is_dropped meaning k) (passed_by nat_eq s (cascade r ms))
            → ((not b || is_dropped meaning k args) && all_dropped meaning s k ms) ≡ list_all (is_dropped meaning k) (cond b (args ∷ passed_by nat_eq s (cascade r ms)) (passed_by nat_eq s (cascade r ms)))
        by true rest = ap (λ (b : Bool). is_dropped meaning k args && b) rest
        by false rest = rest

  module _ (meaning : List ℕ → ℕ → MeaningOf ℕ) where
    -- a node that does not send the selector
    unsent-dropped : (e : Placed ℕ) → is_sender nat_eq s e.1 ≡ false → are_dropped meaning s k e ≡ true
    unsent-dropped (path, var n) f = refl
    unsent-dropped (path, literal l) f = refl
    unsent-dropped (path, send r t args) f = ap (λ (b : Bool). not b || is_dropped (meaning path) k args) f
    unsent-dropped (path, cascade r ms) f = all-unsent (meaning path) ms f
    unsent-dropped (path, assign n t) f = refl
    unsent-dropped (path, block ps ts ss d) f = refl
    unsent-dropped (path, brace ts) f = refl
    unsent-dropped (path, return t) f = refl

    -- what each message passes that a node sends
    pub passed-dropped : (path : List ℕ) (t : TreeOf ℕ) → are_dropped meaning s k (path, t) ≡ list_all (is_dropped (meaning path) k) (passed_by nat_eq s t)
    passed-dropped path (var n) = refl
    passed-dropped path (literal l) = refl
    passed-dropped path (send r t args) = one-passed (meaning path) (nat_eq s t) args
    passed-dropped path (cascade r ms) = all-passed (meaning path) r ms
    passed-dropped path (assign n t) = refl
    passed-dropped path (block ps ts ss d) = refl
    passed-dropped path (brace ts) = refl
    passed-dropped path (return t) = refl

    -- it is enough to look at the nodes that send the selector
    pub senders-dropped : (es : List (Placed ℕ)) → list_all (are_dropped meaning s k) (filter (λ (e : Placed ℕ). is_sender nat_eq s e.1) es) ≡ list_all (are_dropped meaning s k) es
    senders-dropped es = kept-all (λ (e : Placed ℕ). is_sender nat_eq s e.1) (are_dropped meaning s k) es unsent-dropped

    -- code that passes something else sends it
    pub other-sent : (b : SequenceOf ℕ) → passes_other meaning s k b ≡ true → sends_in s b ≡ true
    other-sent b e = fails-kept (λ (e : Placed ℕ). is_sender nat_eq s e.1) (are_dropped meaning s k) (nodes b) unsent-dropped e
