-- Certificates that derive rules, and some that do not.
use Rattle.std.specs.Prelude.{◌≡◌, ℕ, true, false, List, [], ◌∷◌, Some, codes}
use Rattle.tree_model.specs.Tree.{TreeOf, var, send, cascade, block, trees_of, no_messages, more_messages, no_statements, more_statements}
use Rattle.pattern_model.specs.Patterns.{var_like}
use Rattle.pattern_model.specs.Spelled.{pattern_of}
use Rattle.certified_model.specs.Marks.{Text}
use Rattle.certified_model.specs.Certificates.{any_operand, some_s, the, given_one, given_two, CertStep, stuck_at, derives}

abbrev pub closed : TreeOf Text → TreeOf Text
closed t = block [] [] (more_statements [] t no_statements) []

abbrev pub step : ℕ → List ℕ → CertStep
step n path = record { law = n; forward = true; path = path }

-- +4@ `@x and: [`.@s] ==> `@x ifTrue: [`.@s] ifFalse: [false]
abbrev pub both_pattern : TreeOf Text
both_pattern = send (var (codes "`@x")) (codes "and:") (trees_of (closed (var (codes "`.@s")) ∷ []))

abbrev pub both_replaced : TreeOf Text
both_replaced = send (var (codes "`@x")) (codes "ifTrue:ifFalse:") (trees_of (closed (var (codes "`.@s")) ∷ closed (var (codes "false")) ∷ []))

-- +2@,+1@ `@c ifTrue: [`.@s] ==> `@c ifFalse: [nil] ifTrue: [`.@s]
abbrev pub true_pattern : TreeOf Text
true_pattern = send (var (codes "`@c")) (codes "ifTrue:") (trees_of (closed (var (codes "`.@s")) ∷ []))

abbrev pub true_between : TreeOf Text
true_between = send (var (codes "`@c")) (codes "ifTrue:ifFalse:") (trees_of (closed (var (codes "`.@s")) ∷ closed (var (codes "nil")) ∷ []))

abbrev pub true_replaced : TreeOf Text
true_replaced = send (var (codes "`@c")) (codes "ifFalse:ifTrue:") (trees_of (closed (var (codes "nil")) ∷ closed (var (codes "`.@s")) ∷ []))

-- ``@x and: [``.@s]
abbrev pub doubled_pattern : TreeOf Text
doubled_pattern = send (var (codes "``@x")) (codes "and:") (trees_of (closed (var (codes "``.@s")) ∷ []))

-- `@y foo: [t]
abbrev pub in_argument : TreeOf Text → TreeOf Text
in_argument t = send (var (codes "`@y")) (codes "foo:") (trees_of (closed t ∷ []))

-- `@y `@k: `@z; foo: [t]
abbrev pub behind_whole : Text → TreeOf Text → TreeOf Text
behind_whole z t =
    cascade (var (codes "`@y")) (more_messages (codes "`@k:") (trees_of (var z ∷ [])) (more_messages (codes "foo:") (trees_of (closed t ∷ [])) no_messages))

-- (`@a and: [b]) and: [`@c] and `@a and: [b and: [`@c]]
abbrev pub both_left : Text → TreeOf Text
both_left b = send (send (var (codes "`@a")) (codes "and:") (trees_of (closed (var b) ∷ []))) (codes "and:") (trees_of (closed (var (codes "`@c")) ∷ []))

abbrev pub both_right : Text → TreeOf Text
both_right b = send (var (codes "`@a")) (codes "and:") (trees_of (closed (send (var b) (codes "and:") (trees_of (closed (var (codes "`@c")) ∷ []))) ∷ []))

abbrev pub back : ℕ → CertStep
back n = record { law = n; forward = false; path = [] }

-- Steps derive rules, also in an argument, with doubled metavariables and behind a whole message, whatever stands behind its keyword. Another law does not, nor does no step; law 7 does not go back, and takes no statement for an expression; and no name is a metavariable. A certificate is stuck at its first step that does not apply, and behind its last one where that does not make the replacement.
pub record CertificateExamples : Type 0 where
  pub one : derives (step 4 [] ∷ []) (pattern_of both_pattern) (pattern_of both_replaced) ≡ true
  pub two : derives (step 2 [] ∷ step 1 [] ∷ []) (pattern_of true_pattern) (pattern_of true_replaced) ≡ true
  pub other_law : derives (step 5 [] ∷ []) (pattern_of both_pattern) (pattern_of both_replaced) ≡ false
  pub inside : derives (step 4 (1 ∷ 0 ∷ []) ∷ []) (pattern_of (in_argument both_pattern)) (pattern_of (in_argument both_replaced)) ≡ true
  pub doubled : derives (step 4 [] ∷ []) (pattern_of doubled_pattern) (pattern_of both_replaced) ≡ true
  pub behind : derives (step 4 (1 ∷ 0 ∷ []) ∷ []) (pattern_of (behind_whole (codes "`@m") both_pattern)) (pattern_of (behind_whole (codes "`@n") both_replaced)) ≡ true
  pub none : derives [] (pattern_of both_pattern) (pattern_of both_pattern) ≡ false
  pub seven : derives (step 7 [] ∷ []) (pattern_of (both_left (codes "`@b"))) (pattern_of (both_right (codes "`@b"))) ≡ true
  pub not_back : derives (back 7 ∷ []) (pattern_of (both_right (codes "`@b"))) (pattern_of (both_left (codes "`@b"))) ≡ false
  pub no_statement : derives (step 7 [] ∷ []) (pattern_of (both_left (codes "`.b"))) (pattern_of (both_right (codes "`.b"))) ≡ false
  pub no_name : derives (step 4 [] ∷ []) (given_one (any_operand (codes "x")) (codes "and:") some_s) (given_two (var_like (codes "`@x")) (codes "ifTrue:ifFalse:") some_s (the (codes "false"))) ≡ false
  pub stuck_first : stuck_at (step 5 [] ∷ step 4 [] ∷ []) (pattern_of both_pattern) (pattern_of both_replaced) ≡ Some 1
  pub stuck_second : stuck_at (step 2 [] ∷ step 4 [] ∷ []) (pattern_of true_pattern) (pattern_of true_replaced) ≡ Some 2
  pub stuck_behind : stuck_at (step 2 [] ∷ []) (pattern_of true_pattern) (pattern_of true_replaced) ≡ Some 2
