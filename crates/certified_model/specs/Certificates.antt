-- Certificates: the ten laws of rewriting as pairs of patterns, and steps by them on a pattern, a tree over marks.
use Rattle.std.specs.Prelude.{ℕ, suc, ◌-◌, nat_eq, if◌then◌else◌, Bool, true, false, not, ◌||◌, List, [], ◌∷◌, Option, Some, None, is_none, option_map, option_and_then, codes}
use Rattle.std.specs.List.{list_all, concat}
use Rattle.std.specs.Option.{option_map_or}
use Rattle.tree_model.specs.Tree.{TreeOf, var}
use Rattle.tree_model.specs.Path.{part_at, replaced}
use Rattle.pattern_model.specs.declared.kinds.MetaKind.{MetaKind}
use Rattle.pattern_model.specs.declared.kinds.MetaKind.TheVariants.{Expression, Statement, StatementList, Unary}
use Rattle.pattern_model.specs.Patterns.{SelectorLike, this_selector, any_unary, PatternOf, meta, var_like, send_like, cascade_like, block_like, return_like, no_patterns, more_patterns, no_messages_like, more_messages_like, StatementsLike, no_statements_like, more_statements_like}
use Rattle.same_trees.specs.SameTrees.{same_tree}
use Rattle.pattern_model.specs.Bindings.{BoundOf, a_part, BindingOf}
use Rattle.pattern_model.specs.Fill.{fill}
use Rattle.pattern_model.specs.MatchTree.{match_tree}
use Rattle.pattern_model.specs.Named.{map_pattern}
use Rattle.certified_model.specs.Marks.{Text, Mark, plain, marked, is_same_mark, marked_tree, mark_words}

-- `@n, `.@n and `n as a unary selector
abbrev pub any_operand : Text → PatternOf Text
any_operand n = meta (record { kind = Expression; name = n; doubled = false })

abbrev pub any_list : Text → PatternOf Text
any_list n = meta (record { kind = StatementList; name = n; doubled = false })

abbrev pub any_selector : Text → SelectorLike Text
any_selector n = any_unary (record { kind = Unary; name = n; doubled = false })

-- a block without parameters and temporaries, of one statement and of some
abbrev pub closure_of : List (PatternOf Text) → PatternOf Text
closure_of ps = block_like [] [] (in_order ps) [] where
  in_order : List (PatternOf Text) → StatementsLike Text
  in_order [] = no_statements_like
  in_order (q ∷ qs) = more_statements_like [] q (in_order qs)

abbrev pub given_one : PatternOf Text → Text → PatternOf Text → PatternOf Text
given_one r s p = send_like r (this_selector s) (more_patterns p no_patterns)

abbrev pub given_two : PatternOf Text → Text → PatternOf Text → PatternOf Text → PatternOf Text
given_two r s p q = send_like r (this_selector s) (more_patterns p (more_patterns q no_patterns))

-- the parts of the laws
abbrev pub c : PatternOf Text
c = any_operand (codes "c")

abbrev pub a : PatternOf Text
a = any_operand (codes "a")

abbrev pub b : PatternOf Text
b = any_operand (codes "b")

abbrev pub s : PatternOf Text
s = any_list (codes "s")

abbrev pub some_s : PatternOf Text
some_s = closure_of (s ∷ [])

abbrev pub some_t : PatternOf Text
some_t = closure_of (any_list (codes "t") ∷ [])

abbrev pub the : Text → PatternOf Text
the n = closure_of (var_like n ∷ [])

abbrev pub to_self_like : Text → PatternOf Text
to_self_like n = send_like (var_like (codes "self")) (any_selector n) no_patterns

-- the laws, by their left and right
abbrev pub laws : List (PatternOf Text × PatternOf Text)
laws =
    (given_two c (codes "ifTrue:ifFalse:") some_s some_t, given_two c (codes "ifFalse:ifTrue:") some_t some_s)
    ∷ (given_one c (codes "ifTrue:") some_s, given_two c (codes "ifTrue:ifFalse:") some_s (the (codes "nil")))
    ∷ (given_one c (codes "ifFalse:") some_s, given_two c (codes "ifTrue:ifFalse:") (the (codes "nil")) some_s)
    ∷ (given_one c (codes "and:") some_s, given_two c (codes "ifTrue:ifFalse:") some_s (the (codes "false")))
    ∷ (given_one c (codes "or:") some_s, given_two c (codes "ifTrue:ifFalse:") (the (codes "true")) some_s)
    ∷ (given_one c (codes "ifFalse:") some_s, given_two c (codes "ifFalse:ifTrue:") some_s (the (codes "nil")))
    ∷ (given_one (given_one a (codes "and:") (closure_of (b ∷ []))) (codes "and:") (closure_of (c ∷ [])), given_one a (codes "and:") (closure_of (given_one b (codes "and:") (closure_of (c ∷ [])) ∷ [])))
    ∷ (given_one (given_one a (codes "or:") (closure_of (b ∷ []))) (codes "or:") (closure_of (c ∷ [])), given_one a (codes "or:") (closure_of (given_one b (codes "or:") (closure_of (c ∷ [])) ∷ [])))
    ∷ (
      closure_of (s ∷ cascade_like (var_like (codes "self")) (more_messages_like (any_selector (codes "m")) no_patterns (more_messages_like (any_selector (codes "n")) no_patterns no_messages_like)) ∷ []),
      closure_of (s ∷ to_self_like (codes "m") ∷ to_self_like (codes "n") ∷ []),
    )
    ∷ (
      closure_of (s ∷ given_two c (codes "ifTrue:ifFalse:") (closure_of (return_like a ∷ [])) (closure_of (return_like b ∷ [])) ∷ []),
      closure_of (s ∷ return_like (given_two c (codes "ifTrue:ifFalse:") (closure_of (a ∷ [])) (closure_of (b ∷ []))) ∷ []),
    )
    ∷ []

-- a step: a law, which way, and where
pub record CertStep : Type 0 where
  pub law : ℕ
  pub forward : Bool
  pub path : List ℕ

-- a metavariable for statements is no expression
abbrev pub is_statement_meta : MetaKind → Bool
is_statement_meta Statement = true
is_statement_meta StatementList = true
is_statement_meta k = false

abbrev pub stands : TreeOf Mark → Bool
stands (var (marked k n)) = not (is_statement_meta k)
stands t = true

abbrev pub is_fit : BoundOf Mark → Bool
is_fit (a_part t) = stands t
is_fit d = true

-- keywords joined to a selector
abbrev pub plain_joined : List Text → Mark
plain_joined ks = plain (concat ks)

-- a node that the one side matches, as the other side
abbrev pub turned : PatternOf Text × PatternOf Text → TreeOf Mark → Option (TreeOf Mark)
turned sides t =
    option_and_then (λ bs. if list_all (λ (x : BindingOf Mark). is_fit x.bound) bs then Some (fill is_same_mark plain_joined bs (map_pattern plain sides.1)) else None)
    (match_tree mark_words (map_pattern plain sides.0) t)

-- the law of a number; laws are counted from 1
abbrev pub numbered_law : ℕ → List (PatternOf Text × PatternOf Text) → Option (PatternOf Text × PatternOf Text)
numbered_law n [] = None
numbered_law n (l ∷ ls) = if nat_eq n 1 then Some l else numbered_law (n - 1) ls

-- laws 7 and 8 do not go back
abbrev pub goes_back : ℕ → Bool
goes_back n = not (nat_eq n 7 || nat_eq n 8)

-- the sides of the law of a step, in its direction
abbrev pub sides_of : CertStep → Option (PatternOf Text × PatternOf Text)
sides_of x =
    if x.forward then numbered_law x.law laws
    else if goes_back x.law then option_map (λ l. (l.1, l.0)) (numbered_law x.law laws) else None

-- what a step makes of a tree; none where it does not apply
abbrev pub take_step : CertStep → TreeOf Mark → Option (TreeOf Mark)
take_step x t = option_and_then (λ sides. option_and_then (λ u. option_map (λ v. replaced t x.path v) (turned sides u)) (part_at t x.path)) (sides_of x)

-- Where steps that are counted from a number are stuck on the way from a tree to the last one: at the first step that does not apply, or behind all of them where they make another tree than the last one. Comments do not count.
abbrev pub stuck_from : ℕ → List CertStep → TreeOf Mark → TreeOf Mark → Option ℕ
stuck_from n [] last t = if same_tree is_same_mark last t then None else Some n
stuck_from n (x ∷ xs) last t = option_map_or (stuck_from (suc n) xs last) (take_step x t) (Some n)

-- Where a certificate is stuck on the way from a pattern to a replacement, with its steps counted from 1. It has at least one step. Metavariables are the same where kind and name are, doubled or not.
abbrev pub stuck_at : List CertStep → PatternOf Text → PatternOf Text → Option ℕ
stuck_at [] p q = Some 1
stuck_at (x ∷ xs) p q = stuck_from 1 (x ∷ xs) (marked_tree q) (marked_tree p)

-- a certificate derives a rule: it is stuck nowhere
abbrev pub derives : List CertStep → PatternOf Text → PatternOf Text → Bool
derives xs p q = is_none (stuck_at xs p q)
