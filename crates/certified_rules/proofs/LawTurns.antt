-- What a law of the table makes of a node that one of its sides matches is a step, and so is the way back.
use Rattle.std.proofs.Common.{◌≡◌, List, [], refl, None}
use Rattle.std.specs.Prelude.{true, false, not, codes}
use Rattle.std.specs.List.{AllByRecursion}
use Rattle.tree_model.specs.Tree.{Notes, TreeOf, var, literal, send, cascade, assign, block, brace, return, no_trees, more_trees, no_messages, more_messages, StatementsOf, no_statements, more_statements}
use Rattle.pattern_model.specs.declared.kinds.MetaKind.{MetaKind}
use Rattle.pattern_model.specs.declared.kinds.MetaKind.TheVariants.{Name, Constant, Expression, Statement, StatementList, Unary, Keyword, Message}
use Rattle.pattern_model.specs.Patterns.{MetaOf, PatternOf, list_kind, metas}
use Rattle.pattern_model.specs.Bindings.{BoundOf, a_part, a_run, a_selector, a_keyword, a_message}
use Rattle.pattern_model.specs.Matches.{is_of_kind, IsLawful}
use Rattle.pattern_model.specs.Fill.{part_in, run_in, selector_in, append_statements, noted, filled}
use Rattle.pattern_model.specs.Named.{map_pattern}
use Rattle.certified_model.specs.LawSteps.{IsSingle, IsUnaryLike, Stepped, step_10, step_back_10, LinesStepped, no_line_stepped, line_stepped, step_9, step_back_9}
use Rattle.certified_model.specs.Marks.{Text, Mark, plain, marked, marked_unary, marked_whole, in_keywords, undoubled, selector_marked, pattern_marked, statements_marked, is_unary_mark, mark_words}
use Rattle.certified_model.specs.Certificates.{is_statement_meta, stands, is_fit, plain_joined}
use Rattle.certified_rules.proofs.StepsAt.{stays}

-- a metavariable of a law, over marks
abbrev pub of_law : MetaKind → Text → MetaOf Mark
of_law k n = record { kind = k; name = plain n; doubled = false }

-- what is known of bindings: no metavariable is bound to one for statements as an expression, and each is bound in its kind
pub record IsKnown (bound : MetaOf Mark → BoundOf Mark) (ms : List (MetaOf Mark)) : Type 0 where
  pub fit : (k : MetaKind) (n : Text) → is_fit (bound (of_law k n)) ≡ true
  pub kinds : AllByRecursion (λ m. is_of_kind mark_words m.kind (bound m) ≡ true) ms

-- a side of a law, filled
abbrev pub side : (MetaOf Mark → BoundOf Mark) → PatternOf Text → PatternOf Text
side bound p = pattern_marked (filled bound plain_joined (map_pattern plain p))

-- a pair of sides of which the second is a step from the first, whatever is bound
pub record Turns (l : PatternOf Text × PatternOf Text) : Type 0 where
  pub lawful : IsLawful (map_pattern plain l.0)
  pub turns : (bound : MetaOf Mark → BoundOf Mark) → IsKnown bound (metas (map_pattern plain l.0)) → Stepped (side bound l.0) (side bound l.1)

-- what stands as an expression is no metavariable for a list of statements
kind-single : (k : MetaKind) (n : Text) → not (is_statement_meta k) ≡ true → ◌≡◌ (list_kind k (undoubled k n)) None
kind-single Name n e = refl
kind-single Constant n e = refl
kind-single Expression n e = refl
kind-single Statement n e = refl
kind-single StatementList n e = let bad : ⊥ = cc in absurd bad
kind-single Unary n e = refl
kind-single Keyword n e = refl
kind-single Message n e = refl

tree-single : (t : TreeOf Mark) → stands t ≡ true → IsSingle (pattern_marked t)
tree-single (var (plain n)) e = refl
tree-single (var (marked k n)) e = kind-single k n e
tree-single (var (marked_unary k n)) e = refl
tree-single (var (marked_whole k n)) e = refl
tree-single (var (in_keywords ks)) e = refl
tree-single (literal l) e = refl
tree-single (send r s ts) e = refl
tree-single (cascade r ms) e = refl
tree-single (assign n t) e = refl
tree-single (block ps ts ss c) e = refl
tree-single (brace ts) e = refl
tree-single (return t) e = refl

part-single : (n : Text) (b : BoundOf Mark) → is_fit b ≡ true → IsSingle (pattern_marked (part_in (plain n) b))
part-single n (a_part t) e = tree-single t e
part-single n (a_run ss) e = refl
part-single n (a_selector s) e = refl
part-single n (a_keyword k) e = refl
part-single n (a_message s ts) e = refl

-- what stands as a unary selector is one, or any
mark-unary : (m : Mark) → is_unary_mark m ≡ true → IsUnaryLike (selector_marked m)
mark-unary (plain n) e = tt
mark-unary (marked k n) e = tt
mark-unary (marked_unary k n) e = tt
mark-unary (marked_whole k n) e = let bad : ⊥ = cc in absurd bad
mark-unary (in_keywords ks) e = let bad : ⊥ = cc in absurd bad

pub part-unary : (n : Text) (b : BoundOf Mark) → is_of_kind mark_words Unary b ≡ true → IsUnaryLike (selector_marked (selector_in (plain n) b))
part-unary n (a_part t) e = tt
part-unary n (a_run ss) e = tt
part-unary n (a_selector s) e = mark-unary s e
part-unary n (a_keyword k) e = tt
part-unary n (a_message s ts) e = let bad : ⊥ = cc in absurd bad

-- a step of statements behind a run that stays
lines-behind : (run xs ys : StatementsOf Mark) → LinesStepped (statements_marked xs) (statements_marked ys) → LinesStepped (statements_marked (append_statements run xs)) (statements_marked (append_statements run ys))
lines-behind no_statements xs ys h = h
lines-behind (more_statements c t ss) xs ys h = line_stepped c c (stays (pattern_marked t)) (lines-behind ss xs ys h)

pub noted-behind : (run xs ys : StatementsOf Mark) (e : Notes) → LinesStepped (statements_marked (noted [] xs e).0) (statements_marked (noted [] ys e).0) → LinesStepped (statements_marked xs) (statements_marked ys) →
    LinesStepped (statements_marked (noted [] (append_statements run xs) e).0) (statements_marked (noted [] (append_statements run ys) e).0)
noted-behind no_statements xs ys e g h = g
noted-behind (more_statements c t ss) xs ys e g h = line_stepped c c (stays (pattern_marked t)) (lines-behind ss xs ys h)

module _ (bound : MetaOf Mark → BoundOf Mark) where
  -- the parts of laws 9 and 10
  abbrev pub run : StatementsOf Mark
  run = run_in (bound (of_law StatementList (codes "s")))

  abbrev selected : Text → Mark
  selected n = selector_in (plain n) (bound (of_law Unary n))

  abbrev part : Text → TreeOf Mark
  part n = part_in (plain n) (bound (of_law Expression n))

  abbrev self_mark : TreeOf Mark
  self_mark = var (plain (codes "self"))

  abbrev pub cascaded : StatementsOf Mark
  cascaded = more_statements [] (cascade self_mark (more_messages (selected (codes "m")) no_trees (more_messages (selected (codes "n")) no_trees no_messages))) no_statements

  abbrev pub in_turn : StatementsOf Mark
  in_turn = more_statements [] (send self_mark (selected (codes "m")) no_trees) (more_statements [] (send self_mark (selected (codes "n")) no_trees) no_statements)

  abbrev expression : TreeOf Mark → TreeOf Mark
  expression t = block [] [] (more_statements [] t no_statements) []

  abbrev chosen : TreeOf Mark → TreeOf Mark → TreeOf Mark
  chosen t u = send (part (codes "c")) (plain (codes "ifTrue:ifFalse:")) (more_trees t (more_trees u no_trees))

  abbrev pub inner_returns : StatementsOf Mark
  inner_returns = more_statements [] (chosen (expression (return (part (codes "a")))) (expression (return (part (codes "b"))))) no_statements

  abbrev pub outer_return : StatementsOf Mark
  outer_return = more_statements [] (return (chosen (expression (part (codes "a"))) (expression (part (codes "b"))))) no_statements

  module _ (fit : (k : MetaKind) (n : Text) → is_fit (bound (of_law k n)) ≡ true) where
    pub single : (n : Text) → IsSingle (pattern_marked (part n))
    single n = part-single n (bound (of_law Expression n)) (fit Expression n)

    pub ten-forth : LinesStepped (statements_marked inner_returns) (statements_marked outer_return)
    ten-forth = line_stepped [] [] (step_10 [] [] [] [] [] [] [] [] (stays _) (stays _) (stays _) (single (codes "a")) (single (codes "b"))) no_line_stepped

    pub ten-back : LinesStepped (statements_marked outer_return) (statements_marked inner_returns)
    ten-back = line_stepped [] [] (step_back_10 [] [] [] [] [] [] [] [] (stays _) (stays _) (stays _) (single (codes "a")) (single (codes "b"))) no_line_stepped

  module _ (um : IsUnaryLike (selector_marked (selected (codes "m")))) (un : IsUnaryLike (selector_marked (selected (codes "n")))) where
    pub nine-forth : LinesStepped (statements_marked cascaded) (statements_marked in_turn)
    nine-forth = step_9 [] [] [] (selector_marked (selected (codes "m"))) (selector_marked (selected (codes "n"))) um un no_line_stepped

    pub nine-back : LinesStepped (statements_marked in_turn) (statements_marked cascaded)
    nine-back = step_back_9 [] [] [] (selector_marked (selected (codes "m"))) (selector_marked (selected (codes "n"))) um un no_line_stepped
