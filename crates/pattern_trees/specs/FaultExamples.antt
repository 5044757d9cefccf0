-- Examples of faults of metavariables.
use Rattle.std.specs.Prelude.{ℕ, Bool, false, List, [], ◌∷◌, codes}
use Rattle.grammar_model.specs.Terminal.{Closes, TextEnd, Keyword, AnyKey, OperandMeta, AnyName, AnyExpression, MessageMeta}
use Rattle.grammar_model.specs.Input.{Lexeme, lex}
use Rattle.grammar_model.specs.Spanned.{SpannedTree, Var, Block, NoStatements, MoreStatements}
use Rattle.pattern_model.specs.declared.kinds.MetaKind.TheVariants.{Name}
use Rattle.pattern_model.specs.Patterns.{PatternOf, meta, send_like, this_selector, no_patterns, more_patterns}

-- [`.@a. x. `.@b], and the same with a block round the second list
abbrev pub lists : SpannedTree
lists =
    Block 0 15 [] []
    (MoreStatements [] 1 (Var 1 5 (codes "`.@a")) (MoreStatements [] 7 (Var 7 8 (codes "x")) (MoreStatements [] 10 (Var 10 14 (codes "`.@b")) NoStatements))) []

abbrev pub lists_apart : SpannedTree
lists_apart =
    Block 0 14 [] [] (MoreStatements [] 1 (Var 1 5 (codes "`.@a")) (MoreStatements [] 7 (Block 7 13 [] [] (MoreStatements [] 8 (Var 8 12 (codes "`.@b")) NoStatements) []) NoStatements)) []

-- `x `@m: `@y
abbrev pub message_tokens : List Lexeme
message_tokens =
    lex [] 0 2 (OperandMeta AnyName (codes "`x")) ∷ lex [] 3 7 (MessageMeta (codes "`@m:")) ∷ lex [] 8 11 (OperandMeta AnyExpression (codes "`@y")) ∷ lex [] 11 11 (Closes TextEnd) ∷ []

-- `x `k: `y
abbrev pub keyword_tokens : List Lexeme
keyword_tokens =
    lex [] 0 2 (OperandMeta AnyName (codes "`x")) ∷ lex [] 3 6 (Keyword AnyKey (codes "`k:")) ∷ lex [] 7 9 (OperandMeta AnyName (codes "`y")) ∷ lex [] 9 9 (Closes TextEnd) ∷ []

-- a name, doubled or not, and two names as the receiver and the argument of a message
abbrev pub name : Bool → ℕ → PatternOf ℕ
name doubled n = meta (record { kind = Name; name = n; doubled = doubled })

abbrev pub pair : ℕ → ℕ → PatternOf ℕ
pair m n = send_like (name false m) (this_selector 9) (more_patterns (name false n) no_patterns)
