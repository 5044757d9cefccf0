-- What the bytes of the tokens of patterns are.
use Rattle.std.specs.Prelude.{◌≡◌, true, List, [], ◌∷◌}
use Rattle.text_model.specs.Literals.{is_identifier, is_keyword, is_operator}
use Rattle.text_model.specs.Pieces.{has_colon}
use Rattle.grammar_model.specs.Terminal.{Terminal, Name, Keyword, Binary, AnyKey, OperandMeta, AnyName, AnyLiteral, AnyExpression, StatementMeta, MessageMeta}
use Rattle.grammar_model.specs.Input.{Lexeme, lex}
use Rattle.pattern_model.specs.Spelled.{begins, is_meta, marked}

-- names, keywords and binary selectors are spelled as such, and metavariables with their backquotes and marks
abbrev pub HasText : Terminal → Type 0
HasText (Name c n) = is_identifier n ≡ true
HasText (Keyword AnyKey k) = (is_meta k ≡ true) × (is_keyword (marked k) ≡ true)
HasText (Keyword c k) = is_keyword k ≡ true
HasText (Binary c s) = is_operator s ≡ true
HasText (OperandMeta AnyName n) = (is_meta n ≡ true) × (is_identifier (marked n) ≡ true)
HasText (OperandMeta AnyLiteral n) = (is_meta n ≡ true) × (begins 35 (marked n) ≡ true)
HasText (OperandMeta AnyExpression n) = (is_meta n ≡ true) × (begins 64 (marked n) ≡ true)
HasText (StatementMeta n) = (is_meta n ≡ true) × (begins 46 (marked n) ≡ true)
HasText (MessageMeta k) = (is_meta k ≡ true) × (begins 64 (marked k) ≡ true) × (has_colon k ≡ true)
HasText k = Unit {0}

-- each token is spelled so
abbrev pub HaveTexts : List Lexeme → Type 0
HaveTexts [] = Unit {0}
HaveTexts (lex c f e k ∷ ts) = HasText k × HaveTexts ts
