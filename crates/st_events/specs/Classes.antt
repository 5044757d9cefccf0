-- Tokens by what they go on with.
use Rattle.std.specs.Prelude.{Bool, true, false}
use Rattle.grammar_model.specs.Terminal.{Super, Sign, Bar, BraceStart, GroupEnd, TextEnd, Terminal, Name, Keyword, Binary, Numeral, Constant, Opens, Closes, Semicolon, Period, Caret, OperandMeta, AnyName, StatementMeta, MessageMeta, AnyKey}

-- a unary selector
abbrev pub is_name : Terminal → Bool
is_name (Name c n) = true
is_name (OperandMeta AnyName n) = true
is_name k = false

-- an identifier
abbrev pub is_plain_name : Terminal → Bool
is_plain_name (Name c n) = true
is_plain_name k = false

-- super
abbrev pub is_super : Terminal → Bool
is_super (Name Super n) = true
is_super k = false

-- a binary selector
abbrev pub is_binary : Terminal → Bool
is_binary (Binary c s) = true
is_binary k = false

-- the end of the text
abbrev pub is_end : Terminal → Bool
is_end (Closes TextEnd) = true
is_end k = false

-- a semicolon
abbrev pub is_semicolon : Terminal → Bool
is_semicolon Semicolon = true
is_semicolon k = false

-- a period
abbrev pub is_period : Terminal → Bool
is_period Period = true
is_period k = false

-- a bar
abbrev pub is_bar : Terminal → Bool
is_bar (Binary Bar s) = true
is_bar k = false

-- a message begins so
abbrev pub is_message : Terminal → Bool
is_message (Name c n) = true
is_message (OperandMeta AnyName n) = true
is_message (Binary c s) = true
is_message (Keyword c s) = true
is_message (MessageMeta s) = true
is_message k = false

-- an element of an array begins so, or the array is over
abbrev pub is_element : Terminal → Bool
is_element (Name c n) = true
is_element (Keyword AnyKey n) = false
is_element (Keyword c n) = true
is_element (Binary c s) = true
is_element (Numeral c t) = true
is_element (Constant l) = true
is_element (Opens BraceStart) = false
is_element (Opens o) = true
is_element (Closes GroupEnd) = true
is_element k = false

-- an operand begins so
abbrev pub begins_operand : Terminal → Bool
begins_operand (Name c n) = true
begins_operand (Binary Sign s) = true
begins_operand (Numeral c t) = true
begins_operand (Constant l) = true
begins_operand (Opens o) = true
begins_operand (OperandMeta m n) = true
begins_operand k = false

-- a period, or a statement begins so
abbrev pub begins_statement : Terminal → Bool
begins_statement Period = true
begins_statement Caret = true
begins_statement (StatementMeta n) = true
begins_statement k = begins_operand k
