-- What a token is to the grammar.
use Rattle.tree_model.specs.Tree.{LiteralOf}
use Rattle.grammar_model.specs.Terminal.{Text, Terminal, Keyword, Ordinary, AnyKeyword, Common, AnyKey, OperandMeta, AnyName, AnyLiteral, AnyExpression, StatementMeta, MessageMeta, SmallDigits, LargeDigits, Assignment, Colon, Semicolon, Period, Caret}
use Rattle.grammar_model.specs.Terminal as grammar
use Rattle.st_faults.specs.declared.sort.Sort.{Sort}
use Rattle.st_faults.specs.declared.sort.Sort.TheVariants as sort

-- a token of a sort with these bytes; a constant spells the literal
abbrev pub terminal : Sort → Text → LiteralOf Text → Terminal
terminal sort.Name s l = grammar.Name Ordinary s
terminal sort.Super s l = grammar.Name grammar.Super s
terminal sort.Keyword s l = grammar.Keyword AnyKeyword s
terminal sort.PrimitiveKeyword s l = grammar.Keyword grammar.PrimitiveKeyword s
terminal sort.Binary s l = grammar.Binary Common s
terminal sort.Sign s l = grammar.Binary grammar.Sign s
terminal sort.Less s l = grammar.Binary grammar.Less s
terminal sort.Greater s l = grammar.Binary grammar.Greater s
terminal sort.Bar s l = grammar.Binary grammar.Bar s
terminal sort.SmallNumeral s l = grammar.Numeral SmallDigits s
terminal sort.LargeNumeral s l = grammar.Numeral LargeDigits s
terminal sort.OtherNumeral s l = grammar.Numeral grammar.OtherNumeral s
terminal sort.Constant s l = grammar.Constant l
terminal sort.GroupStart s l = grammar.Opens grammar.Group
terminal sort.BlockStart s l = grammar.Opens grammar.BlockStart
terminal sort.BraceStart s l = grammar.Opens grammar.BraceStart
terminal sort.ArrayStart s l = grammar.Opens grammar.ArrayStart
terminal sort.BytesStart s l = grammar.Opens grammar.BytesStart
terminal sort.GroupEnd s l = grammar.Closes grammar.GroupEnd
terminal sort.BlockEnd s l = grammar.Closes grammar.BlockEnd
terminal sort.BraceEnd s l = grammar.Closes grammar.BraceEnd
terminal sort.TextEnd s l = grammar.Closes grammar.TextEnd
terminal sort.Assignment s l = Assignment
terminal sort.Colon s l = Colon
terminal sort.Semicolon s l = Semicolon
terminal sort.Period s l = Period
terminal sort.Caret s l = Caret
terminal sort.AnyName s l = OperandMeta AnyName s
terminal sort.AnyLiteral s l = OperandMeta AnyLiteral s
terminal sort.AnyExpression s l = OperandMeta AnyExpression s
terminal sort.AnyStatement s l = StatementMeta s
terminal sort.AnyKey s l = Keyword AnyKey s
terminal sort.AnyMessage s l = MessageMeta s
