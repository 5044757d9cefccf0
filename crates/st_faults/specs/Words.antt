-- The words for what could have stood where a text is wrong.
use Rattle.std.specs.Prelude.{codes}
use Rattle.grammar_model.specs.declared.wanted.Wanted.{Wanted}
use Rattle.grammar_model.specs.declared.wanted.Wanted.TheVariants.{Operand, Identifier, Element, End}
use Rattle.grammar_model.specs.Terminal.{Text}

-- the word
abbrev pub word : Wanted → Text
word Operand = codes "operand"
word Identifier = codes "identifier"
word Element = codes "element"
word End = codes "end"
