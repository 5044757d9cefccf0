-- Commands whose text spells what they add.
use Rattle.std.specs.Prelude.{false, []}
use Rattle.token_model.specs.declared.kind.Dialect.TheVariants.{Second}
use Rattle.tree_model.specs.Tree.{LiteralOf, no_statements, more_statements, SequenceOf}
use Rattle.grammar_model.specs.Spelling.{SpellsDoIt, SpellsMethod}
use Rattle.file_model.specs.Fileable.{MayStand}
use Rattle.file_model.specs.Filing.{Text}
use Rattle.command_model.specs.Commands.{CommandOf, AddMethod, AddParameter}
use Rattle.command_model.specs.Plain.{literal_node}

-- the do-it that is a literal alone
abbrev pub literal_alone : LiteralOf Text → SequenceOf Text
literal_alone l = record { temporaries = []; statements = more_statements [] (literal_node l) no_statements; tail = [] }

-- the text of a method that a command adds spells its tree, and some text spells the literal that a command passes
abbrev pub IsSpelled : CommandOf Text → Type 0
IsSpelled (AddMethod c meta protocol text tree) = SpellsMethod Second false text tree
IsSpelled (AddParameter s t x passed) = (text : Text) × SpellsDoIt Second text (literal_alone passed)
IsSpelled command = Unit {0}

-- that text may stand as a chunk: it is not empty and begins with no blank
abbrev pub MayBeFiled : CommandOf Text → Type 0
MayBeFiled (AddMethod c meta protocol text tree) = MayStand text
MayBeFiled command = Unit {0}
