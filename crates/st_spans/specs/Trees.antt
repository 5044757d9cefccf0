-- What holds of the tree of a text.
use Rattle.std.specs.Prelude.{◌-◌, false, take, drop}
use Rattle.token_model.specs.declared.kind.Dialect.TheVariants.{Second}
use Rattle.grammar_model.specs.Terminal.{Text}
use Rattle.grammar_model.specs.Spanned.{SpannedSequence, SpannedMethod}
use Rattle.grammar_model.specs.Spans.{Span}
use Rattle.grammar_model.specs.Spelling.{SpellsDoItAt, SpellsMethodAt}

-- the text is a method of a user without any fault, and this holds of its body
pub record OfMethod (text : Text) (P : SpannedSequence → Type 0) : Type 0 where
  pub tree : SpannedMethod
  pub spells : SpellsMethodAt Second false text tree
  pub holds : P tree.body

-- the text is a do-it without any fault, and this holds of it
pub record OfDoIt (text : Text) (P : SpannedSequence → Type 0) : Type 0 where
  pub tree : SpannedSequence
  pub spells : SpellsDoItAt Second text tree
  pub holds : P tree

-- the bytes of a span
abbrev pub piece : Text → Span → Text
piece text span = take (span.to - span.from) (drop span.from text)
