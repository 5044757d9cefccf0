-- Which part of a method stands at a place of its source.
use Rattle.std.specs.Prelude.{◌≡◌, ℕ, List, false, Option, Some, None}
use Rattle.token_model.specs.declared.kind.Dialect.TheVariants.{Second}
use Rattle.grammar_model.specs.Spanned.{SpannedSequence, SpannedMethod}
use Rattle.grammar_model.specs.Spans.{Span, span_at, IsRunAt}
use Rattle.grammar_model.specs.Spelling.{SpellsMethodAt}
use Rattle.command_model.specs.Parts.{Part, Expression, Run}

-- what gives the part of a method from one place of its source up to another
abbrev pub Locating : Type 0
Locating = List ℕ → ℕ → ℕ → Option Part

-- no node has the span
abbrev pub HasNoNode : SpannedSequence → Span → Type 0
HasNoNode s span = (path : List ℕ) → ¬ (span_at s path ≡ Some span)

-- the part with the span: a node, or where none has it two or more neighbouring statements, or where none have it none
abbrev pub HasPart : SpannedSequence → Span → Option Part → Type 0
HasPart s span (Some (Expression path)) = span_at s path ≡ Some span
HasPart s span (Some (Run path first count)) = HasNoNode s span × IsRunAt s path first count span
HasPart s span None = HasNoNode s span × ((path : List ℕ) (first count : ℕ) → ¬ IsRunAt s path first count span)

-- each part is given that stands in a source which spells a method, by the places of its tree
abbrev pub IsLocating : Locating → Type 0
IsLocating part_of =
    (source : List ℕ) (m : SpannedMethod) (from to : ℕ) → SpellsMethodAt Second false source m → HasPart m.body (record { from = from; to = to }) (part_of source from to)
