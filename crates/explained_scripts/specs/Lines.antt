-- The lines of an explanation.
use Rattle.std.specs.Prelude.{◌≡◌, ℕ, not, false, List, [], ◌∷◌, ◌++◌, filter, codes, if◌then◌else◌}
use Rattle.std.specs.List.{enumerate_from}
use Rattle.rb_base.specs.Names.{name_at}
use Rattle.image_model.specs.Image.{EntryOf}
use Rattle.query_model.specs.Lines.{Text, method_title, node_line}
use Rattle.script_model.specs.Lines.{is_skipped}
use Rattle.event_spans.specs.Answers.{of_span}
use Rattle.event_spans.specs.declared.search.NodeSpan.{NodeSpan}
use Rattle.commands.specs.declared.command.MethodName.{MethodName}
use Rattle.why_model.specs.Explained.{reaches_round}
use Rattle.explained_scripts.specs.declared.lines.NumberedLine.{NumberedLine}

-- those of some lines that say something, with their numbers from this one on
abbrev pub said_from : ℕ → List Text → List (ℕ × Text)
said_from n ls = filter (λ e. not (is_skipped e.1)) (enumerate_from n ls)

-- a line with its number
abbrev pub line_shown : NumberedLine → ℕ × Text
line_shown l = (l.number, l.text.now)

-- the title of a method by its names
abbrev pub title_named : List Text → MethodName → Text
title_named names m = name_at names m.class ++ (if m.meta then codes " class>>" else codes ">>") ++ name_at names m.selector

-- the method is one of the user, with this title and this source
pub record IsTitled (m : EntryOf Text) (title source : Text) : Type 0 where
  pub users : m.kernel ≡ false
  pub title_is : method_title m ≡ title
  pub source_is : m.source ≡ source

-- the lines of those nodes that stand round two offsets, each after a title
abbrev pub round_texts : Text → (from to : ℕ) → List NodeSpan → List Text
round_texts title from to [] = []
round_texts title from to (e ∷ es) =
    (if reaches_round from to (of_span e.span) then node_line title (of_span e.span) ∷ [] else []) ++ round_texts title from to es
