-- What is told of the nodes of a sequence.
use Rattle.std.specs.Prelude.{◌≡◌, ℕ, List, [], map, Option, Some, None, option_map}
use Rattle.std.specs.Option.{option_or}
use Rattle.rb_base.specs.declared.text.Span.{Span}
use Rattle.st_tree.specs.declared.path.Part.{Part}
use Rattle.st_tree.specs.declared.path.Part.TheVariants as part
use Rattle.grammar_model.specs.Spanned.{SpannedSequence}
use Rattle.grammar_model.specs.Spans as spans
use Rattle.grammar_model.specs.Spans.{span_at, IsRunAt}
use Rattle.event_spans.specs.declared.place.Place.{Place}
use Rattle.event_spans.specs.declared.runs.Run.{Run}
use Rattle.event_spans.specs.declared.search.NodeSpan.{NodeSpan}
use Rattle.event_spans.specs.Runs.{roots, run_of}
use Rattle.event_spans.specs.Walk.{walked, node_found, run_found}
use Rattle.event_spans.specs.Nodes.{Reached, nodes}

-- a span as the program holds it
abbrev pub to_span : spans.Span → Span
to_span x = record { from = x.from; to = x.to }

-- a span of the program
abbrev pub of_span : Span → spans.Span
of_span x = record { from = x.from; to = x.to }

-- the path and the span of each node, in preorder
abbrev pub sequence_spans : SpannedSequence → List NodeSpan
sequence_spans s = map (λ (r : Reached). record { path = r.0; span = to_span (spans.span_of r.1) }) (nodes s)

-- no node has the span
abbrev pub HasNoNode : SpannedSequence → spans.Span → Type 0
HasNoNode s span = (path : List ℕ) → ¬ (span_at s path ≡ Some span)

-- no two or more neighbouring statements have the span
abbrev pub HasNoRun : SpannedSequence → spans.Span → Type 0
HasNoRun s span = (path : List ℕ) (first count : ℕ) → ¬ IsRunAt s path first count span

-- the part with the span: a node, or where none has it neighbouring statements, or where none have it none
abbrev pub HasPart : SpannedSequence → spans.Span → Option Part → Type 0
HasPart s span (Some (part.Expression path)) = span_at s path ≡ Some span
HasPart s span (Some (part.Run path first count)) = HasNoNode s span × IsRunAt s path first count span
HasPart s span None = HasNoNode s span × HasNoRun s span

-- neighbouring statements of the sequence where a path leads
abbrev pub run_part : List ℕ → Run → Part
run_part path r = part.Run path r.first r.count

-- how the part is found: a node before statements, and the outermost statements first
abbrev pub part_found : Span → List Place → Option Part
part_found span ps = option_or (option_map part.Expression (node_found span (walked [] ps))) (option_or (option_map (run_part []) (run_of 0 span (roots 0 ps))) (run_found span (walked [] ps)))
