-- The lines of the nodes that a pattern matches in single methods and do-its.
use Rattle.std.specs.Prelude.{◌≡◌, ℕ, ◌+◌, List, [], ◌++◌, codes, true, false, Some, slice_get}
use Rattle.std.specs.Option.{ForSome}
use Rattle.std.specs.Fmt.{decimal}
use Rattle.grammar_model.specs.Spans.{Span, span_at}
use Rattle.event_spans.specs.declared.search.NodeSpan.{NodeSpan}
use Rattle.event_spans.specs.Answers.{to_span}
use Rattle.st_spans.specs.Trees.{OfMethod, OfDoIt}
use Rattle.st_tree.specs.View.{sequence_of}
use Rattle.class_table.specs.declared.record.MethodRec.{MethodRec}
use Rattle.class_table.specs.declared.record.DoIt.{DoIt}
use Rattle.class_table.specs.Slots.{Slots}
use Rattle.class_table.specs.View.{live_at}
use Rattle.query_model.specs.Lines.{node_line}
use Rattle.pattern_model.specs.Patterns.{PatternOf}
use Rattle.pattern_model.specs.Search.{all_matches}
use Rattle.pattern_match.specs.Words.{number_words}
use Rattle.image_queries.specs.Parts.{title_of, AreTexts}

-- a node of the list has the path and the span
abbrev pub StandsAmong : List NodeSpan → List ℕ → Span → Type 0
StandsAmong nodes path span = (k : ℕ) × (slice_get nodes k ≡ Some (record { path = path; span = to_span span }))

-- the node of a user's method stands there in the source
abbrev pub StandsInMethodText : List ℕ → List ℕ → Span → Type 0
StandsInMethodText source path span = OfMethod source (λ s. span_at s path ≡ Some span)

-- the node of a do-it stands there in the source
abbrev pub StandsInDoItText : List ℕ → List ℕ → Span → Type 0
StandsInDoItText source path span = OfDoIt source (λ s. span_at s path ≡ Some span)

-- the line of the node where a path leads, which stands where the line says
abbrev pub IsNodeLine : List ℕ → (List ℕ → Span → Type 0) → List ℕ → List ℕ → Type 0
IsNodeLine owner stands path line = (span : Span) × stands path span × (line ≡ node_line owner span)

-- the lines of the nodes where paths lead, in the order of the paths
abbrev pub AreNodeLines : List ℕ → (List ℕ → Span → Type 0) → List (List ℕ) → List ℕ → Type 0
AreNodeLines owner stands paths text = AreTexts (λ place path line. IsNodeLine owner stands path line) 0 paths text

-- the lines of the nodes of a method that a pattern matches; the kernel's have none
pub record IsMethodText (s : Slots) (p : PatternOf ℕ) (text : List ℕ) (m : MethodRec) : Type 0 where
  pub kernel : m.kernel ≡ true → text ≡ []
  pub user : m.kernel ≡ false
      → AreNodeLines (title_of s.names s.classes m.class m.meta m.tree.selector) (StandsInMethodText m.source) (all_matches (number_words s.names) p (sequence_of m.tree.body)) text

-- the same of the method in a slot
abbrev pub IsSlotText : Slots → PatternOf ℕ → ℕ → List ℕ → Type 0
IsSlotText s p slot text = ForSome (live_at s.methods s.method_order slot) (IsMethodText s p text)

-- the same of the do-it of a number
abbrev pub IsDoItText : Slots → PatternOf ℕ → ℕ → DoIt → List ℕ → Type 0
IsDoItText s p number d text =
    AreNodeLines (codes "doit " ++ decimal (number + 1)) (StandsInDoItText d.source) (all_matches (number_words s.names) p (sequence_of d.body)) text
