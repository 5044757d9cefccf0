-- What is found through the places of nodes is what the tree says.
use Rattle.std.proofs.Common.{◌≡◌, ℕ, List, [], ◌∷◌, map, Option, Some, None, refl, ap, sym, ◌∙◌}
use Rattle.std.specs.Prelude.{option_map}
use Rattle.rb_base.specs.declared.text.Span.{Span}
use Rattle.grammar_model.specs.Spanned.{SpannedSequence}
use Rattle.grammar_model.specs.Spans.{span_of, spanned_statements, span_at}
use Rattle.event_spans.specs.declared.place.Place.{Place}
use Rattle.event_spans.specs.declared.search.NodeSpan.{NodeSpan}
use Rattle.event_spans.specs.Preorder.{sequence_places}
use Rattle.event_spans.specs.Nodes.{Reached, trees_nodes}
use Rattle.event_spans.specs.Descent.{descend}
use Rattle.event_spans.specs.Walk.{walked, listed}
use Rattle.event_spans.specs.Answers.{to_span, sequence_spans}
use Rattle.event_spans.proofs.Children.{statements_places-trees, statements_nodes-trees}
use Rattle.event_spans.proofs.Descended.{stands, descend-among}
use Rattle.event_spans.proofs.Walked.{visit_of, walked-nodes}

-- the span of a node as the program holds it
abbrev pub place_span : Place → Span
place_span p = record { from = p.from; to = p.to }

-- in two steps
in_two : (o : Option Place) → option_map place_span o ≡ option_map to_span (option_map stands o)
in_two None = refl
in_two (Some p) = refl

-- the span of the node where a path leads
pub span_told : (s : SpannedSequence) (ps : List Place) (path : List ℕ) → ps ≡ sequence_places s → option_map place_span (descend None ps path) ≡ option_map to_span (span_at s path)
span_told s ps path e =
    ap (λ (qs : List Place). option_map place_span (descend None qs path)) (e ∙ statements_places-trees 0 s.statements)
    ∙ in_two (descend None _ path)
    ∙ ap (option_map to_span) (descend-among (spanned_statements s.statements) path)

-- the span of a node with its path
abbrev told : Reached → NodeSpan
told r = record { path = r.0; span = to_span (span_of r.1) }

-- the spans of the nodes that are walked by
listed-map : (rs : List Reached) → listed (map visit_of rs) ≡ map told rs
listed-map [] = refl
listed-map (r ∷ rs) = ap (λ (es : List NodeSpan). told r ∷ es) (listed-map rs)

-- the spans of all nodes
pub spans_told : (s : SpannedSequence) (ps : List Place) → ps ≡ sequence_places s → listed (walked [] ps) ≡ sequence_spans s
spans_told s ps e =
    ap (λ (qs : List Place). listed (walked [] qs)) (e ∙ statements_places-trees 0 s.statements)
    ∙ ap listed (walked-nodes (spanned_statements s.statements))
    ∙ listed-map (trees_nodes [] 0 (spanned_statements s.statements))
    ∙ ap (map told) (sym (statements_nodes-trees [] 0 s.statements))
