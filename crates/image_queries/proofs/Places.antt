-- The spans of a sequence with places: their paths are those of the nodes of the tree that a text spells, in order, and each stands where it says.
use Rattle.std.proofs.Common.{◌≡◌, ℕ, List, [], ◌∷◌, map, Some, refl, sym, ap, subst, ◌∙◌}
use Rattle.std.specs.Prelude.{Contains, option_map}
use Rattle.std.specs.List.{AllByRecursion}
use Rattle.tree_model.specs.Tree.{Notes, StatementsOf, no_statements, more_statements, MethodOf}
use Rattle.tree_model.specs.Nodes.{Placed, statements_nodes, nodes}
use Rattle.tree_model.specs.Normal.{without_leading_of, normal_by}
use Rattle.grammar_model.specs.Terminal.{Text}
use Rattle.grammar_model.specs.Spanned.{SpannedSequence, SpannedMethod, names_of, plain_sequence, plain_method}
use Rattle.grammar_model.specs.Spans.{span_of, spanned_statements, span_at}
use Rattle.event_spans.specs.declared.search.NodeSpan.{NodeSpan}
use Rattle.event_spans.specs.Nodes as spanned
use Rattle.event_spans.specs.Nodes.{Reached}
use Rattle.event_spans.specs.Answers.{to_span, of_span, sequence_spans}
use Rattle.event_spans.proofs.Children.{statements_nodes-trees}
use Rattle.event_spans.proofs.InOrder.{paths_statements}
use Rattle.event_spans.proofs.Members.{leads_among}
use Rattle.image_model.proofs.Lists.{all-map}
use Rattle.image_queries.proofs.Lists.{all-contained}

-- the paths of spans, and of nodes
abbrev pub span_paths : List NodeSpan → List (List ℕ)
span_paths es = map (λ (e : NodeSpan). e.path) es

abbrev pub node_paths : {N : Type 0} → List (Placed N) → List (List ℕ)
node_paths es = map (λ (e : Placed _). e.0) es

-- the path and the span of a node
abbrev told : Reached → NodeSpan
told r = record { path = r.0; span = to_span (span_of r.1) }

-- its path
paths_told : (rs : List Reached) → span_paths (map told rs) ≡ map (λ (r : Reached). r.0) rs
paths_told [] = refl
paths_told (r ∷ rs) = ap (λ (ps : List (List ℕ)). r.0 ∷ ps) (paths_told rs)

-- the paths of a sequence
pub sequence_paths : (s : SpannedSequence) → span_paths (sequence_spans s) ≡ node_paths (nodes (plain_sequence s))
sequence_paths s = paths_told (spanned.nodes s) ∙ paths_statements s.statements [] 0

-- where the first comments stand changes no node
without_nodes : (ts : List Text) (ss : StatementsOf Text) (tail : Notes) → nodes (without_leading_of ts ss tail) ≡ statements_nodes 0 ss
without_nodes ts no_statements tail = refl
without_nodes ts (more_statements c t ss) tail = refl

normal_nodes : (ts : List Text) (m : MethodOf Text) → nodes (normal_by ts m).body ≡ nodes m.body
normal_nodes [] m = without_nodes m.body.temporaries m.body.statements m.body.tail
normal_nodes (n ∷ ns) m = refl

-- the paths of a method
pub method_paths : (m : SpannedMethod) → span_paths (sequence_spans m.body) ≡ node_paths (nodes (plain_method m).body)
method_paths m =
    sequence_paths m.body
    ∙ sym (ap (node_paths {N = Text}) (normal_nodes (names_of m.body.temporaries) (record { selector = m.selector; arguments = names_of m.arguments; head = m.opening; primitive = m.primitive; body = plain_sequence m.body })))

-- a path leads to each node
leads : (s : SpannedSequence) (r : Reached) → Contains (spanned.nodes s) r → span_at s (told r).path ≡ Some (of_span (told r).span)
leads s r h =
    ap (option_map span_of)
    (leads_among (spanned_statements s.statements) r.0 r.1
    (subst (λ (rs : List Reached). Contains rs r) (statements_nodes-trees [] 0 s.statements) h))

-- each span stands where it says
pub spans_stand : (s : SpannedSequence) → AllByRecursion (λ (e : NodeSpan). span_at s e.path ≡ Some (of_span e.span)) (sequence_spans s)
spans_stand s = all-map (λ (e : NodeSpan). span_at s e.path ≡ Some (of_span e.span)) told (spanned.nodes s) (all-contained (λ (r : Reached). span_at s (told r).path ≡ Some (of_span (told r).span)) (spanned.nodes s) (leads s))
