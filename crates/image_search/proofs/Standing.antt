-- Nodes that are found in the list of the nodes of a source stand in the source.
use Rattle.std.proofs.Common.{◌≡◌, ℕ, zero, suc, ◌+◌, ◌<◌, List, [], ◌∷◌, ◌++◌, length, get_or, slice_get, option_map, Some, sym, ap, subst, ◌∙◌, arith}
use Rattle.std.specs.List.{AllByRecursion}
use Rattle.tree_model.specs.Tree.{SequenceOf}
use Rattle.grammar_model.specs.Spanned.{SpannedSequence}
use Rattle.grammar_model.specs.Spans.{Span, span_at}
use Rattle.event_spans.specs.declared.search.NodeSpan.{NodeSpan}
use Rattle.event_spans.specs.Answers.{to_span, of_span, sequence_spans}
use Rattle.st_spans.specs.Trees.{OfMethod, OfDoIt}
use Rattle.query_model.specs.Lines.{node_line}
use Rattle.pattern_model.specs.Patterns.{PatternOf}
use Rattle.pattern_model.specs.Search.{all_matches}
use Rattle.pattern_match.specs.Words.{number_words}
use Rattle.image_queries.specs.Parts.{AreTexts}
use Rattle.image_queries.proofs.Places.{spans_stand}
use Rattle.image_queries.proofs.Texts.{item_at}
use Rattle.image_search.specs.Parts.{StandsAmong, StandsInMethodText, StandsInDoItText, IsNodeLine, AreNodeLines}

-- what holds of all items holds of the one at a place
all-at : {X : Type 0} (P : X → Type 0) (xs : List X) → AllByRecursion P xs → (k : ℕ) (x : X) → slice_get xs k ≡ Some x → P x
all-at P [] all k x e = absurd (cc)
all-at P (y ∷ ys) all zero x e = let same : y ≡ x = cc in subst P same all.0
all-at P (y ∷ ys) all (suc k) x e = all-at P ys all.1 k x e

-- the node of a number has the path
pub has_path : (nodes : List NodeSpan) (k : ℕ) (e : NodeSpan) (path : List ℕ) → k < length nodes → e ≡ get_or nodes k e → e.path ≡ path
    → option_map (λ (x : NodeSpan). x.path) (slice_get nodes k) ≡ Some path
has_path nodes k e path within is same = ap (option_map (λ (x : NodeSpan). x.path)) (item_at nodes k e within is) ∙ ap Some same

-- the line of the node of a number is that of the path
pub line_told : (owner : List ℕ) (nodes : List NodeSpan) (k : ℕ) (e : NodeSpan) (path line : List ℕ) → k < length nodes → e ≡ get_or nodes k e
    → option_map (λ (x : NodeSpan). x.path) (slice_get nodes k) ≡ Some path → line ≡ node_line owner (of_span (get_or nodes k e).span) → IsNodeLine owner (StandsAmong nodes) path line
line_told owner nodes k e path line within is has told =
    let there : slice_get nodes k ≡ Some e = item_at nodes k e within is in
    let some : Some e.path ≡ Some path = sym (ap (option_map (λ (x : NodeSpan). x.path)) there) ∙ has in
    let same : e.path ≡ path = cc in
    (of_span e.span, (k, there ∙ ap (λ (p : List ℕ). let x : NodeSpan = record { path = p; span = e.span } in Some x) same), told ∙ ap (λ (x : NodeSpan). node_line owner (of_span x.span)) (sym is))

-- what stands in one way stands in another way
pub lines_stand : (owner : List ℕ) (P Q : List ℕ → Span → Type 0) → ((path : List ℕ) (span : Span) → P path span → Q path span)
    → (n : ℕ) (paths : List (List ℕ)) (text : List ℕ) → AreTexts (λ (m : ℕ) (path line : List ℕ). IsNodeLine owner P path line) n paths text
    → AreTexts (λ (m : ℕ) (path line : List ℕ). IsNodeLine owner Q path line) n paths text
lines_stand owner P Q h n [] text e = e
lines_stand owner P Q h n (path ∷ paths) text (head, rest, (span, stands, told), others, e) =
    (head, rest, (span, h path span stands, told), lines_stand owner P Q h (n + 1) paths rest others, e)

-- a span in the list of the nodes of a sequence stands there
among_stands : (s : SpannedSequence) (nodes : List NodeSpan) → nodes ≡ sequence_spans s → (path : List ℕ) (span : Span) → StandsAmong nodes path span → span_at s path ≡ Some span
among_stands s nodes is path span (k, there) =
    all-at (λ (e : NodeSpan). span_at s e.path ≡ Some (of_span e.span)) (sequence_spans s) (spans_stand s) k (record { path = path; span = to_span span })
    (ap (λ (es : List NodeSpan). slice_get es k) (sym is) ∙ there)

-- the lines of the nodes of a user's method
pub method_stand : (owner source : List ℕ) (nodes : List NodeSpan) (paths : List (List ℕ)) (text : List ℕ) → OfMethod source (λ s. nodes ≡ sequence_spans s)
    → AreNodeLines owner (StandsAmong nodes) paths text → AreNodeLines owner (StandsInMethodText source) paths text
method_stand owner source nodes paths text found lines =
    lines_stand owner (StandsAmong nodes) (StandsInMethodText source)
    (λ path span among. record { tree = found.tree; spells = found.spells; holds = among_stands found.tree.body nodes found.holds path span among }) 0 paths text lines

-- the lines of the nodes of a do-it
pub doit_stand : (owner source : List ℕ) (nodes : List NodeSpan) (paths : List (List ℕ)) (text : List ℕ) → OfDoIt source (λ s. nodes ≡ sequence_spans s)
    → AreNodeLines owner (StandsAmong nodes) paths text → AreNodeLines owner (StandsInDoItText source) paths text
doit_stand owner source nodes paths text found lines =
    lines_stand owner (StandsAmong nodes) (StandsInDoItText source)
    (λ path span among. record { tree = found.tree; spells = found.spells; holds = among_stands found.tree nodes found.holds path span among }) 0 paths text lines

-- the same lines, owner, nodes and paths
pub lines_same : (owner owner' : List ℕ) (nodes nodes' : List NodeSpan) (paths paths' : List (List ℕ)) (text : List ℕ) → owner ≡ owner' → nodes ≡ nodes' → paths ≡ paths'
    → AreNodeLines owner (StandsAmong nodes) paths text → AreNodeLines owner' (StandsAmong nodes') paths' text
lines_same owner owner' nodes nodes' paths paths' text p q r lines =
    subst (λ (t : List ℕ). AreNodeLines t (StandsAmong nodes') paths' text) p
    (subst (λ (es : List NodeSpan). AreNodeLines owner (StandsAmong es) paths' text) q
    (subst (λ (ps : List (List ℕ)). AreNodeLines owner (StandsAmong nodes) ps text) r lines))

-- what a search has put into an empty list are the paths of all matches
pub paths_found : (p : PatternOf ℕ) (b : SequenceOf ℕ) (paths new old told names : List (List ℕ)) → paths ≡ new → new ≡ old ++ all_matches (number_words told) p b → old ≡ [] → told ≡ names
    → paths ≡ all_matches (number_words names) p b
paths_found p b paths new old told names e f g h =
    e ∙ f ∙ ap (λ (ps : List (List ℕ)). ps ++ all_matches (number_words told) p b) g ∙ ap (λ (ns : List (List ℕ)). all_matches (number_words ns) p b) h

-- where no path is found there are no lines
pub no_paths_told : (owner : List ℕ) (P : List ℕ → Span → Type 0) (paths found : List (List ℕ)) (text : List ℕ) → paths ≡ found → length paths ≡ 0 → text ≡ [] → AreNodeLines owner P found text
no_paths_told owner P paths found text same none e = subst (λ (ps : List (List ℕ)). AreNodeLines owner P ps text) same (by paths none)
  where
    by : (ps : List (List ℕ)) → length ps ≡ 0 → AreNodeLines owner P ps text
    by [] z = e
    by (q ∷ qs) z = absurd (omega arith)
