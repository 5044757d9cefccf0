-- The spans of a sequence are those of its nodes, in order.
use Rattle.std.proofs.Common.{◌≡◌, ℕ, inl, inr, arith, List, [], ◌∷◌, map, Option, Some, None, refl, ap, sym, subst, ◌∙◌}
use Rattle.std.specs.Prelude.{Contains, option_map}
use Rattle.grammar_model.specs.Spanned.{SpannedTree, SpannedSequence}
use Rattle.grammar_model.specs.Spans.{Span, span_of, spanned_statements, spanned_among, span_at}
use Rattle.event_spans.specs.declared.search.NodeSpan.{NodeSpan}
use Rattle.event_spans.specs.Nodes.{Reached, nodes}
use Rattle.event_spans.specs.Answers.{to_span, sequence_spans}
use Rattle.event_spans.proofs.Children.{statements_nodes-trees}
use Rattle.event_spans.proofs.InOrder.{paths_statements}
use Rattle.event_spans.proofs.Members.{Contains-here, Contains-there, Contains-cons_cases, leads_among, member_among}
use Rattle.event_spans.proofs.laws.law_spans.Goals as goal

-- the span of a node with its path
abbrev told : Reached → NodeSpan
told r = record { path = r.0; span = to_span (span_of r.1) }

-- a node is told
Contains-told : (rs : List Reached) (r : Reached) → Contains rs r → Contains (map told rs) (told r)
Contains-told [] r (k, lt, e) = absurd (omega arith)
Contains-told (x ∷ xs) r h = elim (Contains-cons_cases x xs r h) [
  | inl e ↦ subst (λ (y : Reached). Contains (map told (x ∷ xs)) (told y)) e (Contains-here (told x) (map told xs))
  | inr g ↦ Contains-there (told x) (map told xs) (told r) (Contains-told xs r g)
]

-- what is told is a node
Contains-node : (rs : List Reached) (v : NodeSpan) → Contains (map told rs) v → (r : Reached) × Contains rs r × (told r ≡ v)
Contains-node [] v (k, lt, e) = absurd (omega arith)
Contains-node (x ∷ xs) v h = elim (Contains-cons_cases (told x) (map told xs) v h) [
  | inl e ↦ (x, Contains-here x xs, e)
  | inr g ↦ let w = Contains-node xs v g in (w.0, Contains-there x xs w.0 w.1, w.2)
]

-- a path leads to what is told
leads_to : (s : SpannedSequence) (path : List ℕ) (span : Span) → Contains (sequence_spans s) (record { path = path; span = to_span span }) → span_at s path ≡ Some span
leads_to s path span h =
    let w = Contains-node (nodes s) (record { path = path; span = to_span span }) h in
    let leads = leads_among (spanned_statements s.statements) w.0.0 w.0.1 (subst (λ (rs : List Reached). Contains rs w.0) (statements_nodes-trees [] 0 s.statements) w.1) in
    let same : w.0.0 ≡ path = ap (λ (e : NodeSpan). e.path) w.2 in
    ap (λ (p : List ℕ). option_map span_of (spanned_among (spanned_statements s.statements) p)) (sym same)
    ∙ ap (option_map span_of) leads
    ∙ ap Some (λ i. record { from = (w.2 i).span.from; to = (w.2 i).span.to })

-- where a path leads is told
leads_from : (s : SpannedSequence) (path : List ℕ) (span : Span) → span_at s path ≡ Some span → Contains (sequence_spans s) (record { path = path; span = to_span span })
leads_from s path span e = go (spanned_among (spanned_statements s.statements) path) refl e
  where
    go : (o : Option SpannedTree) → spanned_among (spanned_statements s.statements) path ≡ o → option_map span_of o ≡ Some span → Contains (sequence_spans s) (record { path = path; span = to_span span })
    go None is found = cc
    go (Some t) is found =
        let same : span_of t ≡ span = cc in
        subst (λ (x : Span). Contains (sequence_spans s) (record { path = path; span = to_span x })) same
        (Contains-told (nodes s) (path, t) (subst (λ (rs : List Reached). Contains rs (path, t)) (sym (statements_nodes-trees [] 0 s.statements)) (member_among (spanned_statements s.statements) path t is)))

-- the paths of what is told
paths_told : (rs : List Reached) → map (λ (e : NodeSpan). e.path) (map told rs) ≡ map (λ (r : Reached). r.0) rs
paths_told [] = refl
paths_told (r ∷ rs) = ap (λ (ps : List (List ℕ)). r.0 ∷ ps) (paths_told rs)

pub returns-clause-members : goal.returns-clause-members
returns-clause-members c = λ s path span. (λ h. leads_to s path span h, λ e. leads_from s path span e)

pub returns-clause-order : goal.returns-clause-order
returns-clause-order c = λ s. paths_told (nodes s) ∙ paths_statements s.statements [] 0
