-- In a text neighbouring statements have a place of their own.
use Rattle.std.proofs.Common.{◌≡◌, ℕ, Bool, List, Some, sym, ap}
use Rattle.token_model.specs.declared.kind.Dialect.{Dialect}
use Rattle.grammar_model.specs.Terminal.{Text}
use Rattle.grammar_model.specs.Input.{Input, beginning}
use Rattle.grammar_model.specs.Spanned.{SpannedSequence, SpannedMethod}
use Rattle.grammar_model.specs.Spans.{spanned_statements, Span, span_at, IsRunAt}
use Rattle.grammar_model.specs.Spelling.{SpellsDoItAt, SpellsMethodAt}
use Rattle.grammar_model.proofs.Placing.{TreesStand}
use Rattle.grammar_model.proofs.Places.{at_node, trees_of_DoIt, trees_of_Method}
use Rattle.grammar_model.proofs.Runs.{RunIn, run_or_node, one_run_among}

-- a run of a sequence as one in the list of its nodes
run_in : (s : SpannedSequence) (path : List ℕ) (first count : ℕ) (span : Span) → IsRunAt s path first count span → RunIn (spanned_statements s.statements) path first count span.from span.to
run_in s path first count span r = record { nodes = r.statements; head = r.head; last = r.last; many = r.many; of_path = r.of_path; at_first = r.at_first; at_last = r.at_last; from_is = sym (ap (λ (s : Span). s.from) r.is); to_is = sym (ap (λ (s : Span). s.to) r.is) }

-- a run is no node
run_no_node : (i j : Input) (s : SpannedSequence) (p path : List ℕ) (first count : ℕ) (span : Span) → TreesStand i (spanned_statements s.statements) j → IsRunAt s p first count span → span_at s path ≡ Some span → ⊥
run_no_node i j s p path first count span t r e =
    let a = at_node (spanned_statements s.statements) path span e in
    run_or_node (spanned_statements s.statements) i.last j.last p path first count span.from span.to a.node t.between t.placed (run_in s p first count span r) a.leads (ap (λ (s : Span). s.from) a.is) (ap (λ (s : Span). s.to) a.is)

-- two runs at one place are one
runs_same : (i j : Input) (s : SpannedSequence) (p q : List ℕ) (first second count other : ℕ) (span : Span) → TreesStand i (spanned_statements s.statements) j → IsRunAt s p first count span → IsRunAt s q second other span → (p ≡ q) × (first ≡ second) × (count ≡ other)
runs_same i j s p q first second count other span t r u =
    let same = one_run_among (spanned_statements s.statements) i.last j.last p q first second count other span.from span.to t.between t.placed (run_in s p first count span r) (run_in s q second other span u) in
    (same.path, same.begins, same.counts)

-- in a do-it
pub run_no_node_DoIt : (d : Dialect) (t : Text) (s : SpannedSequence) (p path : List ℕ) (first count : ℕ) (span : Span) → SpellsDoItAt d t s → IsRunAt s p first count span → ¬ (span_at s path ≡ Some span)
run_no_node_DoIt d t s p path first count span h r e = run_no_node (beginning h.tokens) h.grammar.stop s p path first count span (trees_of_DoIt d t s h) r e

-- in a method
pub run_no_node_Method : (d : Dialect) (kernel : Bool) (t : Text) (m : SpannedMethod) (p path : List ℕ) (first count : ℕ) (span : Span) → SpellsMethodAt d kernel t m → IsRunAt m.body p first count span → ¬ (span_at m.body path ≡ Some span)
run_no_node_Method d kernel t m p path first count span h r e = run_no_node h.grammar.begin h.grammar.stop m.body p path first count span (trees_of_Method d kernel t m h) r e

-- in a do-it
pub runs_same_DoIt : (d : Dialect) (t : Text) (s : SpannedSequence) (p q : List ℕ) (first second count other : ℕ) (span : Span) → SpellsDoItAt d t s → IsRunAt s p first count span → IsRunAt s q second other span → (p ≡ q) × (first ≡ second) × (count ≡ other)
runs_same_DoIt d t s p q first second count other span h r u = runs_same (beginning h.tokens) h.grammar.stop s p q first second count other span (trees_of_DoIt d t s h) r u

-- in a method
pub runs_same_Method : (d : Dialect) (kernel : Bool) (t : Text) (m : SpannedMethod) (p q : List ℕ) (first second count other : ℕ) (span : Span) → SpellsMethodAt d kernel t m → IsRunAt m.body p first count span → IsRunAt m.body q second other span → (p ≡ q) × (first ≡ second) × (count ≡ other)
runs_same_Method d kernel t m p q first second count other span h r u = runs_same h.grammar.begin h.grammar.stop m.body p q first second count other span (trees_of_Method d kernel t m h) r u
