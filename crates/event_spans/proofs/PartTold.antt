-- The part that is found stands where it is to stand, and where none is found none stands there.
use Rattle.std.proofs.Common.{◌≡◌, ℕ, ◌+◌, ◌-◌, inl, inr, arith, Bool, true, false, List, [], ◌∷◌, length, map, Option, Some, None, option_and_then, refl, ap, sym, subst, ◌∙◌}
use Rattle.std.specs.Prelude.{if◌then◌else◌, option_map, Contains}
use Rattle.std.specs.Option.{option_or}
use Rattle.std.proofs.lemmas.Bool.Decides.{nat_tests}
use Rattle.rb_base.specs.declared.text.Span.{Span}
use Rattle.st_tree.specs.declared.path.Part.{Part}
use Rattle.st_tree.specs.declared.path.Part.TheVariants as part
use Rattle.grammar_model.specs.Spanned.{SpannedTree, Var, Literal, Send, Cascade, Assign, Block, Brace, Return, SpannedTrees, SpannedSequence}
use Rattle.grammar_model.specs.Spans as spans
use Rattle.grammar_model.specs.Spans.{begin_of, end_of, span_of, span_at, spanned_statements, spanned_children, spanned_nth, spanned_among, statements_of, statements_among, IsRunAt}
use Rattle.event_spans.specs.declared.place.Place.{Place}
use Rattle.event_spans.specs.declared.runs.Run.{Run}
use Rattle.event_spans.specs.Preorder.{trees_places, sequence_places}
use Rattle.event_spans.specs.Nodes.{Reached, trees_nodes}
use Rattle.event_spans.specs.Runs.{roots, run_of}
use Rattle.event_spans.specs.Walk.{Visit, walked, is_at, node_found, run_in_block, run_found}
use Rattle.event_spans.specs.Answers.{of_span, HasPart, run_part, part_found}
use Rattle.event_spans.proofs.Children.{is_block, place_of, statements_places-trees}
use Rattle.event_spans.proofs.Members.{Contains-here, Contains-there, Contains-cons_cases, leads_among, member_among}
use Rattle.event_spans.proofs.Walked.{visit_of, walked-nodes}
use Rattle.event_spans.proofs.RunsTold.{Runs, NoRuns, run_stands, no_run_stands}

-- the visit of a node
Contains-visit : (rs : List Reached) (r : Reached) → Contains rs r → Contains (map visit_of rs) (visit_of r)
Contains-visit [] r (k, lt, e) = absurd (omega arith)
Contains-visit (x ∷ xs) r h = elim (Contains-cons_cases x xs r h) [
  | inl e ↦ subst (λ (y : Reached). Contains (map visit_of (x ∷ xs)) (visit_of y)) e (Contains-here (visit_of x) (map visit_of xs))
  | inr g ↦ Contains-there (visit_of x) (map visit_of xs) (visit_of r) (Contains-visit xs r g)
]

-- a node that is visited
record Visited (rs : List Reached) (v : Visit) : Type 0 where
  reached : Reached
  member : Contains rs reached
  is : visit_of reached ≡ v

-- each visit is that of a node
visited : (rs : List Reached) (v : Visit) → Contains (map visit_of rs) v → Visited rs v
visited [] v (k, lt, e) = absurd (omega arith)
visited (x ∷ xs) v h = elim (Contains-cons_cases (visit_of x) (map visit_of xs) v h) [
  | inl e ↦ record { reached = x; member = Contains-here x xs; is = e }
  | inr g ↦ let w = visited xs v g in record { reached = w.reached; member = Contains-there x xs w.reached w.member; is = w.is }
]

-- a node that passes the test stands there
at_true : (span : Span) (p : Place) → is_at span p ≡ true → (p.from ≡ span.from) × (p.to ≡ span.to)
at_true span p e = (grind (arith, nat_tests), grind (arith, nat_tests))

-- a node that does not pass it stands elsewhere
at_false : (span : Span) (p : Place) → is_at span p ≡ false → p.from ≡ span.from → p.to ≡ span.to → ⊥
at_false span p e f g = grind (arith, nat_tests)

-- a visit to a node that stands there
record FoundNode (span : Span) (vs : List Visit) (path : List ℕ) : Type 0 where
  visit : Visit
  member : Contains vs visit
  is : visit.path ≡ path
  from : visit.place.from ≡ span.from
  to : visit.place.to ≡ span.to

-- what is found is a visit
found_node : (span : Span) (vs : List Visit) (path : List ℕ) → node_found span vs ≡ Some path → FoundNode span vs path
found_node span [] path e = cc
found_node span (v ∷ vs) path e = go (is_at span v.place) refl e (found_node span vs path)
  where
    go : (b : Bool) → is_at span v.place ≡ b → (if b then Some v.path else node_found span vs) ≡ Some path → (node_found span vs ≡ Some path → FoundNode span vs path) → FoundNode span (v ∷ vs) path
    go true is found later = let at = at_true span v.place is in record { visit = v; member = Contains-here v vs; is = cc; from = at.0; to = at.1 }
    go false is found later = let w = later found in record { visit = w.visit; member = Contains-there v vs w.visit w.member; is = w.is; from = w.from; to = w.to }

-- no visit is to a node that stands there
abbrev NoVisit : Span → List Visit → Type 0
NoVisit span vs = (v : Visit) → Contains vs v → v.place.from ≡ span.from → v.place.to ≡ span.to → ⊥

-- where nothing is found
no_visit : (span : Span) (vs : List Visit) → node_found span vs ≡ None → NoVisit span vs
no_visit span [] e = λ v h from to. absurd (omega (arith, h.1))
no_visit span (w ∷ vs) e = go (is_at span w.place) refl e (no_visit span vs)
  where
    go : (b : Bool) → is_at span w.place ≡ b → (if b then Some w.path else node_found span vs) ≡ None → (node_found span vs ≡ None → NoVisit span vs) → NoVisit span (w ∷ vs)
    go true is none later v h from to = cc
    go false is none later v h from to = elim (Contains-cons_cases w vs v h) [
      | inl e ↦ at_false span w.place is (ap (λ (x : Visit). x.place.from) e ∙ from) (ap (λ (x : Visit). x.place.to) e ∙ to)
      | inr g ↦ later none v g from to
    ]

-- the path that is found leads to a node with the span
node_stands : (ts : SpannedTrees) (span : Span) (path : List ℕ) → node_found span (map visit_of (trees_nodes [] 0 ts)) ≡ Some path → option_map span_of (spanned_among ts path) ≡ Some (of_span span)
node_stands ts span path e =
    let w = found_node span (map visit_of (trees_nodes [] 0 ts)) path e in
    let r = visited (trees_nodes [] 0 ts) w.visit w.member in
    let leads = leads_among ts r.reached.0 r.reached.1 r.member in
    let same : r.reached.0 ≡ path = ap (λ (v : Visit). v.path) r.is ∙ w.is in
    let from : begin_of r.reached.1 ≡ span.from = ap (λ (v : Visit). v.place.from) r.is ∙ w.from in
    let to : end_of r.reached.1 ≡ span.to = ap (λ (v : Visit). v.place.to) r.is ∙ w.to in
    ap (λ (p : List ℕ). option_map span_of (spanned_among ts p)) (sym same) ∙ ap (option_map span_of) leads ∙ ap Some (λ i. record { from = from i; to = to i })

-- where no path is found none leads to such a node
no_node_stands : (ts : SpannedTrees) (span : Span) → node_found span (map visit_of (trees_nodes [] 0 ts)) ≡ None → (path : List ℕ) → ¬ (option_map span_of (spanned_among ts path) ≡ Some (of_span span))
no_node_stands ts span none path e = go (spanned_among ts path) refl e
  where
    go : (o : Option SpannedTree) → spanned_among ts path ≡ o → option_map span_of o ≡ Some (of_span span) → ⊥
    go None is found = cc
    go (Some t) is found =
        let same : span_of t ≡ of_span span = cc in
        no_visit span (map visit_of (trees_nodes [] 0 ts)) none (visit_of (path, t)) (Contains-visit (trees_nodes [] 0 ts) (path, t) (member_among ts path t is))
        (ap (λ (x : spans.Span). x.from) same) (ap (λ (x : spans.Span). x.to) same)

-- a visit to a block with such statements
record FoundRun (span : Span) (vs : List Visit) (part : Part) : Type 0 where
  visit : Visit
  run : Run
  member : Contains vs visit
  found : run_in_block span visit.place visit.within ≡ Some run
  is : run_part visit.path run ≡ part

-- what is found are statements of a block
found_run : (span : Span) (vs : List Visit) (part : Part) → run_found span vs ≡ Some part → FoundRun span vs part
found_run span [] part e = cc
found_run span (v ∷ vs) part e = go (run_in_block span v.place v.within) refl e (found_run span vs part)
  where
    go : (o : Option Run) → run_in_block span v.place v.within ≡ o → option_or (option_map (run_part v.path) o) (run_found span vs) ≡ Some part → (run_found span vs ≡ Some part → FoundRun span vs part) → FoundRun span (v ∷ vs) part
    go (Some r) is found later = record { visit = v; run = r; member = Contains-here v vs; found = is; is = cc }
    go None is found later = let w = later found in record { visit = w.visit; run = w.run; member = Contains-there v vs w.visit w.member; found = w.found; is = w.is }

-- no visit is to a block with such statements
abbrev NoRunVisit : Span → List Visit → Type 0
NoRunVisit span vs = (v : Visit) → Contains vs v → run_in_block span v.place v.within ≡ None

-- where nothing is found
no_run_visit : (span : Span) (vs : List Visit) → run_found span vs ≡ None → NoRunVisit span vs
no_run_visit span [] e = λ v h. absurd (omega (arith, h.1))
no_run_visit span (w ∷ vs) e = go (run_in_block span w.place w.within) refl e (no_run_visit span vs)
  where
    go : (o : Option Run) → run_in_block span w.place w.within ≡ o → option_or (option_map (run_part w.path) o) (run_found span vs) ≡ None → (run_found span vs ≡ None → NoRunVisit span vs) → NoRunVisit span (w ∷ vs)
    go (Some r) is none later v h = cc
    go None is none later v h = elim (Contains-cons_cases w vs v h) [
      | inl e ↦ ap (λ (x : Visit). run_in_block span x.place x.within) (sym e) ∙ is
      | inr g ↦ later none v g
    ]

-- a block has statements
block_statements : (t : SpannedTree) → is_block t ≡ true → statements_of t ≡ Some (spanned_children t)
block_statements (Block f e ps ds ss c) h = refl
block_statements (Var f e n) h = cc
block_statements (Literal f e l) h = cc
block_statements (Send f e r s xs) h = cc
block_statements (Cascade f e r ms) h = cc
block_statements (Assign f e n t) h = cc
block_statements (Brace f e ts) h = cc
block_statements (Return f e t) h = cc

-- what has statements is a block
statements_block : (t : SpannedTree) (ss : SpannedTrees) → statements_of t ≡ Some ss → (is_block t ≡ true) × (spanned_children t ≡ ss)
statements_block (Block f e ps ds ss c) us h = (refl, cc)
statements_block (Var f e n) us h = cc
statements_block (Literal f e l) us h = cc
statements_block (Send f e r s xs) us h = cc
statements_block (Cascade f e r ms) us h = cc
statements_block (Assign f e n t) us h = cc
statements_block (Brace f e ts) us h = cc
statements_block (Return f e t) us h = cc

-- neighbouring trees of a list that is reached by a path
record Reaches (ts : SpannedTrees) (path : List ℕ) (span : Span) (r : Run) : Type 0 where
  statements : SpannedTrees
  of_path : statements_among ts path ≡ Some statements
  runs : Runs 0 span statements r

-- a path to a block leads to its statements
reaches_block : (ts : SpannedTrees) (path : List ℕ) (t : SpannedTree) → spanned_among ts path ≡ Some t → is_block t ≡ true → statements_among ts path ≡ Some (spanned_children t)
reaches_block ts [] t e h = cc
reaches_block ts (k ∷ ks) t e h = ap (option_and_then statements_of) e ∙ block_statements t h

-- statements of a block are found where they stand
block_runs : (ts : SpannedTrees) (span : Span) (path : List ℕ) (d m : ℕ) (t : SpannedTree) (r : Run) → spanned_among ts path ≡ Some t
    → run_in_block span (place_of d t) (trees_places m (spanned_children t)) ≡ Some r → Reaches ts path span r
block_runs ts span path d m t r leads e = go (is_block t) refl e
  where
    go : (b : Bool) → is_block t ≡ b → (if b then run_of 0 span (roots 0 (trees_places m (spanned_children t))) else None) ≡ Some r → Reaches ts path span r
    go true is found = record { statements = spanned_children t; of_path = reaches_block ts path t leads is; runs = run_stands (spanned_children t) span m r found }
    go false is found = cc

-- what is found stands where it is to stand
found_part : (ts : SpannedTrees) (span : Span) (p : Part) → run_found span (map visit_of (trees_nodes [] 0 ts)) ≡ Some p → (path : List ℕ) × (r : Run) × (run_part path r ≡ p) × Reaches ts path span r
found_part ts span p e =
    let w = found_run span (map visit_of (trees_nodes [] 0 ts)) p e in
    let v = visited (trees_nodes [] 0 ts) w.visit w.member in
    let leads = leads_among ts v.reached.0 v.reached.1 v.member in
    let found = ap (λ (x : Visit). run_in_block span x.place x.within) v.is ∙ w.found in
    (v.reached.0, w.run, ap (λ (x : Visit). run_part x.path w.run) v.is ∙ w.is, block_runs ts span v.reached.0 (length v.reached.0 - 1) (length v.reached.0) v.reached.1 w.run leads found)

-- no statements that a path leads to have such ones
no_part : (ts : SpannedTrees) (span : Span) → run_of 0 span (roots 0 (trees_places 0 ts)) ≡ None → run_found span (map visit_of (trees_nodes [] 0 ts)) ≡ None
    → (path : List ℕ) (ss : SpannedTrees) → statements_among ts path ≡ Some ss → NoRuns span ss
no_part ts span outer inner [] ss e = let same : ts ≡ ss = cc in subst (NoRuns span) same (no_run_stands ts span 0 outer)
no_part ts span outer inner (k ∷ ks) ss e = go (spanned_among ts (k ∷ ks)) refl e
  where
    go : (o : Option SpannedTree) → spanned_among ts (k ∷ ks) ≡ o → option_and_then statements_of o ≡ Some ss → NoRuns span ss
    go None is found = cc
    go (Some t) is found =
        let block = statements_block t ss found in
        let none = no_run_visit span (map visit_of (trees_nodes [] 0 ts)) inner (visit_of (k ∷ ks, t)) (Contains-visit (trees_nodes [] 0 ts) (k ∷ ks, t) (member_among ts (k ∷ ks) t is)) in
        subst (NoRuns span) block.1 (no_run_stands (spanned_children t) span (length (k ∷ ks)) (ap (λ (b : Bool). if b then run_of 0 span (roots 0 (visit_of (k ∷ ks, t)).within) else None) (sym block.0) ∙ none))

-- neighbouring statements of a sequence
is_run : (s : SpannedSequence) (span : Span) (path : List ℕ) (r : Run) → Reaches (spanned_statements s.statements) path span r → IsRunAt s path r.first r.count (of_span span)
is_run s span path r w =
    let number : w.runs.number ≡ r.first = omega (arith, w.runs.counted) in
    record {
      statements = w.statements;
      head = w.runs.head;
      last = w.runs.last;
      many = w.runs.many;
      of_path = w.of_path;
      at_first = subst (λ n. spanned_nth w.statements n ≡ Some w.runs.head) number w.runs.at_first;
      at_last = subst (λ n. spanned_nth w.statements (n + r.count - 1) ≡ Some w.runs.last) number w.runs.at_last;
      is = λ i. record { from = sym w.runs.begins i; to = sym w.runs.ends i };
    }

-- the part that is found, by what is found of nodes, of outermost statements and of those of blocks
told : (s : SpannedSequence) (span : Span) (ps : List Place) → ps ≡ trees_places 0 (spanned_statements s.statements) → walked [] ps ≡ map visit_of (trees_nodes [] 0 (spanned_statements s.statements))
    → (n : Option (List ℕ)) → node_found span (walked [] ps) ≡ n → (o : Option Run) → run_of 0 span (roots 0 ps) ≡ o → (p : Option Part) → run_found span (walked [] ps) ≡ p
    → HasPart s (of_span span) (option_or (option_map part.Expression n) (option_or (option_map (run_part []) o) p))
told s span ps places walk (Some path) en o eo p ep = node_stands (spanned_statements s.statements) span path (ap (node_found span) (sym walk) ∙ en)
told s span ps places walk None en (Some r) eo p ep = (
  no_node_stands (spanned_statements s.statements) span (ap (node_found span) (sym walk) ∙ en),
  is_run s span [] r (record {
    statements = spanned_statements s.statements;
    of_path = refl;
    runs = run_stands (spanned_statements s.statements) span 0 r (ap (λ (qs : List Place). run_of 0 span (roots 0 qs)) (sym places) ∙ eo);
  }),
)
told s span ps places walk None en None eo (Some p) ep =
    let w = found_part (spanned_statements s.statements) span p (ap (run_found span) (sym walk) ∙ ep) in
    subst (λ (q : Part). HasPart s (of_span span) (Some q)) w.2 (
      no_node_stands (spanned_statements s.statements) span (ap (node_found span) (sym walk) ∙ en),
      is_run s span w.0 w.1 w.3,
    )
told s span ps places walk None en None eo None ep = (
  no_node_stands (spanned_statements s.statements) span (ap (node_found span) (sym walk) ∙ en),
  λ path first count (x : IsRunAt s path first count (of_span span)).
      no_part (spanned_statements s.statements) span (ap (λ (qs : List Place). run_of 0 span (roots 0 qs)) (sym places) ∙ eo) (ap (run_found span) (sym walk) ∙ ep)
      path x.statements x.of_path first count x.head x.last x.at_first (sym (ap (λ (y : spans.Span). y.from) x.is)) x.many x.at_last (sym (ap (λ (y : spans.Span). y.to) x.is)),
)

-- the part that is found
pub part_told : (s : SpannedSequence) (span : Span) (ps : List Place) → ps ≡ sequence_places s → HasPart s (of_span span) (part_found span ps)
part_told s span ps e =
    let places : ps ≡ trees_places 0 (spanned_statements s.statements) = e ∙ statements_places-trees 0 s.statements in
    told s span ps places (ap (walked []) places ∙ walked-nodes (spanned_statements s.statements))
    (node_found span (walked [] ps)) refl (run_of 0 span (roots 0 ps)) refl (run_found span (walked [] ps)) refl
