-- Statements in place of one, and the body of a method that stands in place of a message.
use Rattle.std.proofs.Common.{◌≡◌, ℕ, ◌+◌, List, [], ◌∷◌, ◌++◌, Option, Some, None, option_and_then, option_map, refl, sym, ap, subst, ◌∙◌}
use Rattle.std.specs.Prelude.{unwrap_or}
use Rattle.tree_model.specs.Tree.{Notes, TreeOf, var, literal, send, cascade, assign, block, brace, return, StatementsOf, no_statements, more_statements, SequenceOf, MethodOf}
use Rattle.tree_model.specs.Path.{nth, statement_trees, child, part_at}
use Rattle.scope_model.specs.Scope.{entered}
use Rattle.scope_model.specs.FreeNames.{drop_statements}
use Rattle.grammar_model.specs.Checks.{Known}
use Rattle.reread_law.specs.Declarations.{known_names}
use Rattle.file_model.specs.Filing.{Text}
use Rattle.command_model.specs.Inlined.{answered, last_unanswered}
use Rattle.command_model.specs.Sequences.{joined, noted, first_notes, put_for}
use Rattle.reread_law.specs.WellFormed.{IsValue}
use Rattle.code_effect_laws.proofs.Proper.{IsProper, AreProperStatements}
use Rattle.code_effect_laws.proofs.Stands.{value_statement}
use Rattle.code_effect_laws.proofs.Steps.{own_known}
use Rattle.code_effect_laws.proofs.Places.{known_by, known_at, known-step}
use Rattle.code_effect_laws.proofs.Statements.{HaveValues, not_end, drop_proper, taken_proper, values_proper, noted_proper, first_proper, tail_proper}
use Rattle.code_effect_laws.proofs.Methods.{IsProperSequence, known_in, IsSequenceAt, IsBody, IsInBlock}
use Rattle.code_effect_laws.proofs.Inside.{IsOpen, IsInSequence}

-- the sequence in which statements stand in place of one
pub put_for_proper : (ks : List Known) (ps : List Text) (b : SequenceOf Text) (k : ℕ) (c : TreeOf Text) (new : StatementsOf Text) → IsProperSequence ks ps b → nth (statement_trees b.statements) k ≡ Some c
    → AreProperStatements (known_names ps b.temporaries ++ ks) new → HaveValues new → IsProperSequence ks ps (put_for k new b)
put_for_proper ks ps b k c new p there q values =
    let known : List Known = known_names ps b.temporaries ++ ks in
    let old : StatementsOf Text = drop_statements k b.statements in
    let rest : StatementsOf Text = joined new (drop_statements 1 old) in
    let left = drop_proper known k b.statements p.statements in
    let notes = first_proper known old left in
    record {
      words = p.words;
      once = p.once;
      statements =
          taken_proper known k b.statements (noted (first_notes old) rest) p.statements
          (noted_proper known (first_notes old) rest notes (values_proper known new (drop_statements 1 old) q values (drop_proper known 1 old left))) (λ h. absurd (not_end b.statements k c there h));
      notes = tail_proper (first_notes old) rest b.tail notes p.notes;
    }

-- statements with e for a last `^e` have values
pub last_proper : (ks : List Known) (ss : StatementsOf Text) → AreProperStatements ks ss → AreProperStatements ks (last_unanswered ss) × HaveValues (last_unanswered ss)
last_proper ks no_statements p = (tt, tt)
last_proper ks (more_statements c (var n) ss) p = let r = last_proper ks ss p.3 in ((p.0, p.1, p.2, r.0), (p.2, r.1))
last_proper ks (more_statements c (literal l) ss) p = let r = last_proper ks ss p.3 in ((p.0, p.1, tt, r.0), (tt, r.1))
last_proper ks (more_statements c (send q s xs) ss) p = let r = last_proper ks ss p.3 in ((p.0, p.1, tt, r.0), (tt, r.1))
last_proper ks (more_statements c (cascade q ms) ss) p = let r = last_proper ks ss p.3 in ((p.0, p.1, tt, r.0), (tt, r.1))
last_proper ks (more_statements c (assign n t) ss) p = let r = last_proper ks ss p.3 in ((p.0, p.1, tt, r.0), (tt, r.1))
last_proper ks (more_statements c (block ps ts bs e) ss) p = let r = last_proper ks ss p.3 in ((p.0, p.1, tt, r.0), (tt, r.1))
last_proper ks (more_statements c (brace ts) ss) p = let r = last_proper ks ss p.3 in ((p.0, p.1, tt, r.0), (tt, r.1))
last_proper ks (more_statements c (return t) no_statements) p = ((p.0, p.1.0, value_statement t no_statements p.1.1, tt), (p.1.1, tt))
last_proper ks (more_statements c (return t) (more_statements d u ss)) p = absurd p.2

-- what a body of one `^e` answers
pub answered_proper : (ks : List Known) (ss : StatementsOf Text) (t : TreeOf Text) → AreProperStatements ks ss → answered ss ≡ Some t → IsProper ks t × IsValue t
answered_proper ks no_statements t p e = absurd (cc)
answered_proper ks (more_statements c (return u) no_statements) t p e = let same : u ≡ t = cc in subst (λ (x : TreeOf Text). IsProper ks x × IsValue x) same (p.1.0, p.1.1)
answered_proper ks (more_statements c (return u) (more_statements d v ss)) t p e = absurd p.2
answered_proper ks (more_statements c (var n) ss) t p e = absurd (cc)
answered_proper ks (more_statements c (literal l) ss) t p e = absurd (cc)
answered_proper ks (more_statements c (send q s xs) ss) t p e = absurd (cc)
answered_proper ks (more_statements c (cascade q ms) ss) t p e = absurd (cc)
answered_proper ks (more_statements c (assign n u) ss) t p e = absurd (cc)
answered_proper ks (more_statements c (block ps ts bs f) ss) t p e = absurd (cc)
answered_proper ks (more_statements c (brace ts) ss) t p e = absurd (cc)

-- what is known at a place behind the last block that its path enters
known_way : (way : List ℕ) (depth : ℕ) (t : TreeOf Text) (ks : List Known) (ps ts : List Text) (ss : StatementsOf Text) (e : Notes) (k : ℕ) (rest : List ℕ) (statement : TreeOf Text) → part_at t way ≡ Some (block ps ts ss e)
    → nth (statement_trees ss) k ≡ Some statement → IsOpen statement rest → known_at depth t (way ++ k ∷ rest) ks ≡ known_names ps ts ++ known_at depth t way ks
known_way [] depth t ks ps ts ss e k rest statement found stands open_on =
    let same : t ≡ block ps ts ss e = cc in
    ap (λ (x : TreeOf Text). known_at depth x (k ∷ rest) ks) same
    ∙ known-step depth (block ps ts ss e) statement k rest ks stands
    ∙ ap (λ xs. known_by xs ++ (known_names ps ts ++ ks)) (open_on (depth + 1))
known_way (j ∷ way) depth t ks ps ts ss e k rest statement found stands open_on = by (child t j) refl (λ d f. known_way way (depth + 1) d (own_known t ++ ks) ps ts ss e k rest statement f stands open_on)
  where
    by : (o : Option (TreeOf Text)) → child t j ≡ o
        → ((d : TreeOf Text) → part_at d way ≡ Some (block ps ts ss e) → known_at (depth + 1) d (way ++ k ∷ rest) (own_known t ++ ks) ≡ known_names ps ts ++ known_at (depth + 1) d way (own_known t ++ ks))
        → known_at depth t (j ∷ (way ++ k ∷ rest)) ks ≡ known_names ps ts ++ known_at depth t (j ∷ way) ks
    by None q below = let nowhere = ap (option_and_then (λ x. part_at x way)) (sym q) ∙ found in absurd (cc)
    by (Some d) q below =
        known-step depth t d j (way ++ k ∷ rest) ks q ∙ below d (ap (option_and_then (λ x. part_at x way)) (sym q) ∙ found) ∙ ap (λ zs. known_names ps ts ++ zs) (sym (known-step depth t d j way ks q))

known_sequence : (m : MethodOf Text) (way rest : List ℕ) (k : ℕ) (statement : TreeOf Text) (ks : List Known) (ps : List Text) (b : SequenceOf Text) → IsSequenceAt m way ks ps b → nth (statement_trees b.statements) k ≡ Some statement → IsOpen statement rest
    → known_in m (way ++ k ∷ rest) ≡ known_names ps b.temporaries ++ ks
known_sequence m way rest k statement ks ps b IsBody stands open_on =
    ap (λ (o : Option (TreeOf Text)). unwrap_or (option_map (λ x. known_by (entered 1 x rest) ++ (known_names ps b.temporaries ++ [])) o) (known_names ps b.temporaries ++ [])) stands
    ∙ ap (λ xs. known_by xs ++ (known_names ps b.temporaries ++ [])) (open_on 1)
known_sequence m way rest k statement ks ps b (IsInBlock {k = j} {path = js} {ts = ts} {ss = ss} {e = e} found) stands open_on = by (nth (statement_trees m.body.statements) j) refl
  where
    outer : List Known
    outer = known_names m.arguments m.body.temporaries ++ []

    by : (o : Option (TreeOf Text)) → nth (statement_trees m.body.statements) j ≡ o
        → unwrap_or (option_map (λ c. known_at 1 c (js ++ k ∷ rest) (known_names m.arguments m.body.temporaries ++ [])) (nth (statement_trees m.body.statements) j)) (known_names m.arguments m.body.temporaries ++ [])
        ≡ known_names ps ts ++ unwrap_or (option_map (λ c. known_at 1 c js (known_names m.arguments m.body.temporaries ++ [])) (nth (statement_trees m.body.statements) j)) (known_names m.arguments m.body.temporaries ++ [])
    by None q = let nowhere = ap (option_and_then (λ x. part_at x js)) (sym q) ∙ found in absurd (cc)
    by (Some d) q =
        ap (λ (o : Option (TreeOf Text)). unwrap_or (option_map (λ c. known_at 1 c (js ++ k ∷ rest) outer) o) outer) q
        ∙ known_way js 1 d outer ps ts ss e k rest statement (ap (option_and_then (λ x. part_at x js)) (sym q) ∙ found) stands open_on
        ∙ ap (λ (o : Option (TreeOf Text)). known_names ps ts ++ unwrap_or (option_map (λ c. known_at 1 c js outer) o) outer) (sym q)

-- at a place in a sequence there is known what is known in that
pub known_in_sequence : (m : MethodOf Text) (c : TreeOf Text) (path : List ℕ) (i : IsInSequence m c path) → known_in m path ≡ known_names i.parameters i.sequence.temporaries ++ i.known
known_in_sequence m c path i = ap (known_in m) i.whole ∙ known_sequence m i.way i.rest i.number i.statement i.known i.parameters i.sequence i.there i.stands i.plain
