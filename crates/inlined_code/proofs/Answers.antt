-- What statements answer, and statements whose last one answers.
use Rattle.std.proofs.Common.{◌≡◌, ◌==◌, false, true≢false, ℕ, List, [], ◌∷◌, ◌++◌, length, None, refl, sym, ap, ◌∙◌, arith}
use Rattle.tree_model.specs.Tree.{Notes, TreeOf, var, literal, send, cascade, assign, block, brace, return, StatementsOf, no_statements, more_statements}
use Rattle.st_tree.specs.View.{statements_of}
use Rattle.st_tree.specs.declared.tree.Statement.{Statement}
use Rattle.command_model.specs.Inlined.{answered, last_unanswered}
use Rattle.inlined_code.specs.Answering.{unreturned}

-- two statements and more are no expression alone
answered-two : (c d : Notes) (t u : TreeOf ℕ) (ss : StatementsOf ℕ) → answered (more_statements c t (more_statements d u ss)) ≡ None
answered-two c d (var n) u ss = refl
answered-two c d (literal l) u ss = refl
answered-two c d (send r s args) u ss = refl
answered-two c d (cascade r ms) u ss = refl
answered-two c d (assign n t) u ss = refl
answered-two c d (block ps ts bs e) u ss = refl
answered-two c d (brace ts) u ss = refl
answered-two c d (return t) u ss = refl

pub answered-many : (ss : List Statement) (s r : Statement) (rest : List Statement) → ss ≡ s ∷ r ∷ rest → answered (statements_of ss) ≡ None
answered-many ss s r rest e = ap (λ (xs : List Statement). answered (statements_of xs)) e ∙ answered-two s.comments r.comments s.node r.node (statements_of rest)

-- only the last statement loses its return
unanswered-two : (c d : Notes) (t u : TreeOf ℕ) (ss : StatementsOf ℕ) → last_unanswered (more_statements c t (more_statements d u ss)) ≡ more_statements c t (last_unanswered (more_statements d u ss))
unanswered-two c d (var n) u ss = refl
unanswered-two c d (literal l) u ss = refl
unanswered-two c d (send r s args) u ss = refl
unanswered-two c d (cascade r ms) u ss = refl
unanswered-two c d (assign n t) u ss = refl
unanswered-two c d (block ps ts bs e) u ss = refl
unanswered-two c d (brace ts) u ss = refl
unanswered-two c d (return t) u ss = refl

unanswered-one : (c : Notes) (t : TreeOf ℕ) → last_unanswered (more_statements c t no_statements) ≡ more_statements c (unreturned t) no_statements
unanswered-one c (var n) = refl
unanswered-one c (literal l) = refl
unanswered-one c (send r s args) = refl
unanswered-one c (cascade r ms) = refl
unanswered-one c (assign n t) = refl
unanswered-one c (block ps ts bs e) = refl
unanswered-one c (brace ts) = refl
unanswered-one c (return t) = refl

pub unanswered-last : (xs : List Statement) (s : Statement) → last_unanswered (statements_of (xs ++ s ∷ [])) ≡ statements_of (xs ++ record { comments = s.comments; node = unreturned s.node } ∷ [])
unanswered-last [] s = unanswered-one s.comments s.node
unanswered-last (x ∷ []) s = unanswered-two x.comments s.comments x.node s.node no_statements ∙ ap (more_statements x.comments x.node) (unanswered-last [] s)
unanswered-last (x ∷ y ∷ xs) s = unanswered-two x.comments y.comments x.node y.node (statements_of (xs ++ s ∷ [])) ∙ ap (more_statements x.comments x.node) (unanswered-last (y ∷ xs) s)

pub answered-rest : (ss : List Statement) (s : Statement) (rest : List Statement) → ss ≡ s ∷ rest → (length rest == 0) ≡ false → None ≡ answered (statements_of ss)
answered-rest ss s [] e h = absurd (true≢false h)
answered-rest ss s (r ∷ rest) e h = sym (answered-many ss s r rest e)

-- the last statement is taken out, and put back without its return
pub put-back : (old front after : List Statement) (c : Notes) (t u : TreeOf ℕ) → old ≡ front ++ record { comments = c; node = t } ∷ [] → u ≡ unreturned t → after ≡ front ++ record { comments = c; node = u } ∷ []
    → statements_of after ≡ last_unanswered (statements_of old)
put-back old front after c t u o r a =
    ap statements_of (a ∙ ap (λ (v : TreeOf ℕ). front ++ record { comments = c; node = v } ∷ []) r)
    ∙ sym (unanswered-last front (record { comments = c; node = t }))
    ∙ sym (ap (λ (ss : List Statement). last_unanswered (statements_of ss)) o)

-- there is none
pub none-last : (old front : List Statement) → old ≡ front ++ [] → length front ≡ 0 → statements_of front ≡ last_unanswered (statements_of old)
none-last old [] o h = sym (ap (λ (ss : List Statement). last_unanswered (statements_of ss)) o)
none-last old (x ∷ xs) o h = absurd (omega arith)
