-- The free names of a whole body.
use Rattle.std.proofs.Common.{◌≡◌, ℕ, ◌&&◌, ◌||◌, Bool, true, false, not, List, [], ◌∷◌, length, refl, sym, ap, ◌∙◌, arith}
use Rattle.std.specs.Prelude.{nat_eq}
use Rattle.std.specs.List.{list_any}
use Rattle.std.proofs.lemmas.Bool.{eqb-true, eq-eqb}
use Rattle.std.proofs.lemmas.Map.Views.{any-filter_same}
use Rattle.tree_model.specs.Tree.{StatementsOf}
use Rattle.scope_model.specs.FreeNames.{each_once, free_in_statements, free_names_of_run, run_of, statements_at}
use Rattle.st_tree.specs.View.{statements_of, sequence_of}
use Rattle.st_tree.specs.declared.path.Part.TheVariants.{Run}
use Rattle.st_tree.specs.declared.tree.Sequence.{Sequence}
use Rattle.st_scope.specs.Parts.{free_names_of_part}
use Rattle.st_scope.proofs.Runs.{take_statements-all}
use Rattle.code_questions.proofs.Witnesses.{same-truth}

-- whether a name stands among names, and whether it does among those without the first
skipped : (a b r : Bool) → a ≡ b → (a || not b && r) ≡ (a || r)
skipped true b r e = refl
skipped false true r e = absurd (cc)
skipped false false r e = refl

-- a name that stands among names stands among them each once
pub once-any : (n : ℕ) (ns : List ℕ) → list_any (nat_eq n) (each_once nat_eq ns) ≡ list_any (nat_eq n) ns
once-any n [] = refl
once-any n (m ∷ ms) =
    ap (λ (rest : Bool). nat_eq n m || rest)
    (any-filter_same (nat_eq n) (λ (k : ℕ). not (nat_eq m k)) (not (nat_eq m n)) (λ k e. ap (λ (j : ℕ). not (nat_eq m j)) (sym (eqb-true n k e))) (each_once nat_eq ms)
    ∙ ap (λ (rest : Bool). not (nat_eq m n) && rest) (once-any n ms))
    ∙ skipped (nat_eq n m) (nat_eq m n) (list_any (nat_eq n) ms)
    (same-truth (nat_eq n m) (nat_eq m n) (λ e. eq-eqb m n (sym (eqb-true n m e))) (λ e. eq-eqb n m (sym (eqb-true m n e))))

-- the free names of all statements of a body
pub whole-names : (is_pseudo : ℕ → Bool) (b : Sequence) (path : List ℕ) (count : ℕ) → path ≡ [] → count ≡ length b.statements
    → free_names_of_part nat_eq is_pseudo (sequence_of b) (Run path 0 count) ≡ each_once nat_eq (free_in_statements nat_eq is_pseudo (statements_of b.statements))
whole-names is_pseudo b path count e f =
    ap (λ (p : List ℕ). free_names_of_run nat_eq is_pseudo (run_of (statements_at (sequence_of b) p) 0 count)) e
    ∙ ap (λ (ss : StatementsOf ℕ). each_once nat_eq (free_in_statements nat_eq is_pseudo ss)) (take_statements-all count b.statements (omega arith))
