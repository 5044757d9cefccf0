-- The conditions of a run make it one.
use Rattle.std.proofs.Common.{◌≡◌, ℕ, zero, suc, ◌+◌, ◌<◌, ◌≤◌, List, [], ◌∷◌, ◌++◌, filter, Bool, true, false, not, ◌&&◌, ◌||◌, nat_eq, nat_le, nat_lt, Option, Some, None, option_and_then, refl, ap, sym, ◌∙◌, subst, arith}
use Rattle.std.specs.Prelude.{Contains, if◌then◌else◌}
use Rattle.std.specs.List.{list_any}
use Rattle.std.specs.Option.{option_map_or}
use Rattle.std.specs.Cmp.Lexicographic.{pointwise}
use Rattle.std.proofs.lemmas.Bool.{eq-eqb, le-leb, lt-ltb}
use Rattle.tree_model.specs.Tree.{TreeOf, var, literal, send, cascade, assign, block, brace, return, StatementsOf, no_statements, more_statements, MethodOf}
use Rattle.tree_model.specs.Path.{count, nth, statement_trees, part_at, part_in}
use Rattle.tree_model.specs.Nodes.{Placed, nodes}
use Rattle.tree_model.proofs.NodesLemmas.{Contains-part_in}
use Rattle.scope_model.specs.FreeNames.{take_statements, run_of, statements_at}
use Rattle.command_model.specs.Parts.{Run, is_within}
use Rattle.command_model.specs.Places.{is_return}
use Rattle.command_model.specs.PartConditions.{has_no_return}
use Rattle.code_command_laws.specs.FoldedRun.{HaveNoReturn, IsRun}
use Rattle.code_command_laws.proofs.Round.{LeadsTo, ToBody, ToBlock, last-step, steps-before}
use Rattle.code_command_laws.proofs.PutBackRun.{part_in-append, statements_of}

-- where nothing that passes one test passes another, an item that passes the one does not pass the other
pub filtered-none : {X : Type 0} (test p : X → Bool) (xs : List X) (x : X) → list_any p (filter test xs) ≡ false → Contains xs x → test x ≡ true → p x ≡ false
filtered-none test p [] x none (k, lt, e) passes = absurd (omega arith)
filtered-none {X} test p (y ∷ ys) x none (zero, lt, e) passes = subst (λ (z : X). p z ≡ false) e (by (test y) none (subst (λ (z : X). test z ≡ true) (sym e) passes))
  where
    first : (b : Bool) → (b || list_any p (filter test ys)) ≡ false → b ≡ false
    first true n = n
    first false n = refl

    by : (b : Bool) → list_any p (if b then y ∷ filter test ys else filter test ys) ≡ false → b ≡ true → p y ≡ false
    by true n t = first (p y) n
    by false n t = let wrong : false ≡ true = t in cc
filtered-none test p (y ∷ ys) x none (suc k, lt, e) passes = filtered-none test p ys x (by (test y) none) (k, omega arith, e) passes
  where
    rest : (b : Bool) → (b || list_any p (filter test ys)) ≡ false → list_any p (filter test ys) ≡ false
    rest true n = let wrong : true ≡ false = n in cc
    rest false n = n

    by : (b : Bool) → list_any p (if b then y ∷ filter test ys else filter test ys) ≡ false → list_any p (filter test ys) ≡ false
    by true n = rest (p y) n
    by false n = n

-- the path of a statement of a run leads into the run
pub same-path : (path : List ℕ) → pointwise nat_eq path path ≡ true
same-path [] = refl
same-path (j ∷ js) = λ i. eq-eqb j j refl i && same-path js i

within-run : (path : List ℕ) (first n k : ℕ) → first ≤ k → k < first + n → is_within (Run path first n) (path ++ k ∷ []) ≡ true
within-run path first n k low high =
    (λ i. pointwise nat_eq path (steps-before path k i) && option_map_or (λ j. nat_le first j && nat_lt j (first + n)) (last-step path k i) false)
    ∙ (λ i. same-path path i && (le-leb first k low i && lt-ltb k (first + n) high i))

module _ {N : Type 0} where
  -- the first so many statements, none of which is a return
  taken-none : (ss : StatementsOf N) (n : ℕ) → ((k : ℕ) (t : TreeOf N) → nth (statement_trees ss) k ≡ Some t → k < n → is_return t ≡ false) → HaveNoReturn (take_statements n ss)
  taken-none ss zero none = tt
  taken-none no_statements (suc n) none = tt
  taken-none (more_statements c t ss) (suc n) none = (none 0 t refl (omega arith), taken-none ss n (λ k u e lt. none (suc k) u e (omega arith)))

  -- behind others
  run-none : (ss : StatementsOf N) (first n : ℕ) → ((k : ℕ) (t : TreeOf N) → nth (statement_trees ss) k ≡ Some t → first ≤ k → k < first + n → is_return t ≡ false)
      → HaveNoReturn (run_of ss first n)
  run-none ss zero n none = taken-none ss n (λ k t e lt. none k t e (omega arith) (omega arith))
  run-none no_statements (suc first) n none = taken-none no_statements n (λ k t e lt. cc)
  run-none (more_statements c u ss) (suc first) n none = run-none ss first n (λ k t e low high. none (suc k) t e (omega arith) (omega arith))

  -- two of them or more are a run
  taken-run : (ss : StatementsOf N) (n : ℕ) → 2 ≤ n → n ≤ count (statement_trees ss) → HaveNoReturn (take_statements n ss) → IsRun (take_statements n ss)
  taken-run no_statements n many enough none = absurd (omega arith)
  taken-run (more_statements c t no_statements) n many enough none = absurd (omega arith)
  taken-run (more_statements c t (more_statements d u ss)) zero many enough none = absurd (omega arith)
  taken-run (more_statements c t (more_statements d u ss)) (suc zero) many enough none = absurd (omega arith)
  taken-run (more_statements c t (more_statements d u ss)) (suc (suc n)) many enough none = none

  run-is : (ss : StatementsOf N) (first n : ℕ) → 2 ≤ n → first + n ≤ count (statement_trees ss) → HaveNoReturn (run_of ss first n) → IsRun (run_of ss first n)
  run-is ss zero n many enough none = taken-run ss n many (omega arith) none
  run-is no_statements (suc first) n many enough none = absurd (omega arith)
  run-is (more_statements c t ss) (suc first) n many enough none = run-is ss first n many (omega arith) none

module _ {N : Type 0} (m : MethodOf N) where
  -- where there are statements, the path leads to a sequence
  leads_where : (path : List ℕ) → 1 ≤ count (statement_trees (statements_at m.body path)) → LeadsTo m path
  leads_where [] some = ToBody
  leads_where (k ∷ ks) some = by (part_in m.body (k ∷ ks)) refl some
    where
      by : (o : Option (TreeOf N)) → part_in m.body (k ∷ ks) ≡ o → 1 ≤ count (statement_trees (statements_of o)) → LeadsTo m (k ∷ ks)
      by None e r = absurd (omega arith)
      by (Some (var n)) e r = absurd (omega arith)
      by (Some (literal l)) e r = absurd (omega arith)
      by (Some (send q s args)) e r = absurd (omega arith)
      by (Some (cascade q ms)) e r = absurd (omega arith)
      by (Some (assign n t)) e r = absurd (omega arith)
      by (Some (block ps ts ss tail)) e r = ToBlock ps ts ss tail e
      by (Some (brace ts)) e r = absurd (omega arith)
      by (Some (return t)) e r = absurd (omega arith)

  -- a path with one more step leads to a statement of the sequence
  statement-at : (path : List ℕ) → LeadsTo m path → (k : ℕ) (t : TreeOf N) → nth (statement_trees (statements_at m.body path)) k ≡ Some t → part_in m.body (path ++ k ∷ []) ≡ Some t
  statement-at [] ToBody k t e = ap (λ (o : Option (TreeOf N)). option_and_then (λ c. part_at c []) o) e
  statement-at (j ∷ js) (ToBlock ps ts ss tail found) k t e =
      part_in-append m.body j js (k ∷ [])
      ∙ ap (λ (o : Option (TreeOf N)). option_and_then (λ c. part_at c (k ∷ [])) o) found
      ∙ ap (λ (o : Option (TreeOf N)). option_and_then (λ c. part_at c []) o) (subst (λ (o : Option (TreeOf N)). nth (statement_trees (statements_of o)) k ≡ Some t) found e)

  -- two statements or more that are there, and have no return in them, are a run
  pub is_run : (path : List ℕ) (first n : ℕ) → 2 ≤ n → first + n ≤ count (statement_trees (statements_at m.body path)) → has_no_return m (Run path first n) ≡ true
      → IsRun (run_of (statements_at m.body path) first n)
  is_run path first n many enough none =
      run-is (statements_at m.body path) first n many enough
      (run-none (statements_at m.body path) first n (λ k t e low high.
      filtered-none (λ (x : Placed N). is_within (Run path first n) x.0) (λ (x : Placed N). is_return x.1) (nodes m.body) (path ++ k ∷ [], t)
      (denied (list_any (λ (x : Placed N). is_return x.1) (filter (λ (x : Placed N). is_within (Run path first n) x.0) (nodes m.body))) none)
      (Contains-part_in m.body (path ++ k ∷ []) t (statement-at path (leads_where path (omega arith)) k t e))
      (within-run path first n k low high)))
    where
      denied : (b : Bool) → not b ≡ true → b ≡ false
      denied true e = let wrong : false ≡ true = e in cc
      denied false e = refl
