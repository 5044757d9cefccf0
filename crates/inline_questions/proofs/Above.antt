-- The node above a place, once another node stands there.
use Rattle.std.proofs.Common.{◌≡◌, ℕ, zero, suc, ◌-◌, false, not, ◌&&◌, List, [], ◌∷◌, ◌++◌, length, take, Option, None, Some, slice_get, unwrap_or, option_map, refl, sym, ap, ◌∙◌, arith, length-append}
use Rattle.std.specs.Option.{option_map_or}
use Rattle.tree_model.specs.Tree.{TreeOf, var, literal, send, cascade, assign, block, brace, return, TreesOf, no_trees, more_trees, no_statements, more_statements, SequenceOf, MethodOf}
use Rattle.tree_model.specs.Path.{nth, all_arguments, statement_trees, part_in, with_nth, with_child, replaced, replaced_in}
use Rattle.scope_model.specs.declared.local.ControlForm.{ControlForm}
use Rattle.scope_model.specs.Control.{is_control}
use Rattle.st_tree.specs.View.{statements_of}
use Rattle.st_tree.specs.declared.tree.Statement.{Statement}
use Rattle.command_model.specs.InlineConditions.{makes_control}
use Rattle.inline_questions.specs.Codes.{alone}

module _ {N : Type 0} where
  -- there are not so many trees
  with_nth-past : (ts : TreesOf N) (k : ℕ) (u : TreeOf N) → nth ts k ≡ None → with_nth ts k u ≡ ts
  with_nth-past no_trees k u e = refl
  with_nth-past (more_trees t ts) zero u e = absurd (cc)
  with_nth-past (more_trees t ts) (suc k) u e = ap (more_trees t) (with_nth-past ts k u e)

  -- one step is a path, as far as control sends go
  control-step : (form : N → ControlForm) (t : TreeOf N) (k : ℕ) (u : TreeOf N) → is_control form (replaced t (k ∷ []) u) ≡ is_control form (with_child t k u)
  control-step form (var n) k u = refl
  control-step form (literal l) k u = refl
  control-step form (send r s args) zero u = refl
  control-step form (send r s args) (suc k) u = by (nth args k) refl
    where
      by : (o : Option (TreeOf N)) → nth args k ≡ o → is_control form (unwrap_or (option_map (λ c. send r s (with_nth args k u)) o) (send r s args)) ≡ is_control form (send r s (with_nth args k u))
      by None e = ap (λ (ts : TreesOf N). is_control form (send r s ts)) (sym (with_nth-past args k u e))
      by (Some c) e = refl
  control-step form (cascade r ms) zero u = refl
  control-step form (cascade r ms) (suc k) u = by (nth (all_arguments ms) k)
    where
      by : (o : Option (TreeOf N)) → is_control form (unwrap_or (option_map (λ c. with_child (cascade r ms) (suc k) u) o) (cascade r ms)) ≡ false
      by None = refl
      by (Some c) = refl
  control-step form (assign n t) zero u = refl
  control-step form (assign n t) (suc k) u = refl
  control-step form (block ps ts ss e) k u = by (nth (statement_trees ss) k)
    where
      by : (o : Option (TreeOf N)) → is_control form (unwrap_or (option_map (λ c. with_child (block ps ts ss e) k u) o) (block ps ts ss e)) ≡ false
      by None = refl
      by (Some c) = refl
  control-step form (brace ts) k u = by (nth ts k)
    where
      by : (o : Option (TreeOf N)) → is_control form (unwrap_or (option_map (λ c. with_child (brace ts) k u) o) (brace ts)) ≡ false
      by None = refl
      by (Some c) = refl
  control-step form (return t) zero u = refl
  control-step form (return t) (suc k) u = refl

-- the one statement of a body that was a do-it of one expression
pub control-alone : (form : ℕ → ControlForm) (t : TreeOf ℕ) (k : ℕ) (u : TreeOf ℕ) (before after : SequenceOf ℕ) (path : List ℕ) (s : Statement) (rest : List Statement)
    → before ≡ alone t → path ≡ 0 ∷ k ∷ [] → after ≡ replaced_in before path u → after.statements ≡ statements_of (s ∷ rest) → is_control form s.node ≡ is_control form (with_child t k u)
control-alone form t k u before after path s rest b p a f =
    let whole : more_statements s.comments s.node (statements_of rest) ≡ more_statements [] (replaced t (k ∷ []) u) no_statements =
    sym f ∙ ap (λ (x : SequenceOf ℕ). x.statements) (a ∙ (λ i. replaced_in (b i) (p i) u)) in
    let node : s.node ≡ replaced t (k ∷ []) u = cc in
    ap (is_control form) node ∙ control-step form t k u

-- such a body has a statement
pub not-empty : (t : TreeOf ℕ) (k : ℕ) (u : TreeOf ℕ) (before after : SequenceOf ℕ) (path : List ℕ)
    → before ≡ alone t → path ≡ 0 ∷ k ∷ [] → after ≡ replaced_in before path u → after.statements ≡ no_statements → ⊥
not-empty t k u before after path b p a f =
    let whole : no_statements ≡ more_statements [] (replaced t (k ∷ []) u) no_statements =
    sym f ∙ ap (λ (x : SequenceOf ℕ). x.statements) (a ∙ (λ i. replaced_in (b i) (p i) u)) in
    cc

module _ {N : Type 0} (form : N → ControlForm) (m : MethodOf N) (before : List ℕ) (k : ℕ) (t : TreeOf N) where
  one-less : (xs : List ℕ) → length (xs ++ k ∷ []) - 1 ≡ length xs
  one-less xs = omega (arith, length-append xs (k ∷ []))

  take-front : (xs : List ℕ) → take (length xs) (xs ++ k ∷ []) ≡ xs
  take-front [] = refl
  take-front (x ∷ xs) = ap (λ (zs : List ℕ). x ∷ zs) (take-front xs)

  get-end : (xs : List ℕ) → slice_get (xs ++ k ∷ []) (length xs) ≡ Some k
  get-end [] = refl
  get-end (x ∷ xs) = get-end xs

  take-before : (xs : List ℕ) → take (length (xs ++ k ∷ []) - 1) (xs ++ k ∷ []) ≡ xs
  take-before xs = ap (λ n. take n (xs ++ k ∷ [])) (one-less xs) ∙ take-front xs

  get-last : (xs : List ℕ) → slice_get (xs ++ k ∷ []) (length (xs ++ k ∷ []) - 1) ≡ Some k
  get-last xs = ap (slice_get (xs ++ k ∷ [])) (one-less xs) ∙ get-end xs

  -- what is asked of the node above the end of a path of one step and more
  pub asked-above : (path : List ℕ) → path ≡ before ++ k ∷ []
      → makes_control form m path t ≡ option_map_or (λ above. not (is_control form above) && is_control form (with_child above k t)) (part_in m.body before) false
  asked-above path e =
      ap (λ (p : List ℕ). makes_control form m p t) e
      ∙ ap (λ (p : List ℕ). option_map_or (λ above. not (is_control form above) && option_map_or (λ j. is_control form (with_child above j t)) (slice_get (before ++ k ∷ []) (length (before ++ k ∷ []) - 1)) false) (part_in m.body p) false) (take-before before)
      ∙ ap (λ (o : Option ℕ). option_map_or (λ above. not (is_control form above) && option_map_or (λ j. is_control form (with_child above j t)) o false) (part_in m.body before) false) (get-last before)
