-- A node that is rewritten by a rule with a certificate may stand where it stood.
use Rattle.std.proofs.Common.{◌≡◌, ℕ, zero, suc, List, [], ◌∷◌, Some, None, refl, sym, ap, ◌∙◌, subst}
use Rattle.std.specs.Prelude.{Bool, true, false, not, if◌then◌else◌, map}
use Rattle.std.specs.List.{AllByRecursion, list_any}
use Rattle.std.proofs.lemmas.Bool.{false≢true, or_parts}
use Rattle.tree_model.specs.Tree.{TreeOf, var, literal, send, cascade, assign, block, brace, return, StatementsOf}
use Rattle.tree_model.specs.Bare.{bare, bare_statements}
use Rattle.tree_model.specs.Measure.{height}
use Rattle.reread_law.specs.WellFormed.{NoReturn}
use Rattle.pattern_model.specs.declared.kinds.MetaKind.{MetaKind}
use Rattle.pattern_model.specs.declared.kinds.MetaKind.TheVariants.{Name, Constant, Expression, Statement, StatementList, Unary, Keyword, Message}
use Rattle.pattern_model.specs.Patterns.{MetaOf, PatternOf}
use Rattle.pattern_model.specs.Bindings.{BoundOf, a_part, a_run, a_selector, a_keyword, a_message, BindingOf, same_meta, bound_of}
use Rattle.pattern_model.specs.Words.{PatternWordsOf, AreWords}
use Rattle.pattern_model.specs.Fill.{part_in}
use Rattle.pattern_model.specs.Matches.{Matches, IsLawful, is_name, is_literal, is_expression, is_of_kind}
use Rattle.pattern_model.specs.MatchTree.{FoundOf, bindings_of, match_places}
use Rattle.pattern_model.specs.Rewritten.{RuleOf, each_statement, each_doubled, in_match, rewritten_by, rewritten_within, rewritten}
use Rattle.pattern_laws.proofs.Matching.{match_of_places}
use Rattle.pattern_laws.proofs.Gathered.{bound_right}
use Rattle.certified_model.specs.Marks.{Text, marked_tree}
use Rattle.certified_model.specs.Certificates.{CertStep, is_statement_meta, derives}
use Rattle.certified_rules.proofs.FilledAlike.{filled-alike, bound-alike}
use Rattle.code_effect_laws.proofs.Stands.{stands_no_return}
use Rattle.rule_kept.proofs.Kept.{Kept, kept_itself, kept_then, KeptLines}
use Rattle.rule_kept.proofs.Bared.{filled_bare}
use Rattle.rule_kept.proofs.FilledKept.{part_of, filled_kept}
use Rattle.rule_kept.proofs.StepsKept.{made}
use Rattle.rule_kept.proofs.DerivedKept.{derived_kept}
use Rattle.rule_kept.proofs.ChangedKept.{KeepsAll, statements_changed, child_changed, bindings_changed, match_changed}

-- an expression is no return
expression_none : (t : TreeOf Text) → is_expression t ≡ true → NoReturn (bare t)
expression_none (var n) e = tt
expression_none (literal l) e = tt
expression_none (send r s ts) e = tt
expression_none (cascade r ms) e = tt
expression_none (assign n t) e = tt
expression_none (block ps ts ss c) e = tt
expression_none (brace ts) e = tt
expression_none (return t) e = absurd (false≢true e)

name_none : (f : Text → Bool) (t : TreeOf Text) → is_name f t ≡ true → NoReturn (bare t)
name_none f (var n) e = tt
name_none f (literal l) e = absurd (false≢true e)
name_none f (send r s ts) e = absurd (false≢true e)
name_none f (cascade r ms) e = absurd (false≢true e)
name_none f (assign n t) e = absurd (false≢true e)
name_none f (block ps ts ss c) e = absurd (false≢true e)
name_none f (brace ts) e = absurd (false≢true e)
name_none f (return t) e = absurd (false≢true e)

literal_none : (t : TreeOf Text) → is_literal t ≡ true → NoReturn (bare t)
literal_none (literal l) e = tt
literal_none (var n) e = absurd (false≢true e)
literal_none (send r s ts) e = absurd (false≢true e)
literal_none (cascade r ms) e = absurd (false≢true e)
literal_none (assign n t) e = absurd (false≢true e)
literal_none (block ps ts ss c) e = absurd (false≢true e)
literal_none (brace ts) e = absurd (false≢true e)
literal_none (return t) e = absurd (false≢true e)

module _ (w : PatternWordsOf Text) where
  part_none : (k : MetaKind) → not (is_statement_meta k) ≡ true → (t : TreeOf Text) → is_of_kind w k (a_part t) ≡ true → NoReturn (bare t)
  part_none Name s t e = name_none w.tests.is_pseudo t e
  part_none Constant s t e = literal_none t e
  part_none Expression s t e = expression_none t e
  part_none Statement s t e = absurd (false≢true s)
  part_none StatementList s t e = absurd (false≢true s)
  part_none Unary s t e = absurd (false≢true e)
  part_none Keyword s t e = absurd (false≢true e)
  part_none Message s t e = absurd (false≢true e)

  bound_none : (k : MetaKind) → not (is_statement_meta k) ≡ true → (n : Text) (b : BoundOf Text) → is_of_kind w k b ≡ true → NoReturn (bare (part_in n b))
  bound_none k s n (a_part t) e = part_none k s t e
  bound_none k s n (a_run ss) e = tt
  bound_none k s n (a_selector m) e = tt
  bound_none k s n (a_keyword m) e = tt
  bound_none k s n (a_message m ts) e = tt

-- a metavariable that is not bound stands for a variable
unbound : (same : Text → Text → Bool) (bs : List (BindingOf Text)) (m : MetaOf Text) → list_any (λ n. same_meta same n m) (map (λ (b : BindingOf Text). b.meta) bs) ≡ false → bound_of same bs m ≡ a_part (var m.name)
unbound same [] m e = refl
unbound same (b ∷ bs) m e =
    let h = or_parts (same_meta same b.meta m) (list_any (λ n. same_meta same n m) (map (λ (c : BindingOf Text). c.meta) bs)) e in
    ap (λ (c : Bool). if c then b.bound else bound_of same bs m) h.0 ∙ unbound same bs m h.1

module _ (w : PatternWordsOf Text) (joined : List (List ℕ) → Text) (known : AreWords w joined) (p q : PatternOf Text) (lawful : IsLawful p) (xs : List CertStep) (derived : derives xs p q ≡ true) where
  abbrev the_rule : RuleOf Text
  the_rule = record { pattern = p; replacement = q }

  -- what is bound to in its kind is no return, where it stands alone
  no_return_bound : (bs : List (BindingOf Text)) → AllByRecursion (λ (b : BindingOf Text). is_of_kind w b.meta.kind b.bound ≡ true) bs → (m : MetaOf Text) → not (is_statement_meta m.kind) ≡ true → NoReturn (bare (part_in m.name (bound_of w.tests.same bs m)))
  no_return_bound bs kinds m s = by (list_any (λ n. same_meta w.tests.same n m) (map (λ (b : BindingOf Text). b.meta) bs)) refl
    where
      by : (c : Bool) → list_any (λ n. same_meta w.tests.same n m) (map (λ (b : BindingOf Text). b.meta) bs) ≡ c → NoReturn (bare (part_in m.name (bound_of w.tests.same bs m)))
      by true e = bound_none w m.kind s m.name (bound_of w.tests.same bs m) (bound_right w joined known bs kinds m e)
      by false e = subst (λ (b : BoundOf Text). NoReturn (bare (part_in m.name b))) (sym (unbound w.tests.same bs m e)) tt

  found_kept : (f : TreeOf Text → TreeOf Text) → KeepsAll f → (t : TreeOf Text) (o : FoundOf Text) → match_places w p t ≡ o → Kept (bare t) (bare (rewritten_by w joined the_rule f t o))
  found_kept f h t None e = child_changed f h t
  found_kept f h t (Some ys) e =
      let m : Matches w joined p t (bindings_of w ys) = match_of_places w joined known p t lawful ys e in
      let g : (TreeOf Text → TreeOf Text) = in_match p f in
      let bound : (MetaOf Text → BoundOf Text) = bound_of w.tests.same (bindings_of w ys) in
      let after : (MetaOf Text → BoundOf Text) = bound_of w.tests.same (map (each_doubled g) (bindings_of w ys)) in
      let each = bindings_changed g (match_changed p f h) w.tests.same (bindings_of w ys) in
      let none = λ (n : MetaOf Text) (s : not (is_statement_meta n.kind) ≡ true). stands_no_return (bare (part_in n.name (bound n))) (bare (part_in n.name (after n))) (part_of n.name (each n)).stands (no_return_bound (bindings_of w ys) m.in_kind n s) in
      let first : Kept (bare t) (filled_bare bound joined p) = subst (λ (u : TreeOf Text). Kept u (filled_bare bound joined p)) m.fills (kept_itself (filled_bare bound joined p)) in
      let second : Kept (filled_bare bound joined p) (filled_bare after joined p) = filled_kept bound after joined each p in
      let alike = bound-alike w.tests.same (map (each_doubled g) (bindings_of w ys)) in
      let third : Kept (filled_bare after joined p) (filled_bare after joined q) =
      subst (λ (u : TreeOf Text). Kept u (filled_bare after joined q)) (ap bare (filled-alike after joined alike p))
      (subst (λ (u : TreeOf Text). Kept (made after joined (marked_tree p)) u) (ap bare (filled-alike after joined alike q)) (derived_kept after joined none xs p q derived).kept) in
      kept_then (bare t) (filled_bare bound joined p) (filled_bare after joined q) first (kept_then (filled_bare bound joined p) (filled_bare after joined p) (filled_bare after joined q) second third)

  within_kept : (n : ℕ) → KeepsAll (rewritten_within w joined the_rule n)
  within_kept zero t = kept_itself (bare t)
  within_kept (suc n) t = found_kept (rewritten_within w joined the_rule n) (within_kept n) t (match_places w p t) refl

  rewritten_kept : KeepsAll (rewritten w joined the_rule)
  rewritten_kept t = within_kept (height t) t

  pub lines_rewritten : (ss : StatementsOf Text) → KeptLines (bare_statements ss) (bare_statements (each_statement (rewritten w joined the_rule) ss))
  lines_rewritten ss = statements_changed (rewritten w joined the_rule) rewritten_kept ss
