-- What is in the way of conditions of parts, messages and temporaries has lines.
use Rattle.std.proofs.Common.{◌≡◌, ℕ, zero, suc, ◌+◌, List, [], ◌∷◌, ◌++◌, Option, Some, None, refl, sym, ap, subst, ◌∙◌, arith}
use Rattle.std.specs.Prelude.{Bool, true, false, not, ◌-◌, cond, filter, take, drop, option_and_then, option_map}
use Rattle.std.specs.List.{AllByRecursion}
use Rattle.std.proofs.lemmas.Bool.{le-leb}
use Rattle.token_model.specs.declared.kind.Dialect.TheVariants.{Second}
use Rattle.tree_model.specs.Tree.{TreeOf, TreesOf, no_trees, more_trees}
use Rattle.tree_model.specs.Path.{nth, child, children, part_in}
use Rattle.tree_model.specs.Nodes.{Placed, nodes}
use Rattle.grammar_model.specs.Spanned.{SpannedTree, SpannedSequence, plain_tree}
use Rattle.grammar_model.specs.Spans.{begin_of, end_of, spanned_nth, spanned_in, span_of, span_at, Span, IsRunAt}
use Rattle.grammar_model.specs.Spelling.{SpellsMethod}
use Rattle.grammar_model.proofs.Places.{plain_in_Method}
use Rattle.image_model.specs.Image.{EntryOf, ImageOf}
use Rattle.query_model.specs.Lines.{Text}
use Rattle.command_model.specs.Asked.{text_asked}
use Rattle.command_model.specs.Parts.{Part, Expression, Run, is_within, inside_from}
use Rattle.command_model.specs.Located.{HasPart}
use Rattle.command_model.specs.PartsOfText.{run_span, span_of_part, parts_of_text}
use Rattle.command_model.specs.Places.{part_nodes, is_return, innermost}
use Rattle.command_model.specs.Plain.{is_plain}
use Rattle.command_model.specs.PartConditions.{is_part, is_value_unused}
use Rattle.command_model.specs.CodeEffects.{method_at, part_at}
use Rattle.command_model.proofs.PartsFound.{finds-parts}
use Rattle.command_model.proofs.UsersMethods.{users-own}
use Rattle.refusal_witnesses.specs.Witnesses.{InMethod, APart, a_node}
use Rattle.refusal_witnesses.specs.Lines.{IsInMethod}
use Rattle.refusal_witnesses.specs.PartWitnesses.{part_nodes_that, returns_in, used_value, is_before_sends, no_part, assigns_outer, outer_assignments, is_node_steady, unsteady, not_plain, before_it, before_expression, evaluated_before}
use Rattle.refusal_witnesses.specs.Spelled.{IsSpelledMethod, IsSpelledImage}
use Rattle.refusal_witnesses.proofs.Alls.{all-weaker, all-mapped, all-filtered, all-both, all-cond, all-where, all-given}
use Rattle.refusal_witnesses.proofs.Leading.{Leads, nodes-lead, leads-child}
use Rattle.refusal_witnesses.proofs.LinesThere.{HasLine, HaveLines, part-lined, node-lined}
use Rattle.refusal_witnesses.proofs.NamesLined.{own-spelled}

-- a part stands in its method, and where it is an expression its path leads to a node
abbrev pub LeadsPart : EntryOf Text → Part → Type 0
LeadsPart m (Expression path) = Leads m.tree.body path
LeadsPart m (Run path first count) = Unit {0}

pub record IsPartThere (m : EntryOf Text) (part : Part) : Type 0 where
  pub spelled : IsSpelledMethod m
  pub span : Span
  pub stands : IsInMethod m part span
  pub leads : LeadsPart m part

-- a run has its span
run-spans : (s : SpannedSequence) (path : List ℕ) (first count : ℕ) (span : Span) → IsRunAt s path first count span → span_of_part s (Run path first count) ≡ Some span
run-spans s path first count span r =
    ap (option_and_then (λ ts. run_span ts first count)) r.of_path
    ∙ ap (λ b. cond b (option_and_then (λ head. option_map (λ last. record { from = begin_of head; to = end_of last }) (spanned_nth r.statements (first + count - 1))) (spanned_nth r.statements first)) None) (le-leb 2 count r.many)
    ∙ ap (option_and_then (λ head. option_map (λ last. record { from = begin_of head; to = end_of last }) (spanned_nth r.statements (first + count - 1)))) r.at_first
    ∙ ap (option_map (λ last. record { from = begin_of r.head; to = end_of last })) r.at_last
    ∙ ap Some (sym r.is)

-- the part that is found from one offset to another
found-there : (m : EntryOf Text) (from to : ℕ) (part : Part) → IsSpelledMethod m → SpellsMethod Second false m.source m.tree → parts_of_text m.source from to ≡ Some part → IsPartThere m part
found-there m from to part known spells e = by part (subst (HasPart spells.spanned.body (record { from = from; to = to })) e (finds-parts m.source spells.spanned from to spells.spells))
  where
    span : Span
    span = record { from = from; to = to }

    leads : (path : List ℕ) → span_at spells.spanned.body path ≡ Some span → Leads m.tree.body path
    leads path at = of (spanned_in spells.spanned.body path) refl at
      where
        of : (o : Option SpannedTree) → spanned_in spells.spanned.body path ≡ o → option_map span_of o ≡ Some span → Leads m.tree.body path
        of None q g = absurd (cc)
        of (Some d) q g = (plain_tree d, ap (λ n. part_in n.body path) spells.same ∙ sym (plain_in_Method spells.spanned path) ∙ ap (option_map plain_tree) q)

    by : (p : Part) → HasPart spells.spanned.body span (Some p) → IsPartThere m p
    by (Expression path) at = record { spelled = known; span = span; stands = record { tree = spells.spanned; spells = spells.spells; at = at }; leads = leads path at }
    by (Run path first count) at = record { spelled = known; span = span; stands = record { tree = spells.spanned; spells = spells.spells; at = run-spans spells.spanned.body path first count span at.1 }; leads = tt }

module _ (i : ImageOf Text) (spelled : IsSpelledImage i) where
  -- the user's method that a command names is spelled
  pub method-spelled : (c : Text) (meta : Bool) (s : Text) (m : EntryOf Text) → method_at text_asked i c meta s ≡ Some m → IsSpelledMethod m
  method-spelled c meta s m e = own-spelled i spelled text_asked.words.tests.same c meta s m (users-own text_asked.words.tests.same i c meta s m e)

  -- and is none of the kernel
  pub method-users : (c : Text) (meta : Bool) (s : Text) (m : EntryOf Text) → method_at text_asked i c meta s ≡ Some m → m.kernel ≡ false
  method-users c meta s m e = by _ e
    where
      either : (b : Bool) (n : EntryOf Text) → n.kernel ≡ b → cond b None (Some n) ≡ Some m → m.kernel ≡ false
      either true n q g = absurd (cc)
      either false n q g =
          let same : n ≡ m = cc in
          subst (λ (x : EntryOf Text). x.kernel ≡ false) same q

      by : (o : Option (EntryOf Text)) → option_and_then (λ (n : EntryOf Text). cond n.kernel None (Some n)) o ≡ Some m → m.kernel ≡ false
      by None g = absurd (cc)
      by (Some n) g = either n.kernel n refl g

  pub part-there : (c : Text) (meta : Bool) (s : Text) (from to : ℕ) (e : EntryOf Text × Part) → part_at text_asked i c meta s from to ≡ Some e → IsPartThere e.0 e.1
  part-there c meta s from to e found = by (method_at text_asked i c meta s) refl found
    where
      of : (m : EntryOf Text) → method_at text_asked i c meta s ≡ Some m → (o : Option Part) → parts_of_text m.source from to ≡ o → option_map (λ (p : Part). (m, p)) o ≡ Some e → IsPartThere e.0 e.1
      of m at None q g = absurd (cc)
      of m at (Some p) q g =
          let same : (m, p) ≡ e = cc in
          let known = method-spelled c meta s m at in
          subst (λ (x : EntryOf Text × Part). IsPartThere x.0 x.1) same (found-there m from to p known (known (method-users c meta s m at)) q)

      by : (o : Option (EntryOf Text)) → method_at text_asked i c meta s ≡ o → option_and_then (λ (m : EntryOf Text). option_map (λ p. (m, p)) (parts_of_text m.source from to)) o ≡ Some e → IsPartThere e.0 e.1
      by None q g = absurd (cc)
      by (Some m) q g = of m q (parts_of_text m.source from to) refl g

  module _ (m : EntryOf Text) (part : Part) (there : IsPartThere m part) where
    whole-part-lined : HasLine i (APart (InMethod m) part)
    whole-part-lined = part-lined i m part (λ known. (there.span, there.stands))

    pub no-part-lined : HaveLines i (no_part text_asked m part)
    no-part-lined = all-where (HasLine i) (not (is_part text_asked m.tree part)) (APart (InMethod m) part) whole-part-lined

    pub used-value-lined : HaveLines i (used_value m part)
    used-value-lined = all-where (HasLine i) (not (is_value_unused m.tree part)) (APart (InMethod m) part) whole-part-lined

    -- the nodes of the part that pass a test
    part-nodes-lined : (test : Placed Text → Bool) → HaveLines i (part_nodes_that test m part)
    part-nodes-lined test =
        all-mapped (HasLine i) (λ (e : Placed Text). a_node (InMethod m) e.0) (filter test (part_nodes m.tree part))
        (all-filtered (λ (e : Placed Text). HasLine i (a_node (InMethod m) e.0)) test (part_nodes m.tree part)
        (all-filtered (λ (e : Placed Text). HasLine i (a_node (InMethod m) e.0)) (λ (e : Placed Text). is_within part e.0) (nodes m.tree.body)
        (all-weaker (λ (e : Placed Text). part_in m.tree.body e.0 ≡ Some e.1) (λ (e : Placed Text). HasLine i (a_node (InMethod m) e.0)) (λ e at. node-lined i m e.0 e.1 there.spelled at) (nodes m.tree.body) (nodes-lead m.tree.body))))

    pub returns-lined : HaveLines i (returns_in m part)
    returns-lined = part-nodes-lined (λ e. is_return e.1)

    pub outer-assignments-lined : HaveLines i (outer_assignments text_asked m part)
    outer-assignments-lined = part-nodes-lined (assigns_outer text_asked m.tree (inside_from part))

    pub unsteady-lined : HaveLines i (unsteady text_asked m part)
    unsteady-lined = part-nodes-lined (λ e. not (is_node_steady text_asked m.tree (inside_from part) e))

  module _ (m : EntryOf Text) (path : List ℕ) where
    -- among trees that are the children of a node from a number on
    not-plain-leads : (at : List ℕ) (t : TreeOf Text) → part_in m.tree.body at ≡ Some t → (j k : ℕ) (ts : TreesOf Text) → ((n : ℕ) → nth ts n ≡ nth (children t) (j + n)) → AllByRecursion (Leads m.tree.body) (not_plain text_asked i m path at j k ts)
    not-plain-leads at t e j zero ts h = tt
    not-plain-leads at t e j (suc k) no_trees h = tt
    not-plain-leads at t e j (suc k) (more_trees u us) h =
        let here : j + 0 ≡ j = omega arith in
        let first : child t j ≡ Some u = ap (nth (children t)) (sym here) ∙ sym (h 0) in
        all-both (Leads m.tree.body) (cond (is_plain text_asked i m path u) [] ((at ++ j ∷ []) ∷ [])) (not_plain text_asked i m path at (suc j) k us)
        (all-cond (Leads m.tree.body) (is_plain text_asked i m path u) [] ((at ++ j ∷ []) ∷ []) tt ((u, leads-child m.tree.body at j t u e first), tt))
        (not-plain-leads at t e (suc j) k us (λ n. h (suc n) ∙ ap (nth (children t)) (next n)))
      where
        next : (n : ℕ) → j + suc n ≡ suc j + n
        next n = omega arith

    before-it-leads : (steps at : List ℕ) (t : TreeOf Text) → part_in m.tree.body at ≡ Some t → AllByRecursion (Leads m.tree.body) (before_it text_asked i m path at t steps)
    before-it-leads [] at t e = tt
    before-it-leads (k ∷ ks) at t e =
        all-both (Leads m.tree.body) (cond (is_before_sends t k) [] (at ∷ [])) _
        (all-cond (Leads m.tree.body) (is_before_sends t k) [] (at ∷ []) tt ((t, e), tt))
        (all-both (Leads m.tree.body) (not_plain text_asked i m path at 0 k (children t)) _
        (not-plain-leads at t e 0 k (children t) (λ n. ap (nth (children t)) (same n)))
        (all-given (Leads m.tree.body) (λ c. before_it text_asked i m path (at ++ k ∷ []) c ks) (child t k) (at ∷ [])
        (λ c f. before-it-leads ks (at ++ k ∷ []) c (leads-child m.tree.body at k t c e f)) ((t, e), tt)))
      where
        same : (n : ℕ) → n ≡ 0 + n
        same n = omega arith

    before-leads : Leads m.tree.body path → AllByRecursion (Leads m.tree.body) (before_expression text_asked i m path)
    before-leads itself =
        all-given (Leads m.tree.body) _ (part_in m.tree.body path) (path ∷ [])
        (λ t e. all-cond (Leads m.tree.body) (is_return t) (path ∷ []) _ (itself, tt)
        (all-given (Leads m.tree.body) _ (part_in m.tree.body (take (suc (innermost m.tree path)) path)) (path ∷ [])
        (λ s f. before-it-leads (drop (suc (innermost m.tree path)) path) (take (suc (innermost m.tree path)) path) s f) (itself, tt)))
        (itself, tt)

  pub evaluated-before-lined : (m : EntryOf Text) (part : Part) → IsPartThere m part → HaveLines i (evaluated_before text_asked i m part)
  evaluated-before-lined m (Expression path) there =
      all-mapped (HasLine i) (a_node (InMethod m)) (before_expression text_asked i m path)
      (all-weaker (Leads m.tree.body) (λ p. HasLine i (a_node (InMethod m) p)) (λ p at. node-lined i m p at.0 there.spelled at.1) (before_expression text_asked i m path) (before-leads m path there.leads))
  evaluated-before-lined m (Run path first count) there = (part-lined i m (Run path first count) (λ known. (there.span, there.stands)), tt)
