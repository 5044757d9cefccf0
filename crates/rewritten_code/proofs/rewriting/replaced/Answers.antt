use Rattle.std.proofs.Common.{◌≡◌, ℕ, List, [], ◌∷◌, Option, sym, ap, subst, ◌∙◌, rules}
use Rattle.tree_model.specs.Tree.{TreeOf}
use Rattle.pattern_model.specs.Bindings.{a_part, BindingOf}
use Rattle.patterns.specs.View.{meta_of}
use Rattle.event_trees.specs.Naming.{Grows}
use Rattle.std.specs.Prelude.{not, MatchOption}
use Rattle.pattern_match.specs.Bound.{bound_of}
use Rattle.pattern_match.specs.declared.bindings.Bound.{Bound}
use Rattle.filled_patterns.specs.declared.bindings.Binding.{Binding}
use Rattle.filled_patterns.specs.Left.{Holds}
use Rattle.rewritten_code.specs.Changed.{replaced, IsChanged}
use Rattle.rewritten_code.proofs.Growing.{tree_known, rule_known}
use Rattle.rewritten_code.proofs.Matching.{stays, still_replaced, put_replaced, FillsSame, FillsKnown, found_no, found_one, whole_bound, whole_known, if_both}
use Rattle.rewritten_code.proofs.rewriting.replaced.Goals as goal

pub returns-then-is_none-clause-replaced : goal.returns-then-is_none-clause-replaced
returns-then-is_none-clause-replaced c = λ final g.
    stays g c.args.rule.now c.requires.rule c.args.node c.requires.node
    (found_no c.args.names.now c.args.rule.now.pattern c.args.node c.in_ok-bindings_at.field-0 (ap not (c.is_none.ensures ∙ ap not c.if-is_none.true)) c.in_ok-bindings_at.ensures.found)

pub returns-clause-replaced : goal.returns-clause-replaced
returns-clause-replaced c =
    let names : List (List ℕ) = c.args.names.now in
    let r = c.args.rule.now in
    let t : TreeOf ℕ = c.args.node in
    let ss : List Binding = c.as_mut_slice.result.now in
    let new : List (List ℕ) = c.fill.new.names in
    let a = c.fill.ensures.grows in
    let found = found_one names r.pattern t c.in_ok-bindings_at.field-0 (ap not (c.is_none.ensures ∙ ap not c.if-is_none.false)) c.in_ok-bindings_at.ensures.found in
    let ds : List (BindingOf ℕ) = record { meta = meta_of c.args.meta; bound = a_part t } ∷ [] in
    let alone = whole_bound names r.pattern (meta_of c.args.meta) t found.0 c.requires.pattern (whole_known names r.pattern (meta_of c.args.meta) c.requires.pattern c.requires.rule.pattern) c.requires.node found.1 in
    let one : Binding = c.binding_for.result in
    let is : ss ≡ one ∷ [] = search rules in
    let held : Holds ds ss = subst (Holds ds) (sym is) (record { meta = ap meta_of c.binding_for.ensures.meta; bound = subst (λ (o : Option Bound). MatchOption o (Unit {0}) (λ y. bound_of y ≡ a_part t)) (sym c.binding_for.ensures.bound) (ap a_part c.in_ok-new.ensures.ok) }, tt) in
    if_both c.fill.result (FillsSame new r ss) (FillsKnown new ss) (λ v. (final : List (List ℕ)) → Grows new final → IsChanged final (replaced final r) t v)
    (λ v e k final g. still_replaced g r (rule_known a r c.requires.rule) t (tree_known a t c.requires.node) v (put_replaced a r c.requires.rule t c.requires.node ds alone ss v e k held))
    c.fill.ensures.filled c.fill.ensures.known
