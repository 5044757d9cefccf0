use Rattle.std.proofs.Common.{◌≡◌, List, [], ◌∷◌, if◌then◌else◌, reverse, length, arith, ap, sym, subst, ◌∙◌}
use Rattle.std.specs.Str.{bytes_eq}
use Rattle.grammar_model.specs.Terminal.{Text}
use Rattle.event_checks.specs.declared.scopes.Change.{Change}
use Rattle.event_checks.specs.Scopes.{fixed_at, changed, Restores}
use Rattle.event_checks.proofs.Lists.{none_left}
use Rattle.event_checks.proofs.Changes.{restores_same, restores_last, leaves, leaves_none}
use Rattle.event_checks.proofs.scopes.Scopes.leave.Goals as goal

pub returns-in_default : goal.returns-in_default
returns-in_default c = λ ks outer s.
    let before : length c.changes.self.changes.items ≡ 0 = omega (arith, c.in_default.ensures.cases.0) in
    let after : length c.pop.new.self.items ≡ 0 = omega (arith, c.in_default.ensures.cases.1) in
    let old : c.changes.self.changes.items ≡ [] = none_left c.changes.self.changes.items before in
    leaves_none (record { fixed = c.changes.self.fixed; changes = c.pop.new.self }) outer (none_left c.pop.new.self.items after)
    (subst (λ (cs : List Change). Restores (reverse cs) (fixed_at c.changes.self.fixed) outer) old (c.changes.invariant ks outer s))

pub returns-in-Entered : goal.returns-in-Entered
returns-in-Entered c = λ ks outer s.
    let last = restores_last c.changes.self.changes.items c.pop.new.self.items c.in-Some.change (fixed_at c.changes.self.fixed) outer c.in-Some.ensures.items (c.changes.invariant ks outer s) in
    leaves (record { fixed = c.changes.self.fixed; changes = c.pop.new.self }) outer
    (subst (λ (change : Change). Restores (change ∷ reverse c.pop.new.self.items) (fixed_at c.changes.self.fixed) outer) c.in-Entered.is last)

pub changes-preserved : goal.changes-preserved
changes-preserved c = λ ks outer s.
    let old = fixed_at c.changes.self.fixed in
    let name = c.in-Declared.name.items in
    let last = restores_last c.changes.self.changes.items c.pop.new.self.items c.in-Some.change old outer c.in-Some.ensures.items (c.changes.invariant ks outer s) in
    restores_same (reverse c.pop.new.self.items) (changed old name c.in-Declared.fixed) (fixed_at c.put.new.table) outer
    (λ n. ap (λ (t : Text). if bytes_eq n t then c.in-Declared.fixed else old n) (sym c.as_slice.ensures.value) ∙ sym (c.in_ok-put-in-Declared.ensures.after n))
    (subst (λ (change : Change). Restores (change ∷ reverse c.pop.new.self.items) old outer) c.in-Declared.is last)
