use Rattle.std.proofs.Common.{ℕ, Some, None, get_or, sym, ap, ◌∙◌}
use Rattle.tree_model.specs.Tree.{var}
use Rattle.pattern_model.specs.Patterns.{MetaOf}
use Rattle.pattern_model.specs.Bindings.{a_part, BindingOf}
use Rattle.patterns.specs.View.{meta_of}
use Rattle.filled_patterns.specs.declared.bindings.Binding.{Binding}
use Rattle.filled_patterns.proofs.Held.{is_of, numbered_place, bound_nowhere, bound_there, held_part}
use Rattle.filled_patterns.proofs.standing.bound_to.Goals as goal

pub returns-in-None : goal.returns-in-None
returns-in-None c = λ bs h.
    let m : MetaOf ℕ = meta_of c.args.meta.now in
    bound_nowhere m bs c.args.bindings.now h (numbered_place (is_of m) c.args.bindings.now None (sym c.in-None.is ∙ c.binding_number.ensures))

pub returns-in-Some-bound : goal.returns-in-Some-bound
returns-in-Some-bound c = λ bs h.
    let m : MetaOf ℕ = meta_of c.args.meta.now in
    let d : BindingOf ℕ = record { meta = m; bound = a_part (var m.name) } in
    let s : Binding = c.index-bindings-at.result in
    let n = numbered_place (is_of m) c.args.bindings.now (Some c.in-Some.at) (sym c.in-Some.is ∙ c.binding_number.ensures) in
    let there = bound_there m d bs c.args.bindings.now c.in-Some.at s h n.0 n.1 c.index-bindings-at.is in
    held_part (get_or bs c.in-Some.at d) s c.in-Some-bound.bound (ap (λ (u : Binding). u.bound) c.index-bindings-at.is ∙ c.in-Some-bound.is) there.0 ∙ there.1
