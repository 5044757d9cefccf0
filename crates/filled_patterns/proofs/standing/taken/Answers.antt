use Rattle.std.proofs.Common.{ℕ, Some, None, get_or, sym, subst, ◌∙◌}
use Rattle.tree_model.specs.Tree.{var}
use Rattle.pattern_model.specs.Patterns.{MetaOf}
use Rattle.pattern_model.specs.Bindings.{a_part, BindingOf}
use Rattle.patterns.specs.View.{meta_of}
use Rattle.filled_patterns.specs.Left.{HoldsOne}
use Rattle.filled_patterns.proofs.Held.{is_of, numbered_place, bound_nowhere, bound_there, holds_set}
use Rattle.filled_patterns.proofs.standing.taken.Goals as goal

pub returns-in_err-part-in-Some-clause-left : goal.returns-in_err-part-in-Some-clause-left
returns-in_err-part-in-Some-clause-left c = λ bs h.
    holds_set bs c.args.bindings.now c.in-Some.at c.index-bindings-at.result c.take_part.new.binding c.index-bindings-at.is (λ b k. c.take_part.ensures.left b (subst (HoldsOne b) c.index-bindings-at.is k)) h

pub returns-in-None-clause-found : goal.returns-in-None-clause-found
returns-in-None-clause-found c = λ bs h.
    let m : MetaOf ℕ = meta_of c.args.meta.now in
    bound_nowhere m bs c.args.bindings.now h (numbered_place (is_of m) c.args.bindings.now None (sym c.in-None.is ∙ c.binding_number.ensures))

pub returns-in_ok-part-in-Some-clause-found : goal.returns-in_ok-part-in-Some-clause-found
returns-in_ok-part-in-Some-clause-found c = λ bs h.
    let m : MetaOf ℕ = meta_of c.args.meta.now in
    let d : BindingOf ℕ = record { meta = m; bound = a_part (var m.name) } in
    let n = numbered_place (is_of m) c.args.bindings.now (Some c.in-Some.at) (sym c.in-Some.is ∙ c.binding_number.ensures) in
    let there = bound_there m d bs c.args.bindings.now c.in-Some.at c.index-bindings-at.result h n.0 n.1 c.index-bindings-at.is in
    c.in_ok-part-in-Some.ensures.part (get_or bs c.in-Some.at d) (subst (HoldsOne (get_or bs c.in-Some.at d)) c.index-bindings-at.is there.0) ∙ there.1

pub returns-in_ok-part-in-Some-clause-left : goal.returns-in_ok-part-in-Some-clause-left
returns-in_ok-part-in-Some-clause-left c = λ bs h.
    holds_set bs c.args.bindings.now c.in-Some.at c.index-bindings-at.result c.take_part.new.binding c.index-bindings-at.is (λ b k. c.take_part.ensures.left b (subst (HoldsOne b) c.index-bindings-at.is k)) h
