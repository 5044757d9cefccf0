use Rattle.std.proofs.Common.{◌≡◌, List, [], ◌∷◌, ◌++◌, Option, Some, None, false, refl, sym, ap, subst, ◌∙◌}
use Rattle.std.specs.Prelude.{is_some, not}
use Rattle.rb_base.specs.Names.{number_in, interned}
use Rattle.event_trees.specs.Naming.{Grows}
use Rattle.event_trees.proofs.Known.{Grows-none}
use Rattle.certified_model.specs.Marks.{Text}
use Rattle.derivations.specs.Signs.{sign_of}
use Rattle.derivations.proofs.Learned.{grown}
use Rattle.derivations.proofs.NamedOnce.{name_first, name_more}
use Rattle.derivations.proofs.Places.{is_new}
use Rattle.derivations.proofs.naming.add_name.Goals as goal

none_is : {A : Type 0} (o : Option A) → is_some o ≡ false → o ≡ None
none_is None e = refl
none_is (Some x) e = let bad : ⊥ = cc in absurd bad

pub loop-tries-init : goal.loop-tries-init
loop-tries-init c = record { text = name_first (sign_of c.args.mark.now) c.in_ok-text.text c.in_ok-text.ensures; names = refl }

pub loop-tries-preserved : goal.loop-tries-preserved
loop-tries-preserved c =
    let l = c.loop-tries in
    record { text = name_more (sign_of c.args.mark.now) l.text c.push_slice.new.self l.invariant.text c.in_ok-push_slice.ensures.ok; names = l.invariant.names }

pub returns-in_err-push_slice-clause-grows : goal.returns-in_err-push_slice-clause-grows
returns-in_err-push_slice-clause-grows c = subst (Grows c.args.names.now) (sym c.loop-tries.invariant.names) (Grows-none c.args.names.now)

pub returns-in_err-intern-clause-grows : goal.returns-in_err-intern-clause-grows
returns-in_err-intern-clause-grows c = subst (Grows c.args.names.now) (sym (c.in_err-intern.ensures.err ∙ c.loop-tries.invariant.names)) (Grows-none c.args.names.now)

pub returns-then-is_none-clause-grows : goal.returns-then-is_none-clause-grows
returns-then-is_none-clause-grows c = subst (λ (ns : List Text). Grows ns c.intern.new.self) c.loop-tries.invariant.names (grown c.loop-tries.names c.intern.new.self _ c.in_ok-intern.ensures.ok)

pub returns-then-is_none-clause-added : goal.returns-then-is_none-clause-added
returns-then-is_none-clause-added c =
    let l = c.loop-tries in
    let t : Text = c.push_slice.new.self in
    let none : number_in l.names t ≡ None = ap (number_in l.names) (sym c.as_slice.ensures) ∙ sym c.find.ensures ∙ none_is c.find.result (c.is_none.ensures ∙ ap not c.if-is_none.true) in
    (t, name_more (sign_of c.args.mark.now) l.text t l.invariant.text c.in_ok-push_slice.ensures.ok, c.in_ok-intern.ensures.ok ∙ ap (interned l.names) c.as_slice-then-is_none.ensures ∙ is_new l.names t none ∙ ap (λ (ns : List Text). ns ++ t ∷ []) l.invariant.names)

pub returns-clause-grows : goal.returns-clause-grows
returns-clause-grows c = subst (Grows c.args.names.now) (sym c.loop-tries.invariant.names) (Grows-none c.args.names.now)
