use Rattle.std.proofs.Common.{◌≡◌, ℕ, ◌-◌, ◌++◌, [], List, Option, option_copied, nat_eq, refl, sym, ap, subst, ◌∙◌, arith, zero, suc, ◌≤◌, ◌<◌, Some, None}
use Rattle.std.specs.List.{flat_map}
use Rattle.image_model.specs.Image.{ClassOf}
use Rattle.image_model.specs.Upwards.{upwards}
use Rattle.image_model.specs.Chain.{superclass_of}
use Rattle.image_model.specs.Means as means
use Rattle.image_model.proofs.UpwardsLemmas.{upwards-none}
use Rattle.file_model.specs.Hierarchy.{chain_variables}
use Rattle.image_draft.specs.Kinds.{kind_of}
use Rattle.image_draft.specs.NameSets.{has, comes_again}
use Rattle.image_draft.proofs.NameTests.{IsNotedFrom, noted_more, noted_once, noted_names, noted_twice, was_new, was_there}
use Rattle.image_draft.proofs.Steps.{flat-step}
use Rattle.image_draft.proofs.hierarchy.chain_names.Goals as goal

-- nothing is left above no class, or once nothing more is looked at
none_left : {X : Type 0} (own : X → List ℕ) (up : X → Option X) (left : ℕ) (o : Option X) → o ≡ None → flat_map own (upwards up left o) ≡ []
none_left own up left o e = ap (λ q. flat_map own (upwards up left q)) e ∙ ap (flat_map own) (upwards-none up left)

end_reached : {X : Type 0} (own : X → List ℕ) (up : X → Option X) (left : ℕ) (o : Option X) → left ≤ 0 → flat_map own (upwards up left o) ≡ []
end_reached own up zero o h = refl
end_reached own up (suc left) o h = absurd (omega (arith, h))

-- the variables of a class and those above it
more_left : {X : Type 0} (own : X → List ℕ) (up : X → Option X) (left : ℕ) (o above : Option X) (x : X) (names : List ℕ) → 0 < left → o ≡ Some x → names ≡ own x → above ≡ up x
    → flat_map own (upwards up left o) ≡ names ++ flat_map own (upwards up (left - 1) above)
more_left own up left o above x names h is its next =
    ap (λ q. flat_map own (upwards up left q)) is
    ∙ sym (flat-step own up left x [] h)
    ∙ (λ i. sym its i ++ flat_map own (upwards up (left - 1) (sym next i)))

pub returns-in_default-clause-once : goal.returns-in_default-clause-once
returns-in_default-clause-once c =
    let own : ClassOf ℕ → List ℕ = means.variables (kind_of c.args.kind) in
    let up : ClassOf ℕ → Option (ClassOf ℕ) = superclass_of nat_eq c.args.classes.now in
    noted_once (chain_variables nat_eq c.args.classes.now (kind_of c.args.kind) c.args.class.now) (flat_map own (upwards up c.loop-left.left (option_copied c.loop-left.at))) c.loop-left.names c.loop-left.invariant
    (none_left own up c.loop-left.left (option_copied c.loop-left.at) (ap option_copied c.in_default.is))

pub returns-in_default-clause-names : goal.returns-in_default-clause-names
returns-in_default-clause-names c =
    let own : ClassOf ℕ → List ℕ = means.variables (kind_of c.args.kind) in
    let up : ClassOf ℕ → Option (ClassOf ℕ) = superclass_of nat_eq c.args.classes.now in
    noted_names (chain_variables nat_eq c.args.classes.now (kind_of c.args.kind) c.args.class.now) (flat_map own (upwards up c.loop-left.left (option_copied c.loop-left.at))) c.loop-left.names c.loop-left.invariant
    (none_left own up c.loop-left.left (option_copied c.loop-left.at) (ap option_copied c.in_default.is))

pub returns-then-not-branch-clause-twice : goal.returns-then-not-branch-clause-twice
returns-then-not-branch-clause-twice c =
    let own : ClassOf ℕ → List ℕ = means.variables (kind_of c.args.kind) in
    let up : ClassOf ℕ → Option (ClassOf ℕ) = superclass_of nat_eq c.args.classes.now in
    let named : List ℕ = chain_variables nat_eq c.args.classes.now (kind_of c.args.kind) c.args.class.now in
    noted_twice named (flat_map own (upwards up (c.loop-left.left - 1) (up c.in-Some.class.now))) c.variables.result.now c.loop-left.names
    (subst (IsNotedFrom (has []) named c.loop-left.names)
    (more_left own up c.loop-left.left (option_copied c.loop-left.at) (up c.in-Some.class.now) c.in-Some.class.now c.variables.result.now c.loop-left-test.true (ap option_copied c.in-Some.is) c.variables.ensures refl) c.loop-left.invariant)
    (was_there (comes_again (has c.loop-left.names) c.variables.result.now) (sym c.in_ok-note_all.ensures.fresh ∙ c.if-not-branch.true))

pub loop-left-preserved : goal.loop-left-preserved
loop-left-preserved c =
    let own : ClassOf ℕ → List ℕ = means.variables (kind_of c.args.kind) in
    let up : ClassOf ℕ → Option (ClassOf ℕ) = superclass_of nat_eq c.args.classes.now in
    let named : List ℕ = chain_variables nat_eq c.args.classes.now (kind_of c.args.kind) c.args.class.now in
    noted_more (has []) named (flat_map own (upwards up (c.loop-left.left - 1) (option_copied c.superclass_of-at.result))) c.variables.result.now c.loop-left.names c.note_all.new.set
    (subst (IsNotedFrom (has []) named c.loop-left.names)
    (more_left own up c.loop-left.left (option_copied c.loop-left.at) (option_copied c.superclass_of-at.result) c.in-Some.class.now c.variables.result.now c.loop-left-test.true (ap option_copied c.in-Some.is) c.variables.ensures c.superclass_of-at.ensures) c.loop-left.invariant)
    (was_new (comes_again (has c.loop-left.names) c.variables.result.now) (sym c.in_ok-note_all.ensures.fresh ∙ c.if-not-branch.false)) (c.in_ok-note_all.ensures.noted c.if-not-branch.false)

pub returns-clause-once : goal.returns-clause-once
returns-clause-once c =
    let own : ClassOf ℕ → List ℕ = means.variables (kind_of c.args.kind) in
    let up : ClassOf ℕ → Option (ClassOf ℕ) = superclass_of nat_eq c.args.classes.now in
    noted_once (chain_variables nat_eq c.args.classes.now (kind_of c.args.kind) c.args.class.now) (flat_map own (upwards up c.loop-left.left (option_copied c.loop-left.at))) c.loop-left.names c.loop-left.invariant
    (end_reached own up c.loop-left.left (option_copied c.loop-left.at) c.loop-left-test.false)

pub returns-clause-names : goal.returns-clause-names
returns-clause-names c =
    let own : ClassOf ℕ → List ℕ = means.variables (kind_of c.args.kind) in
    let up : ClassOf ℕ → Option (ClassOf ℕ) = superclass_of nat_eq c.args.classes.now in
    noted_names (chain_variables nat_eq c.args.classes.now (kind_of c.args.kind) c.args.class.now) (flat_map own (upwards up c.loop-left.left (option_copied c.loop-left.at))) c.loop-left.names c.loop-left.invariant
    (end_reached own up c.loop-left.left (option_copied c.loop-left.at) c.loop-left-test.false)
