use Rattle.std.proofs.Common.{◌≡◌, ℕ, Bool, true, false, List, Option, IfOk, IfNone, IfSome, nat_eq, sym, ap, subst, ◌∙◌, option_copied}
use Rattle.std.specs.List.{list_any}
use Rattle.file_model.specs.Hierarchy.{has_repeat, chain_variables}
use Rattle.image_draft.specs.Kinds.{kind_of}
use Rattle.image_draft.specs.NameSets.{has}
use Rattle.image_draft.specs.declared.name_set.NameSet.{NameSet}
use Rattle.image_draft.proofs.Parts.{repeats_twice, none_twice, passed_twice}
use Rattle.image_draft.proofs.hierarchy.stands_twice.Goals as goal

pub returns-in_default : goal.returns-in_default
returns-in_default c = none_twice c.args.classes.now (kind_of c.args.kind) c.args.name c.requires.order (sym c.find.ensures ∙ ap option_copied c.in_default.is)

pub returns-in_default-2 : goal.returns-in_default-2
returns-in_default-2 c =
    let named : List ℕ = chain_variables nat_eq c.args.classes.now (kind_of c.args.kind) c.in-Some.class.now in
    repeats_twice c.args.classes.now (kind_of c.args.kind) c.args.name c.in-Some.class.now c.requires.order (sym c.find.ensures ∙ ap option_copied c.in-Some.is)
    (subst (λ (o : Option NameSet). IfNone o (has_repeat nat_eq named ≡ true)) c.in_default-2.is c.in_ok-above.ensures.twice)

pub returns : goal.returns
returns c =
    let named : List ℕ = chain_variables nat_eq c.args.classes.now (kind_of c.args.kind) c.in-Some.class.now in
    subst (λ (b : Bool). IfOk c.meets_below.result (λ found. found ≡ b))
    (passed_twice c.args.classes.now c.from_class.result.now (kind_of c.args.kind) c.args.name c.in-Some.class.now (has c.in-Some-2.above) c.requires.order c.requires.parts (sym c.find.ensures ∙ ap option_copied c.in-Some.is)
    (subst (λ (o : Option NameSet). IfSome o (λ _. has_repeat nat_eq named ≡ false)) c.in-Some-2.is c.in_ok-above.ensures.once)
    (subst (λ (o : Option NameSet). IfSome o (λ set. (m : ℕ) → has set m ≡ list_any (nat_eq m) named)) c.in-Some-2.is c.in_ok-above.ensures.names) c.from_class.ensures)
    c.meets_below.ensures
