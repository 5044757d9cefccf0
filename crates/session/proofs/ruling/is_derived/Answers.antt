use Rattle.std.proofs.Common.{sym, ap, ◌∙◌}
use Rattle.std.specs.Prelude.{is_none}
use Rattle.derivations.specs.Stuck.{stuck_step}
use Rattle.derivations.specs.declared.steps.Derivation.{Derivation}
use Rattle.session.proofs.RuledSteps.{derived-told}
use Rattle.session.proofs.ruling.is_derived.Goals as goal

pub returns-in-Yes-clause-exact : goal.returns-in-Yes-clause-exact
returns-in-Yes-clause-exact c =
    sym (ap (λ (d : Derivation). is_none (stuck_step d)) c.in-Yes.is)
    ∙ derived-told c.args.image.now.names c.names_mut.result.now c.args.request.now c.in_ok-derivation.field-0 c.names_mut.ensures.value c.in_ok-derivation.ensures.exact

pub returns-in-Stuck-clause-exact : goal.returns-in-Stuck-clause-exact
returns-in-Stuck-clause-exact c =
    sym (ap (λ (d : Derivation). is_none (stuck_step d)) c.in-Stuck.is)
    ∙ derived-told c.args.image.now.names c.names_mut.result.now c.args.request.now c.in_ok-derivation.field-0 c.names_mut.ensures.value c.in_ok-derivation.ensures.exact
