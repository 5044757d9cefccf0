use Rattle.std.proofs.Common.{◌≡◌, List, ℕ, Ok, Err, refl, sym, ap, subst, ◌∙◌, arith}
use Rattle.std.proofs.lemmas.List.{take_all}
use Rattle.script_model.specs.Commands.{BadArgument}
use Rattle.team_core.specs.Events as model
use Rattle.log_model.specs.Events.{IsPropose, ActSays, Proposes, ProposesWrong}
use Rattle.log_model.specs.Events as log
use Rattle.script_lang.specs.Shown.{lines_in, fault_shown}
use Rattle.proposals.specs.Proposed.{IsNamed, asked_over, asked_in}
use Rattle.log_lang.specs.Shown.{IsKnownProposal}
use Rattle.log_lang.proofs.Telling.{told-cause, told-elsewhere}
use Rattle.log_lang.proofs.log.proposal.Goals as goal

pub returns-in-Some-clause-said : goal.returns-in-Some-clause-said
returns-in-Some-clause-said c = λ word is.
    let names = c.parse_script.new.names in
    let asked = c.in-Some.asked in
    let all : asked_in names (record { asked = asked; names = c.len.result }) ≡ asked_over names asked = ap (λ (ns : List (List ℕ)). asked_over ns asked) (take_all c.len.result names (omega (arith, c.len.ensures.len))) in
    let same : asked_in names c.new.result ≡ asked_over names asked = ap (asked_in names) c.new.ensures ∙ all in
    subst (λ (a : log.Act). ActSays word c.args.text.now (Ok a)) (ap model.Propose (sym same))
    (Proposes (lines_in names c.in-Ok.lines.items) is c.in-Ok.ensures.ok (sym (c.in-Some.ensures.said names)))

pub new-requires : goal.new-requires
new-requires c = subst (λ (n : ℕ). IsNamed n c.in-Some.asked) (sym c.len.ensures.len) (c.in-Some.ensures.known c.parse_script.new.names c.in-Ok.ensures.known)

pub returns-in-Some-clause-known : goal.returns-in-Some-clause-known
returns-in-Some-clause-known c =
    let known = subst (λ (n : ℕ). IsNamed n c.in-Some.asked) (sym c.len.ensures.len) (c.in-Some.ensures.known c.parse_script.new.names c.in-Ok.ensures.known) in
    subst (IsKnownProposal c.parse_script.new.names) (sym c.new.ensures) (omega (arith, c.len.ensures.len), known)

pub returns-in-None-clause-fault : goal.returns-in-None-clause-fault
returns-in-None-clause-fault c = λ n cause e.
    told-cause c.args.line n BadArgument cause (λ x. (word : List ℕ) → IsPropose word → ActSays word c.args.text.now (Err x))
    (λ word is. Proposes (lines_in c.parse_script.new.names c.in-Ok.lines.items) is c.in-Ok.ensures.ok (sym (c.in-None.ensures.said c.parse_script.new.names))) e

pub returns-in-Err-clause-fault : goal.returns-in-Err-clause-fault
returns-in-Err-clause-fault c = λ n cause e.
    let told = told-elsewhere c.args.line n cause (fault_shown c.in-Err.fault) (fault_shown c.at_line.result) c.at_line.ensures e in
    (told.0, λ word is. ProposesWrong told.1 cause is (c.in-Err.ensures.fault told.1 cause told.2) refl)
