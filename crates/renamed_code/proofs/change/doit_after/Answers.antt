use Rattle.std.proofs.Common.{◌≡◌, false, sym, ◌∙◌, rules}
use Rattle.renamed_code.proofs.Made.{doit-made_known, doit-unused, doit-none, doit-some}
use Rattle.renamed_code.proofs.change.doit_after.Goals as goal

pub returns-then-not-may-clause-change : goal.returns-then-not-may-clause-change
returns-then-not-may-clause-change g c =
    let none : c.in_ok-may.may ≡ false = search rules in
    doit-unused c.args.image c.args.to c.args.what c.args.number c.in-Some.body c.in-Some.ensures.body (sym c.in_ok-may.ensures ∙ none)

pub returns-in-None-clause-change : goal.returns-in-None-clause-change
returns-in-None-clause-change g c =
    doit-none c.args.image c.args.to c.args.what c.args.number c.in-Some.body c.in-Some.ensures.body
    c.in_ok-renamed_body.field-0 c.in-None.is c.in_ok-renamed_body.ensures.none

pub doit_rec-requires : goal.doit_rec-requires
doit_rec-requires g c =
    doit-made_known c.args.image c.args.to c.args.what c.args.number c.in-Some.body c.in-Some.ensures.body
    c.in_ok-renamed_body.field-0 c.in-Some-2.after c.requires.orderly c.requires.known c.in-Some-2.is c.in_ok-renamed_body.ensures.body

pub returns-in_ok-doit_rec-in-Some-2-clause-change : goal.returns-in_ok-doit_rec-in-Some-2-clause-change
returns-in_ok-doit_rec-in-Some-2-clause-change g c =
    doit-some c.args.image c.args.to c.args.what c.args.number c.in-Some.body c.in-Some.ensures.body
    c.in_ok-renamed_body.field-0 c.in-Some-2.after c.in_ok-doit_rec-in-Some-2.field-0 c.in-Some-2.is c.in_ok-renamed_body.ensures.body c.in_ok-renamed_body.ensures.found
    c.in_ok-doit_rec-in-Some-2.ensures
