use Rattle.std.proofs.Common.{◌≡◌, false, sym, ◌∙◌, rules}
use Rattle.renamed_code.proofs.Made.{method-made_known, method-unused, method-none, method-some}
use Rattle.renamed_code.proofs.change.method_after.Goals as goal

pub returns-then-not-may-clause-change : goal.returns-then-not-may-clause-change
returns-then-not-may-clause-change g c =
    let none : c.in_ok-may.may ≡ false = search rules in
    method-unused c.args.image c.args.to c.args.what c.args.slot c.in-Some.info c.in-Some-open_body.tree c.in-Some.ensures c.in-Some-open_body.ensures.tree
    (sym c.in_ok-may.ensures ∙ none)

pub returns-in-None-clause-change : goal.returns-in-None-clause-change
returns-in-None-clause-change g c =
    method-none c.args.image c.args.to c.args.what c.args.slot c.in-Some.info c.in-Some-open_body.tree c.in-Some.ensures c.in-Some-open_body.ensures.tree
    c.in_ok-renamed_method.field-0 c.in-None.is c.in_ok-renamed_method.ensures.none

pub method_rec-requires : goal.method_rec-requires
method_rec-requires g c =
    method-made_known c.args.image c.args.to c.args.what c.args.slot c.in-Some.info c.in-Some-open_body.tree c.in-Some.ensures c.in-Some-open_body.ensures.tree
    c.in_ok-renamed_method.field-0 c.in-Some-2.after c.requires.orderly c.requires.known c.in-Some-2.is c.in_ok-renamed_method.ensures.method

pub returns-in_ok-method_rec-in-Some-2-clause-change : goal.returns-in_ok-method_rec-in-Some-2-clause-change
returns-in_ok-method_rec-in-Some-2-clause-change g c =
    method-some c.args.image c.args.to c.args.what c.args.slot c.in-Some.info c.in-Some-open_body.tree c.in-Some.ensures c.in-Some-open_body.ensures.tree
    c.in_ok-renamed_method.field-0 c.in-Some-2.after c.in_ok-method_rec-in-Some-2.field-0 c.in-Some-2.is c.in_ok-renamed_method.ensures.method c.in_ok-renamed_method.ensures.found
    c.in_ok-method_rec-in-Some-2.ensures
