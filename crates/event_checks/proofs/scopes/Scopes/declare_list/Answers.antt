use Rattle.std.proofs.Common.{◌++◌, List, false, true, subst, sym, append_assoc}
use Rattle.std.proofs.lemmas.Result.{IfOk-weaker}
use Rattle.grammar_model.specs.Checks.{Known}
use Rattle.event_checks.specs.Lists.{declared}
use Rattle.event_checks.specs.Scopes.{known_as, IsScopes}
use Rattle.event_checks.proofs.scopes.Scopes.declare_list.Goals as goal

pub returns : goal.returns
returns c =
    let ps = known_as true (declared c.args.parameters.now) in
    let ds = known_as false (declared c.args.temporaries.now) in
    IfOk-weaker c.declare_all-2.result _ _
    (λ u h. λ ks outer s. subst (λ (ks : List Known). IsScopes c.declare_all-2.new.self ks outer) (sym (append_assoc ps ds ks)) (h (ds ++ ks) outer (c.in_ok-declare_all.ensures ks outer s)))
    c.declare_all-2.ensures
