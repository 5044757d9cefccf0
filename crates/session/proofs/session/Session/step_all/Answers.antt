use Rattle.std.proofs.Common.{◌≡◌, ℕ, Some, length, map, Ok, Err, sym, subst}
use Rattle.std.specs.Prelude.{IfErr, OnOk, OnErr}
use Rattle.std.proofs.lemmas.Bool.{eqb-true}
use Rattle.std.proofs.lemmas.Result.{err_from_is_err_and}
use Rattle.event_trees.proofs.Known.{Grows-none}
use Rattle.rule_model.specs.RuleCommands.{Reason}
use Rattle.ruled_model.specs.RuledScripts.{History}
use Rattle.wider_slots.proofs.StepLemmas.{wider-same}
use Rattle.session.specs.History.{history_of}
use Rattle.session.specs.Refused.{group_told}
use Rattle.session.specs.Grouping.{grouped}
use Rattle.proposals.specs.Proposed.{asked_in}
use Rattle.matched_histories.specs.MatchedHistories.{IsMatchedHistory}
use Rattle.session.proofs.Groups.{grouped-none}
use Rattle.session.proofs.MatchedSteps.{matched-after, group-matched}
use Rattle.session.proofs.session.Session.step_all.Goals as goal

pub returns-then-is_empty-clause-names : goal.returns-then-is_empty-clause-names
returns-then-is_empty-clause-names g c = Grows-none c.args.image.now.names

pub returns-then-is_empty-clause-done : goal.returns-then-is_empty-clause-done
returns-then-is_empty-clause-done g c =
    grouped-none c.args.image.now.names (history_of c.args.image.now c.args.self.now) c.args.proposals.now (eqb-true (length c.args.proposals.now) 0 (sym c.if-is_empty.ensures))

pub returns-in_err-renew-clause-names : goal.returns-in_err-renew-clause-names
returns-in_err-renew-clause-names g c = Grows-none c.args.image.now.names

pub returns-in_err-renew-clause-room : goal.returns-in_err-renew-clause-room
returns-in_err-renew-clause-room g c =
    let p = err_from_is_err_and c.from_residual.result c.from_residual.ensures.1 in
    rw p.1 (wider-same c.args.image.now c.requires.log.closed)

pub returns-clause-done : goal.returns-clause-done
returns-clause-done g c =
    let s = c.args.image.now in
    let asked = map (asked_in s.names) c.args.proposals.now in
    subst (λ (h : History). OnOk c.perform_group.result (grouped h asked ≡ Ok (history_of c.perform_group.new.image c.perform_group.new.self))) c.renew.ensures.same c.perform_group.ensures.done

pub returns-clause-same : goal.returns-clause-same
returns-clause-same g c =
    subst (λ (h : History). OnErr c.perform_group.result (history_of c.perform_group.new.image c.perform_group.new.self ≡ h)) c.renew.ensures.same c.perform_group.ensures.same

pub returns-clause-refused : goal.returns-clause-refused
returns-clause-refused g c =
    let s = c.args.image.now in
    let asked = map (asked_in s.names) c.args.proposals.now in
    subst (λ (h : History). IfErr c.perform_group.result (λ e. (q : ℕ × Reason) → group_told c.perform_group.new.image.names e ≡ Some q → grouped h asked ≡ Err q)) c.renew.ensures.same c.perform_group.ensures.refused

pub returns-clause-matched : goal.returns-clause-matched
returns-clause-matched g c = λ first spelled all.
    let s = c.args.image.now in
    let before = history_of s c.renew.new.self in
    let after = history_of c.perform_group.new.image c.perform_group.new.self in
    let asked = map (asked_in s.names) c.args.proposals.now in
    let laws = c.law_matched_histories.ensures in
    matched-after first (grouped before asked) before after c.perform_group.result
    (λ done is. group-matched first (laws.action first) (laws.none first) (laws.both first) (laws.appended first) before after asked spelled done is) c.perform_group.ensures.done c.perform_group.ensures.same
    (subst (IsMatchedHistory first) (sym c.renew.ensures.same) all)
