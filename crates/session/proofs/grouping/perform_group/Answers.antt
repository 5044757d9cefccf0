use Rattle.std.proofs.Common.{◌<◌, ◌+◌, ℕ, length, Ok, Err, refl, sym, ap, subst, arith}
use Rattle.proposals.specs.Proposed.{IsNamed, asked_over}
use Rattle.proposals.specs.declared.proposal.Asked.{Asked}
use Rattle.session.specs.Refused.{group_told}
use Rattle.session.specs.Making.{IsMadeOf}
use Rattle.session.specs.Grouping.{after_nth}
use Rattle.session.proofs.SelfGrown.{self-grown}
use Rattle.session.proofs.Groups.{amid-none, known-next, named-next, amid-next, amid-refused, amid-all}
use Rattle.session.proofs.grouping.perform_group.Goals as goal

pub perform_nth-requires-clause-under_way : goal.perform_nth-requires-clause-under_way
perform_nth-requires-clause-under_way g c = (c.requires.under_way.0, c.loop-proposal.invariant.amid.under_way c.requires.under_way.0 c.requires.under_way.1)

pub perform_nth-requires-clause-self_known : goal.perform_nth-requires-clause-self_known
perform_nth-requires-clause-self_known g c = self-grown c.args.image.now.names c.loop-proposal.image.names c.requires.self_known c.loop-proposal.invariant.amid.names

pub perform_nth-requires-clause-named : goal.perform_nth-requires-clause-named
perform_nth-requires-clause-named g c =
    let s = c.args.image.now in
    let l = c.loop-proposal in
    let h : l.proposal-index < length c.args.proposals.now = omega arith in
    subst (λ (a : Asked). IsNamed (length l.image.names) a) (sym c.asked-asked.ensures.asked) (
    named-next s c.args.index.now c.args.done.now c.args.proposals.now l.proposal-index c.proposal-item.result h c.proposal-item.is l.image l.index l.done l.invariant.amid l.invariant.known c.asked-asked.ensures.named)

pub loop-proposal-init : goal.loop-proposal-init
loop-proposal-init g c = record { counted = refl; known = c.requires.known; amid = amid-none c.args.image.now c.args.index.now c.args.done.now c.args.proposals.now }

pub returns-in-Err : goal.returns-in-Err
returns-in-Err g c =
    let s = c.args.image.now in
    let l = c.loop-proposal in
    let h : l.proposal-index < length c.args.proposals.now = omega arith in
    let new = c.perform_nth.new in
    amid-refused s c.args.index.now c.args.done.now c.args.proposals.now l.proposal-index c.proposal-item.result h c.proposal-item.is l.image l.index l.done l.invariant.amid l.invariant.known c.asked-asked.ensures.named
    (l.nth + 1) (ap (λ (m : ℕ). m + 1) l.invariant.counted) new.image new.index new.done c.in-Err.refusal
    (subst (λ (a : Asked). IsMadeOf l.image l.index l.done (after_nth (l.nth + 1) (asked_over l.image.names a)) new.image new.index new.done group_told (Err c.in-Err.refusal)) c.asked-asked.ensures.asked c.in-Err.ensures)

pub loop-proposal-preserved : goal.loop-proposal-preserved
loop-proposal-preserved g c =
    let s = c.args.image.now in
    let l = c.loop-proposal in
    let h : l.proposal-index < length c.args.proposals.now = omega arith in
    let new = c.perform_nth.new in
    record {
      counted = ap (λ (m : ℕ). m + 1) l.invariant.counted;
      known = known-next s c.args.index.now c.args.done.now c.args.proposals.now l.proposal-index c.proposal-item.result h c.proposal-item.is (length s.names) l.invariant.known;
      amid = amid-next s c.args.index.now c.args.done.now c.args.proposals.now l.proposal-index c.proposal-item.result h c.proposal-item.is l.image l.index l.done l.invariant.amid l.invariant.known c.asked-asked.ensures.named
          (l.nth + 1) (ap (λ (m : ℕ). m + 1) l.invariant.counted) new.image new.index new.done
          (subst (λ (a : Asked). IsMadeOf l.image l.index l.done (after_nth (l.nth + 1) (asked_over l.image.names a)) new.image new.index new.done group_told (Ok tt)) c.asked-asked.ensures.asked c.in_default.ensures);
    }

pub returns : goal.returns
returns g c =
    let l = c.loop-proposal in
    amid-all c.args.image.now c.args.index.now c.args.done.now c.args.proposals.now l.proposal-index l.image l.index l.done (omega arith) l.invariant.amid
