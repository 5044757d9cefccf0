use Rattle.std.proofs.Common.{◌≡◌, ◌≤◌, length, drop}
use Rattle.std.specs.List.{AllByRecursion}
use Rattle.session.proofs.Groups.{IsAmid}
use Rattle.session.proofs.grouping.perform_group.Given as goal

abbrev pub invariant-loop-proposal : goal.invariant-loop-proposal
invariant-loop-proposal g l = record {
  counted : l.nth ≡ l.proposal-index;
  known : AllByRecursion (λ p. p.names ≤ length l.initial.image.names) (drop l.proposal-index l.proposals);
  amid : IsAmid l.initial.image l.initial.index l.initial.done l.proposals l.proposal-index l.image l.index l.done;
}
