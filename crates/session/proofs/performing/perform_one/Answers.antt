use Rattle.std.proofs.Common.{◌<◌, length, sym, subst}
use Rattle.class_table.specs.Slots.{Slots}
use Rattle.command_numbers.specs.CommandNames.{CommandNames}
use Rattle.commands.specs.Views.{command_of, HasSelf}
use Rattle.session.proofs.performing.perform_one.Goals as goal

pub judge_and_carry_out-requires-clause-known : goal.judge_and_carry_out-requires-clause-known
judge_and_carry_out-requires-clause-known g c =
    subst (λ (s : Slots). CommandNames (λ n. n < length s.names) (command_of c.args.command.now)) (sym c.make_ready.ensures) c.requires.known

pub judge_and_carry_out-requires-clause-self_known : goal.judge_and_carry_out-requires-clause-self_known
judge_and_carry_out-requires-clause-self_known g c = subst (λ (s : Slots). HasSelf s.names) (sym c.make_ready.ensures) c.requires.self_known
