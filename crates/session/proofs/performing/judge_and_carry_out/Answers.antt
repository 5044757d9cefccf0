use Rattle.std.proofs.Common.{◌∷◌, [], option_map, refl, sym, ap, subst, ◌∙◌}
use Rattle.std.proofs.lemmas.Result.{err_from_is_err_and}
use Rattle.rb_base.specs.Names.{name_at}
use Rattle.class_table.specs.Slots.{Slots}
use Rattle.command_numbers.specs.MappedCommands.{map_command}
use Rattle.commands.specs.Views.{command_of, condition_of}
use Rattle.wider_slots.specs.Wider.{Wider}
use Rattle.session.specs.Log.{DoneCommand}
use Rattle.session.proofs.Judging.{refused-texts}
use Rattle.session.proofs.Planned.{carried-planned}
use Rattle.session.proofs.UnderWay.{carried-false, carried-wanting}
use Rattle.session.proofs.performing.judge_and_carry_out.Goals as goal

pub returns-in-Some : goal.returns-in-Some
returns-in-Some g c =
    let s = c.args.image.now in
    let command = c.args.command.now in
    carried-false s c.args.index.now c.args.done.now (map_command (name_at s.names) (command_of command)) c.in-Some.condition
    (refused-texts s command c.requires.under_way.1.orderly c.requires.self_known c.requires.known c.all_verdicts_by_numbers.ensures.refused (condition_of c.in-Some.condition)
    (sym (ap (option_map condition_of) (sym c.in-Some.is) ∙ c.in_ok-condition.ensures.first)))

pub returns-in_err-planned : goal.returns-in_err-planned
returns-in_err-planned g c =
    let s = c.args.image.now in
    let p = err_from_is_err_and c.from_residual-in_err-planned.result c.from_residual-in_err-planned.ensures.1 in
    rw (p.1, p.2) (
    carried-wanting s c.plan.new.image c.args.index.now c.args.index.now c.args.done.now c.args.done.now (map_command (name_at s.names) (command_of c.args.command.now) ∷ [])
    c.in_err-planned.ensures.wider c.in_err-planned.ensures.names refl refl)

pub returns-in_err-carry_out : goal.returns-in_err-carry_out
returns-in_err-carry_out g c =
    let s = c.args.image.now in
    let p = err_from_is_err_and c.from_residual-in_err-carry_out.result c.from_residual-in_err-carry_out.ensures.1 in
    let same = c.in_err-carry_out.ensures in
    let made = c.in_ok-planned.ensures in
    rw (p.1, p.2) (
    carried-wanting s c.carry_out.new.image c.args.index.now c.carry_out.new.index c.args.done.now c.carry_out.new.done (map_command (name_at s.names) (command_of c.args.command.now) ∷ [])
    (subst (Wider s) (sym same.same_image) made.wider) (ap (λ (z : Slots). z.names) same.same_image ∙ made.names) same.same_index same.same_done)

pub returns : goal.returns
returns g c =
    let s = c.args.image.now in
    let made = c.in_ok-carry_out.ensures in
    let k : DoneCommand = record { changes = c.in_ok-planned.planned.changes; renames = c.renames_of-renames.result } in
    carried-planned c.all_verdicts_by_numbers.ensures.accepted c.requires.under_way.0 s c.plan.new.image c.carry_out.new.image c.args.index.now c.carry_out.new.index c.args.done.now c.carry_out.new.done c.args.command.now k
    c.in_ok-planned.planned.touched.items c.requires.under_way.1 c.requires.self_known c.requires.known c.in_ok-planned.ensures.wider c.in_ok-planned.ensures.names (sym c.in_ok-condition.ensures.first ∙ ap (option_map condition_of) c.in_default.is) c.in_ok-planned.ensures.plan
    c.renames_of-renames.ensures.known c.renames_of-renames.ensures.renaming made.image made.done made.index
