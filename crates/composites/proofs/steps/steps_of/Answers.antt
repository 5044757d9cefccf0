use Rattle.std.proofs.Common.{◌≡◌, ◌<◌, length, map, subst, sym, ap, ◌∙◌}
use Rattle.std.specs.Prelude.{nat_eq}
use Rattle.std.specs.List.{AllByRecursion}
use Rattle.std.proofs.lemmas.Result.{IfOk-weaker}
use Rattle.std.proofs.lemmas.Simd.{map-map}
use Rattle.rb_base.specs.Names.{name_at, text_eq}
use Rattle.rename_model.specs.ClassRenamed.{canonical}
use Rattle.command_model.specs.Numbers.{number_writing}
use Rattle.command_numbers.specs.CommandNames.{CommandNames}
use Rattle.command_numbers.specs.MappedCommands.{map_command}
use Rattle.session_model.specs.Steps as model
use Rattle.commands.specs.Actions.{map_action}
use Rattle.commands.specs.Views.{action_of, command_of}
use Rattle.class_table.specs.View.{image_of, number_image}
use Rattle.composites.proofs.Lists.{all-unmapped}
use Rattle.composites.proofs.steps.steps_of.Goals as goal

pub returns-clause-commands : goal.returns-clause-commands
returns-clause-commands g c =
    let s = c.args.image.now in
    let numbers = model.steps_of nat_eq (number_image s) (number_writing s.names) (action_of c.args.action) in
    let texts = model.steps_of text_eq (image_of s) canonical (map_action (name_at s.names) (action_of c.args.action)) in
    IfOk-weaker c.commands_of.result (λ found. map command_of found.items ≡ numbers) (λ found. map (λ k. map_command (name_at s.names) (command_of k)) found.items ≡ texts)
    (λ found e. sym (map-map (map_command (name_at s.names)) command_of found.items) ∙ ap (map (map_command (name_at s.names))) e
    ∙ sym (c.actions_by_numbers.ensures.steps s.names (number_image s) (action_of c.args.action) c.requires.orderly.names_distinct c.requires.orderly.names_known c.requires.known))
    c.commands_of.ensures

pub returns-clause-known : goal.returns-clause-known
returns-clause-known g c =
    let s = c.args.image.now in
    let numbers = model.steps_of nat_eq (number_image s) (number_writing s.names) (action_of c.args.action) in
    IfOk-weaker c.commands_of.result (λ found. map command_of found.items ≡ numbers) (λ found. AllByRecursion (λ k. CommandNames (λ n. n < length s.names) (command_of k)) found.items)
    (λ found e. all-unmapped (CommandNames (λ n. n < length s.names)) command_of found.items
    (subst (AllByRecursion (CommandNames (λ n. n < length s.names))) (sym e) (c.actions_by_numbers.ensures.known s.names (number_image s) (action_of c.args.action) c.requires.orderly.names_known c.requires.known)))
    c.commands_of.ensures
