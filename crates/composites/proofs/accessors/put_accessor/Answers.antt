use Rattle.std.proofs.Common.{◌≡◌, [], ◌∷◌, ◌++◌, false, map, ap, ◌∙◌, rules}
use Rattle.std.proofs.lemmas.List.{map-append}
use Rattle.std.proofs.lemmas.Result.{on_ok_weaker}
use Rattle.st_tree.specs.View.{method_of}
use Rattle.command_model.specs.Commands.{CommandOf}
use Rattle.command_model.specs.Numbers.{number_writing}
use Rattle.session_model.specs.Steps.{accessor}
use Rattle.commands.specs.Views.{command_of}
use Rattle.commands.specs.declared.command.Command.{Command}
use Rattle.commands.specs.declared.command.Command.TheVariants as kinds
use Rattle.composites.proofs.accessors.put_accessor.Goals as goal

pub returns : goal.returns
returns c =
    let old = c.args.commands.now.items in
    let put : Command = kinds.AddMethod (record { class = c.args.class; meta = false; protocol = c.in_ok-from_slice.field-0; source = c.format_method.new.out; tree = c.args.tree }) in
    let made = accessor (number_writing c.args.image.now.names) c.args.class (method_of c.args.tree) in
    let same : command_of put ≡ made = search rules in
    on_ok_weaker {P = c.put.new.commands.items ≡ old ++ put ∷ []} {Q = map command_of c.put.new.commands.items ≡ map command_of old ++ made ∷ []} c.put.result
    (λ (e : c.put.new.commands.items ≡ old ++ put ∷ []). ap (map command_of) e ∙ map-append command_of old (put ∷ []) ∙ ap (λ (k : CommandOf _). map command_of old ++ k ∷ []) same) c.put.ensures
