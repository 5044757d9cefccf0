use Rattle.std.proofs.Common.{None, refl, sym, subst}
use Rattle.std.proofs.lemmas.Result.{IfOk-weaker}
use Rattle.session.specs.History.{history_of}
use Rattle.commands.specs.Views.{IsKnownRequest}
use Rattle.commands.specs.declared.command.Request.{Request}
use Rattle.script_lang.specs.Shown.{line_in, IsKnownLine}
use Rattle.script_lang.specs.declared.asked.ScriptLine.{ScriptLine}
use Rattle.script_lang.specs.declared.asked.ScriptLine.TheVariants as script_line
use Rattle.certificates.specs.Asked.{command_in}
use Rattle.explained_scripts.specs.Shown.{Shows}
use Rattle.explained_scripts.proofs.Showing.{shows-rule}
use Rattle.explained_scripts.proofs.explain.line_hindered.Goals as goal

pub action_hindered-requires-clause-known : goal.action_hindered-requires-clause-known
action_hindered-requires-clause-known g c =
    subst (IsKnownRequest c.args.image.now.names) c.in-Request-Perform.field-0-is (subst (IsKnownLine c.args.image.now.names) c.in-Request-Perform.is c.requires.known)

pub rule_lines-requires-clause-known : goal.rule_lines-requires-clause-known
rule_lines-requires-clause-known g c = subst (IsKnownLine c.args.image.now.names) c.in-Rule.is c.requires.known

pub returns-in-Request-Perform : goal.returns-in-Request-Perform
returns-in-Request-Perform g c =
    let s = c.args.image.now in
    IfOk-weaker c.action_hindered.result _ _
    (λ shown shows. subst (λ (l : ScriptLine). Shows (history_of s c.args.session.now) (line_in s.names l) shown) (sym c.in-Request-Perform.is)
    (subst (λ (r : Request). Shows (history_of s c.args.session.now) (line_in s.names (script_line.Request r)) shown) (sym c.in-Request-Perform.field-0-is) shows))
    c.action_hindered.ensures

pub returns-in_ok-lines-in-Rule : goal.returns-in_ok-lines-in-Rule
returns-in_ok-lines-in-Rule g c =
    let s = c.args.image.now in
    subst (λ (l : ScriptLine). Shows (history_of s c.args.session.now) (line_in s.names l) (record { step = None; lines = c.in_ok-lines-in-Rule.lines })) (sym c.in-Rule.is)
    (shows-rule (history_of s c.args.session.now) (command_in s.names c.in-Rule.request) _ refl c.in_ok-lines-in-Rule.ensures)
