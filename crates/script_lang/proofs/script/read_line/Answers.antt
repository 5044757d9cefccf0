use Rattle.std.proofs.Common.{◌∷◌, [], length-append, sym, ap, ◌∙◌, arith}
use Rattle.std.specs.Prelude.{length}
use Rattle.script_model.specs.Commands.{UnknownCommand, BadArgument, TooMany}
use Rattle.script_model.specs.Scripts.{IsWrong}
use Rattle.script_lang.proofs.AddedMethods.{told-cause, no-room}
use Rattle.script_lang.proofs.FirstWords.{says-in, wrong-in, unknown-in}
use Rattle.script_lang.proofs.script.read_line.Goals as goal

pub returns-in_default-clause-fault : goal.returns-in_default-clause-fault
returns-in_default-clause-fault c = λ n cause e.
    told-cause c.args.line n UnknownCommand cause (IsWrong c.args.text.now (length c.args.requests.now.items))
    (unknown-in c.args.text.now c.split_word.result.0.now c.split_word.ensures.word _ c.in_default.ensures.none) e

pub returns-in-Err-Argument-clause-fault : goal.returns-in-Err-Argument-clause-fault
returns-in-Err-Argument-clause-fault c = λ n cause e.
    told-cause c.args.line n BadArgument cause (IsWrong c.args.text.now (length c.args.requests.now.items))
    (wrong-in c.args.text.now c.split_word.result.0.now c.split_word.ensures.word _ c.split_word.result.1.now c.in-Some.command c.split_word.ensures.rest c.in-Some.ensures.some (c.in-Err-Argument.ensures.wrong c.in-Err-Argument.field-0-is)) e

pub returns-then-len-gt-COMMAND_LIMIT-clause-fault : goal.returns-then-len-gt-COMMAND_LIMIT-clause-fault
returns-then-len-gt-COMMAND_LIMIT-clause-fault c = λ n cause e.
    told-cause c.args.line n TooMany cause (IsWrong c.args.text.now (length c.args.requests.now.items))
    (no-room c.args.text.now (length c.args.requests.now.items) _
    (says-in c.args.text.now c.split_word.result.0.now c.split_word.ensures.word c.split_word.result.1.now c.in-Some.command _ c.split_word.ensures.rest c.in-Some.ensures.some c.in-Ok.ensures.said)
    (omega (arith, c.if-len-gt-COMMAND_LIMIT.true, c.len.ensures, c.push.new.requests.ok.0, ap length c.in_ok-push-in-Ok.ensures, length-append c.args.requests.now.items (c.in-Ok.asked ∷ [])))) e

pub returns-clause-ok : goal.returns-clause-ok
returns-clause-ok c = record {
  line = c.in-Ok.asked;
  says = says-in c.args.text.now c.split_word.result.0.now c.split_word.ensures.word c.split_word.result.1.now c.in-Some.command _ c.split_word.ensures.rest c.in-Some.ensures.some c.in-Ok.ensures.said;
  known = c.in-Ok.ensures.known;
  room = omega (arith, c.if-len-gt-COMMAND_LIMIT.false, c.len.ensures, c.push.new.requests.ok.0, ap length c.in_ok-push-in-Ok.ensures, length-append c.args.requests.now.items (c.in-Ok.asked ∷ []));
  added = c.in_ok-push-in-Ok.ensures;
}
