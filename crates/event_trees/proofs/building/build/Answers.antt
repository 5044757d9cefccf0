use Rattle.std.specs.Prelude.{OnOk}
use Rattle.std.proofs.Common.{◌≡◌, subst}
use Rattle.std.proofs.lemmas.Result.{on_ok_weaker}
use Rattle.tree_model.specs.Tree.{Notes}
use Rattle.parse_events.specs.declared.event.Event.TheVariants as event
use Rattle.event_trees.specs.Stacks.{event_names, with_block}
use Rattle.event_trees.specs.Held.{held}
use Rattle.event_trees.specs.Naming.{AllPass}
use Rattle.event_trees.proofs.Known.{Adds-none}
use Rattle.event_trees.proofs.Making.{at_event, builds_word, builds_array, builds_bytes, builds_operand, builds_var, builds_send, builds_message, builds_cascade, builds_target, builds_value, builds_block, builds_brace, builds_return, builds_statement}
use Rattle.event_trees.proofs.building.build.Goals as goal

pub returns-in-Number-clause-adds : goal.returns-in-Number-clause-adds
returns-in-Number-clause-adds c = on_ok_weaker c.literal.result (λ _. Adds-none c.args.names.now (AllPass (event_names c.args.event))) c.literal.ensures

pub returns-in-Str-clause-adds : goal.returns-in-Str-clause-adds
returns-in-Str-clause-adds c = on_ok_weaker c.literal-in-Str.result (λ _. Adds-none c.args.names.now (AllPass (event_names c.args.event))) c.literal-in-Str.ensures

pub returns-in-Symbol-clause-adds : goal.returns-in-Symbol-clause-adds
returns-in-Symbol-clause-adds c = on_ok_weaker c.literal-in-Symbol.result (λ _. Adds-none c.args.names.now (AllPass (event_names c.args.event))) c.literal-in-Symbol.ensures

pub returns-in-Char-clause-adds : goal.returns-in-Char-clause-adds
returns-in-Char-clause-adds c = on_ok_weaker c.literal-in-Char.result (λ _. Adds-none c.args.names.now (AllPass (event_names c.args.event))) c.literal-in-Char.ensures

pub returns-in_ok-number_of-in-Word-clause-built : goal.returns-in_ok-number_of-in-Word-clause-built
returns-in_ok-number_of-in-Word-clause-built c = at_event c.word.result c.args.event (event.Word c.in-Word.name) c.in-Word.is (builds_word c.in-Word.name c.in_ok-number_of-in-Word.field-0 c.in_ok-number_of-in-Word.ensures.number) c.word.ensures

pub returns-in-Array-clause-built : goal.returns-in-Array-clause-built
returns-in-Array-clause-built c = at_event c.array.result c.args.event (event.Array c.in-Array.items) c.in-Array.is (builds_array c.in-Array.items) c.array.ensures

pub returns-in-Array-clause-adds : goal.returns-in-Array-clause-adds
returns-in-Array-clause-adds c = on_ok_weaker c.array.result (λ _. Adds-none c.args.names.now (AllPass (event_names c.args.event))) c.array.ensures

pub returns-in-Bytes-clause-built : goal.returns-in-Bytes-clause-built
returns-in-Bytes-clause-built c = at_event c.bytes.result c.args.event (event.Bytes c.in-Bytes.items) c.in-Bytes.is (builds_bytes c.in-Bytes.items) c.bytes.ensures

pub returns-in-Bytes-clause-adds : goal.returns-in-Bytes-clause-adds
returns-in-Bytes-clause-adds c = on_ok_weaker c.bytes.result (λ _. Adds-none c.args.names.now (AllPass (event_names c.args.event))) c.bytes.ensures

pub returns-in-Literal-clause-built : goal.returns-in-Literal-clause-built
returns-in-Literal-clause-built c = at_event c.operand.result c.args.event (event.Literal c.in-Literal.from c.in-Literal.to) c.in-Literal.is (builds_operand c.in-Literal.from c.in-Literal.to) c.operand.ensures

pub returns-in-Literal-clause-adds : goal.returns-in-Literal-clause-adds
returns-in-Literal-clause-adds c = on_ok_weaker c.operand.result (λ _. Adds-none c.args.names.now (AllPass (event_names c.args.event))) c.operand.ensures

pub returns-in_ok-number_of-in-Var-clause-built : goal.returns-in_ok-number_of-in-Var-clause-built
returns-in_ok-number_of-in-Var-clause-built c = at_event c.variable.result c.args.event (event.Var c.in-Var.from c.in-Var.to c.in-Var.name) c.in-Var.is (builds_var c.in-Var.from c.in-Var.to c.in-Var.name c.in_ok-number_of-in-Var.field-0 c.in_ok-number_of-in-Var.ensures.number) c.variable.ensures

pub returns-in_ok-number_of-in-Send-clause-built : goal.returns-in_ok-number_of-in-Send-clause-built
returns-in_ok-number_of-in-Send-clause-built c = at_event c.send.result c.args.event (event.Send c.in-Send.from c.in-Send.to c.in-Send.arguments c.in-Send.selector) c.in-Send.is (builds_send c.in-Send.from c.in-Send.to c.in-Send.selector c.in-Send.arguments c.in_ok-number_of-in-Send.field-0 c.in_ok-number_of-in-Send.ensures.number) c.send.ensures

pub returns-in_ok-number_of-in-Message-clause-built : goal.returns-in_ok-number_of-in-Message-clause-built
returns-in_ok-number_of-in-Message-clause-built c = at_event c.message.result c.args.event (event.Message c.in-Message.selector c.in-Message.arguments) c.in-Message.is (builds_message c.in-Message.selector c.in-Message.arguments c.in_ok-number_of-in-Message.field-0 c.in_ok-number_of-in-Message.ensures.number) c.message.ensures

pub returns-in-Cascade-clause-built : goal.returns-in-Cascade-clause-built
returns-in-Cascade-clause-built c = at_event c.cascade.result c.args.event (event.Cascade c.in-Cascade.from c.in-Cascade.to c.in-Cascade.messages) c.in-Cascade.is (builds_cascade c.in-Cascade.from c.in-Cascade.to c.in-Cascade.messages) c.cascade.ensures

pub returns-in-Cascade-clause-adds : goal.returns-in-Cascade-clause-adds
returns-in-Cascade-clause-adds c = on_ok_weaker c.cascade.result (λ _. Adds-none c.args.names.now (AllPass (event_names c.args.event))) c.cascade.ensures

pub returns-in_ok-number_of-in-Target-clause-built : goal.returns-in_ok-number_of-in-Target-clause-built
returns-in_ok-number_of-in-Target-clause-built c = at_event c.target.result c.args.event (event.Target c.in-Target.from c.in-Target.name) c.in-Target.is (builds_target c.in-Target.from c.in-Target.name c.in_ok-number_of-in-Target.field-0 c.in_ok-number_of-in-Target.ensures.number) c.target.ensures

pub returns-in-Assign-clause-built : goal.returns-in-Assign-clause-built
returns-in-Assign-clause-built c = at_event c.value.result c.args.event (event.Assign c.in-Assign.from c.in-Assign.to) c.in-Assign.is (builds_value c.in-Assign.from c.in-Assign.to) c.value.ensures

pub returns-in-Assign-clause-adds : goal.returns-in-Assign-clause-adds
returns-in-Assign-clause-adds c = on_ok_weaker c.value.result (λ _. Adds-none c.args.names.now (AllPass (event_names c.args.event))) c.value.ensures

pub returns-in-Block-clause-built : goal.returns-in-Block-clause-built
returns-in-Block-clause-built c =
    at_event c.block.result c.args.event (event.Block c.in-Block.from c.in-Block.to c.in-Block.statements c.in-Block.tail) c.in-Block.is (builds_block c.in-Block.from c.in-Block.to c.in-Block.statements c.in-Block.tail)
    (subst (λ (t : Notes). OnOk c.block.result (held c.block.new.self ≡ with_block (held c.args.stacks.now) c.in-Block.statements t)) c.into_comments.ensures c.block.ensures)

pub returns-in-Block-clause-adds : goal.returns-in-Block-clause-adds
returns-in-Block-clause-adds c = on_ok_weaker c.block.result (λ _. Adds-none c.args.names.now (AllPass (event_names c.args.event))) c.block.ensures

pub returns-in-Brace-clause-built : goal.returns-in-Brace-clause-built
returns-in-Brace-clause-built c = at_event c.brace.result c.args.event (event.Brace c.in-Brace.from c.in-Brace.to c.in-Brace.items) c.in-Brace.is (builds_brace c.in-Brace.from c.in-Brace.to c.in-Brace.items) c.brace.ensures

pub returns-in-Brace-clause-adds : goal.returns-in-Brace-clause-adds
returns-in-Brace-clause-adds c = on_ok_weaker c.brace.result (λ _. Adds-none c.args.names.now (AllPass (event_names c.args.event))) c.brace.ensures

pub returns-in-Return-clause-built : goal.returns-in-Return-clause-built
returns-in-Return-clause-built c = at_event c.returned.result c.args.event (event.Return c.in-Return.from c.in-Return.to) c.in-Return.is (builds_return c.in-Return.from c.in-Return.to) c.returned.ensures

pub returns-in-Return-clause-adds : goal.returns-in-Return-clause-adds
returns-in-Return-clause-adds c = on_ok_weaker c.returned.result (λ _. Adds-none c.args.names.now (AllPass (event_names c.args.event))) c.returned.ensures

pub returns-in-Statement-clause-built : goal.returns-in-Statement-clause-built
returns-in-Statement-clause-built c = at_event c.statement.result c.args.event (event.Statement c.in-Statement.from c.in-Statement.comments) c.in-Statement.is (builds_statement c.in-Statement.from c.in-Statement.comments) c.statement.ensures

pub returns-in-Statement-clause-adds : goal.returns-in-Statement-clause-adds
returns-in-Statement-clause-adds c = on_ok_weaker c.statement.result (λ _. Adds-none c.args.names.now (AllPass (event_names c.args.event))) c.statement.ensures
