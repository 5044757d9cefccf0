use Rattle.rb_base.specs.Names.{name_at}
use Rattle.part_questions.proofs.Loops.{loop-first, loop-second}
use Rattle.part_questions.proofs.names.is_loop.Goals as goal

pub returns-then-same_text : goal.returns-then-same_text
returns-then-same_text c =
    loop-first (name_at c.args.names.now c.args.selector) c.text_of-text.result.now c.same_text.result c.text_of-text.ensures c.same_text.ensures c.if-same_text.true

pub returns-else-same_text : goal.returns-else-same_text
returns-else-same_text c =
    loop-second (name_at c.args.names.now c.args.selector) c.text_of-text.result.now c.same_text.result c.same_text-else-same_text.result
    c.text_of-text.ensures c.same_text.ensures c.if-same_text.false c.same_text-else-same_text.ensures
