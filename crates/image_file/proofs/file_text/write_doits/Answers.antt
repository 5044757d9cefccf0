use Rattle.image_file.proofs.Written.{doit_step, doit_none}
use Rattle.image_file.proofs.file_text.write_doits.Goals as goal

pub loop-number-preserved : goal.loop-number-preserved
loop-number-preserved c =
    doit_step c.args.image.now.doits c.loop-number.number c.args.to c.in-Some.source.now c.loop-number.out c.write_paragraph.new.out _
    c.loop-number-test.true c.in-Some.ensures c.loop-number.invariant c.in_ok-write_paragraph-in-Some.ensures

pub returns-in-None : goal.returns-in-None
returns-in-None c =
    doit_none c.args.image.now.doits c.loop-number.number c.args.to c.loop-number.out _ c.in-None.ensures c.loop-number.invariant
