use Rattle.event_trees.proofs.Known.{Grows-twice}
use Rattle.derivations.proofs.Learned.{grown, learned_more}
use Rattle.derivations.proofs.words.learn.Goals as goal

pub loop-word-preserved : goal.loop-word-preserved
loop-word-preserved c =
    let l = c.loop-word in
    record {
      learned = learned_more l.names c.intern.new.self c.args.words.now l.word-index _ c.loop-word-test.true c.in_ok-intern.ensures.ok l.invariant.learned;
      grows = Grows-twice l.invariant.grows (grown l.names c.intern.new.self _ c.in_ok-intern.ensures.ok);
    }
