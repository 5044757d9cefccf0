use Rattle.std.proofs.lemmas.Result.{err_from_is_err_and}
use Rattle.event_trees.proofs.Known.{Grows-twice}
use Rattle.script_lang.proofs.Identifiers.{one-more-name, not-named}
use Rattle.script_lang.proofs.words.identifiers.Goals as goal

pub returns-in_err-name-clause-wrong : goal.returns-in_err-name-clause-wrong
returns-in_err-name-clause-wrong c =
    let p = err_from_is_err_and c.from_residual.result c.from_residual.ensures.1 in
    rw (p.1, p.2) (λ e. not-named c.args.words.now c.loop-word.word-index _ c.loop-word-test.true (c.in_err-name.ensures.wrong e))

pub loop-word-preserved : goal.loop-word-preserved
loop-word-preserved c = record {
  read =
      one-more-name c.args.words.now c.loop-word.word-index _ c.loop-word-test.true c.loop-word.invariant.read c.in_ok-name.ensures.grows c.in_ok-name.ensures.said c.in_ok-name.ensures.known
      c.in_ok-push.ensures.ok;
  grown = Grows-twice c.loop-word.invariant.grown c.in_ok-name.ensures.grows;
}
