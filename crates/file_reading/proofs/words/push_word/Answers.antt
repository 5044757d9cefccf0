use Rattle.std.proofs.Common.{sym}
use Rattle.std.proofs.lemmas.Result.{on_ok_weaker}
use Rattle.file_reading.proofs.WordsOf.{pushed, all-pushed}
use Rattle.file_reading.proofs.words.push_word.Goals as goal

pub returns-clause-words : goal.returns-clause-words
returns-clause-words c =
    on_ok_weaker c.push.result (λ e. pushed c.args.names.now c.intern.new.names c.args.ids.now c.push.new.self c.in_ok-name.name c.args.word.now c.in_ok-name.ensures.grows c.requires c.in_ok-name.ensures.text (sym c.if-is_empty.ensures) e)
    c.push.ensures.ok

pub returns-clause-known : goal.returns-clause-known
returns-clause-known c =
    on_ok_weaker c.push.result (λ e. all-pushed c.args.names.now c.intern.new.names c.args.ids.now c.push.new.self c.in_ok-name.name c.in_ok-name.ensures.grows c.requires c.in_ok-name.ensures.known e)
    c.push.ensures.ok
