use Rattle.std.proofs.Common.{◌≡◌, ◌<◌, length, Some}
use Rattle.std.proofs.lemmas.Result.{IfOk-weaker}
use Rattle.rb_base.specs.Names.{number_in, name_at}
use Rattle.script_lang.proofs.Growing.{interned-text, interned-known, either-grows}
use Rattle.script_lang.proofs.words.intern.Goals as goal

pub returns-clause-text : goal.returns-clause-text
returns-clause-text c =
    IfOk-weaker c.intern.result (λ n. Some n ≡ number_in c.intern.new.self c.args.word.now) (λ n. name_at c.intern.new.self n ≡ c.args.word.now)
    (λ n e. interned-text c.intern.new.self c.args.word.now n e) c.intern.ensures.number

pub returns-clause-known : goal.returns-clause-known
returns-clause-known c =
    IfOk-weaker c.intern.result (λ n. Some n ≡ number_in c.intern.new.self c.args.word.now) (λ n. n < length c.intern.new.self)
    (λ n e. interned-known c.intern.new.self c.args.word.now n e) c.intern.ensures.number

pub returns-clause-grows : goal.returns-clause-grows
returns-clause-grows c = either-grows c.intern.result c.args.names.now c.intern.new.self c.args.word.now c.intern.ensures.ok c.intern.ensures.err
