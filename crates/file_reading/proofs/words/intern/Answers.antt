use Rattle.std.proofs.Common.{◌≡◌, Some}
use Rattle.std.proofs.lemmas.Result.{IfOk-weaker}
use Rattle.rb_base.specs.Names.{number_in, name_at}
use Rattle.file_reading.specs.Filed.{IsNumberIn}
use Rattle.file_reading.proofs.Growing.{interned-text, interned-known, either-grows}
use Rattle.file_reading.proofs.words.intern.Goals as goal

pub returns-clause-text : goal.returns-clause-text
returns-clause-text c =
    IfOk-weaker c.intern.result (λ n. Some n ≡ number_in c.intern.new.self c.args.text.now) (λ n. name_at c.intern.new.self n ≡ c.args.text.now)
    (λ n e. interned-text c.intern.new.self c.args.text.now n e) c.intern.ensures.number

pub returns-clause-known : goal.returns-clause-known
returns-clause-known c =
    IfOk-weaker c.intern.result (λ n. Some n ≡ number_in c.intern.new.self c.args.text.now) (IsNumberIn c.intern.new.self)
    (λ n e. interned-known c.intern.new.self c.args.text.now n e) c.intern.ensures.number

pub returns-clause-grows : goal.returns-clause-grows
returns-clause-grows c = either-grows c.intern.result c.args.names.now c.intern.new.self c.args.text.now c.intern.ensures.ok c.intern.ensures.err
