use Rattle.std.proofs.Common.{◌≡◌, Some}
use Rattle.std.proofs.lemmas.Result.{IfOk-weaker}
use Rattle.rb_base.specs.Names.{number_in, name_at}
use Rattle.file_reading.proofs.Growing.{interned-text}
use Rattle.image_forms.proofs.query.intern.Goals as goal

pub returns-clause-text : goal.returns-clause-text
returns-clause-text c =
    IfOk-weaker c.intern.result (λ n. Some n ≡ number_in c.intern.new.self c.args.name.now) (λ n. name_at c.intern.new.self n ≡ c.args.name.now)
    (λ n e. interned-text c.intern.new.self c.args.name.now n e) (rw c.as_bytes.ensures.value at c.intern.ensures.number)
