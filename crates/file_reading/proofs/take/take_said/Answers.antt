use Rattle.std.proofs.Common.{refl, sym, ap}
use Rattle.file_model.specs.Causes.{PoolsNotEmpty, UnknownDefinition}
use Rattle.file_model.specs.Filing.{form_taken}
use Rattle.file_reading.specs.Filed.{filed, text_doit}
use Rattle.file_reading.specs.Said.{said_text}
use Rattle.file_reading.specs.declared.said.Said.{Said}
use Rattle.file_reading.proofs.take.take_said.Goals as goal

pub returns-in-HasPools : goal.returns-in-HasPools
returns-in-HasPools c =
    (PoolsNotEmpty, refl, sym (ap (λ (s : Said). form_taken c.args.kernel (filed c.args.reading) (text_doit c.args.reading.names c.args.source.now c.args.body) (said_text c.args.reading.names s)) c.in-HasPools.is))

pub returns-in-IsUnknown : goal.returns-in-IsUnknown
returns-in-IsUnknown c =
    (UnknownDefinition, refl, sym (ap (λ (s : Said). form_taken c.args.kernel (filed c.args.reading) (text_doit c.args.reading.names c.args.source.now c.args.body) (said_text c.args.reading.names s)) c.in-IsUnknown.is))
