use Rattle.file_laws.proofs.Named.{named_image}
use Rattle.file_laws.proofs.laws.gives_named_classes.Goals as goal

pub returns-clause-distinct : goal.returns-clause-distinct
returns-clause-distinct c = λ d prelude text kernel i k distinct before given r. (named_image d prelude text kernel i k (record { distinct = distinct; before = before; given = given }) r).distinct

pub returns-clause-before : goal.returns-clause-before
returns-clause-before c = λ d prelude text kernel i k distinct before given r. (named_image d prelude text kernel i k (record { distinct = distinct; before = before; given = given }) r).before

pub returns-clause-given : goal.returns-clause-given
returns-clause-given c = λ d prelude text kernel i k distinct before given r. (named_image d prelude text kernel i k (record { distinct = distinct; before = before; given = given }) r).given
