use Rattle.session_tests.proofs.Named.{has-self}
use Rattle.session_tests.proofs.renamed.told.Goals as goal

pub are_done-requires-clause-log : goal.are_done-requires-clause-log
are_done-requires-clause-log g c = c.in-Ok.ensures.log

pub are_done-requires-clause-self_known : goal.are_done-requires-clause-self_known
are_done-requires-clause-self_known g c = has-self c.names.result.now c.args.image.now.names c.in_ok-_self_name._self_name c.names.ensures c.in_ok-_self_name.ensures
