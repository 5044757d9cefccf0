use Rattle.file_laws.proofs.Sound.{fileable, user_methods_spelled, doits_spelled}
use Rattle.file_laws.proofs.laws.gives_fileable_images.Goals as goal

pub returns-clause-fileable : goal.returns-clause-fileable
returns-clause-fileable c = fileable

pub returns-clause-methods : goal.returns-clause-methods
returns-clause-methods c = user_methods_spelled

pub returns-clause-doits : goal.returns-clause-doits
returns-clause-doits c = doits_spelled
