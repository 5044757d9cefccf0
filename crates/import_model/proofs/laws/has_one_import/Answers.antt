use Rattle.chunk_format.specs.Left.{start_of}
use Rattle.import_model.specs.Steps.{Outside}
use Rattle.import_model.specs.Imported.{without_mark}
use Rattle.import_model.proofs.Unique.{one_import}
use Rattle.import_model.proofs.laws.has_one_import.Goals as goal

pub returns : goal.returns
returns c = λ text r s. one_import Outside (start_of (without_mark text)) r s
