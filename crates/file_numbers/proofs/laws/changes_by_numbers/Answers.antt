use Rattle.std.proofs.Common.{◌<◌, length}
use Rattle.rb_base.specs.Names.{name_at}
use Rattle.image_model.specs.Words.{number_words, text_words}
use Rattle.image_model.proofs.Tables.{KeepsWords-number_words}
use Rattle.file_numbers.proofs.Changed.{changed-map_image, changed-names}
use Rattle.file_numbers.proofs.laws.changes_by_numbers.Goals as goal

pub returns-clause-same : goal.returns-clause-same
returns-clause-same c =
    λ names kernel change i distinct p q. changed-map_image (λ n. n < length names) (name_at names) (number_words names) text_words (KeepsWords-number_words names distinct) kernel change i p q

pub returns-clause-known : goal.returns-clause-known
returns-clause-known c =
    λ names kernel change i distinct p q. changed-names (λ n. n < length names) (name_at names) (number_words names) text_words (KeepsWords-number_words names distinct) kernel change i p q
