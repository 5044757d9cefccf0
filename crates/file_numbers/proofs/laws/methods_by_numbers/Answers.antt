use Rattle.std.proofs.Common.{◌<◌, length}
use Rattle.rb_base.specs.Names.{name_at}
use Rattle.image_model.specs.Words.{number_words, text_words}
use Rattle.image_model.proofs.Tables.{KeepsWords-number_words}
use Rattle.file_numbers.proofs.Changed.{run_refusals-map, method_added-map_image, method_added-names}
use Rattle.file_numbers.proofs.laws.methods_by_numbers.Goals as goal

pub returns-clause-run : goal.returns-clause-run
returns-clause-run c =
    λ names r i distinct p q. run_refusals-map (λ n. n < length names) (name_at names) (number_words names) text_words (KeepsWords-number_words names distinct) i.classes r p.classes q

pub returns-clause-same : goal.returns-clause-same
returns-clause-same c =
    λ names kernel r source m i distinct p q t. method_added-map_image (λ n. n < length names) (name_at names) (number_words names) text_words (KeepsWords-number_words names distinct) kernel r source m i p q t

pub returns-clause-known : goal.returns-clause-known
returns-clause-known c =
    λ names kernel r source m i distinct p q t. method_added-names (λ n. n < length names) (name_at names) (number_words names) text_words (KeepsWords-number_words names distinct) kernel r source m i p q t
