use Rattle.std.proofs.Common.{◌<◌, length}
use Rattle.rb_base.specs.Names.{name_at}
use Rattle.image_model.specs.Words.{number_words, text_words}
use Rattle.image_model.proofs.Tables.{KeepsWords-number_words}
use Rattle.file_numbers.proofs.Placed.{places_behind-map, places_behind-names, places_after-map, places_after-names, placed-map_image, placed-names}
use Rattle.file_numbers.proofs.laws.places_by_numbers.Goals as goal

pub returns-clause-after : goal.returns-clause-after
returns-clause-after c =
    λ names change places distinct a q. places_after-map (λ n. n < length names) (name_at names) (number_words names) text_words (KeepsWords-number_words names distinct) change places a q

pub returns-clause-behind : goal.returns-clause-behind
returns-clause-behind c = λ names class meta selector places. places_behind-map (name_at names) class meta selector places

pub returns-clause-settled : goal.returns-clause-settled
returns-clause-settled c =
    λ names places i distinct a p. placed-map_image (λ n. n < length names) (name_at names) (number_words names) text_words (KeepsWords-number_words names distinct) places i a p

pub returns-clause-known_after : goal.returns-clause-known_after
returns-clause-known_after c =
    λ names change places distinct a q. places_after-names (λ n. n < length names) (name_at names) (number_words names) text_words (KeepsWords-number_words names distinct) change places a q

pub returns-clause-known_behind : goal.returns-clause-known_behind
returns-clause-known_behind c = λ names class meta selector places a q r. places_behind-names (λ n. n < length names) class meta selector places a q r

pub returns-clause-known_settled : goal.returns-clause-known_settled
returns-clause-known_settled c =
    λ names places i distinct p. placed-names (λ n. n < length names) (name_at names) (number_words names) text_words (KeepsWords-number_words names distinct) places i p
