use Rattle.std.proofs.Common.{◌≡◌, ℕ, List, length}
use Rattle.std.specs.Prelude.{◌==◌, ◌||◌}
use Rattle.std.specs.List.{list_all, slice_split}
use Rattle.chunk_format.specs.Blank.{is_blank}
use Rattle.file_model.specs.Words.{may_name}
use Rattle.chunk_forms.proofs.words.all_may_stand.Given as goal

abbrev pub invariant-words : goal.invariant-words
invariant-words l =
    list_all (λ (part : List ℕ). (length part == 0) || may_name part) (slice_split is_blank l.fn.text)
    ≡ list_all (λ (part : List ℕ). (length part == 0) || may_name part) (slice_split is_blank l.rest)

abbrev pub decreases-words : goal.decreases-words
decreases-words l = length l.rest
