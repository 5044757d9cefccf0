use Rattle.std.proofs.Common.{◌∙◌, sym, ap, ℕ, Bool, List, length}
use Rattle.std.specs.Prelude.{◌==◌, ◌||◌, ◌&&◌}
use Rattle.std.specs.List.{list_all, slice_split}
use Rattle.chunk_format.specs.Blank.{is_blank}
use Rattle.file_model.specs.Words.{may_name}
use Rattle.chunk_forms.proofs.Strings.{all_split, all_split_last, all_split_fails, none_left}
use Rattle.chunk_forms.proofs.words.all_may_stand.Goals as goal

-- whether a part is empty or may be a name
abbrev passes : List ℕ → Bool
passes part = (length part == 0) || may_name part

pub returns-then-not-may_stand : goal.returns-then-not-may_stand
returns-then-not-may_stand c =
    sym (c.words.invariant ∙ all_split_fails passes is_blank c.words.rest.now c.split_at.result.0.now c.word_len.result c.word_len.ensures.value c.split_at.ensures.front (sym c.if-not-may_stand.ensures))

pub returns-in-None : goal.returns-in-None
returns-in-None c =
    sym (c.words.invariant ∙ all_split_last passes is_blank c.words.rest.now c.split_at.result.0.now c.split_at.result.1.now c.word_len.result c.word_len.ensures.value c.split_at.ensures.front c.split_at.ensures.back (none_left c.split_at.result.1.now c.in-None.ensures.cases) ∙ sym c.if-not-may_stand.ensures)

pub words-preserved : goal.words-preserved
words-preserved c =
    c.words.invariant
    ∙ all_split passes is_blank c.words.rest.now c.split_at.result.0.now c.split_at.result.1.now c.in-Some.others.now c.word_len.result c.in-Some.field-0-0.now c.word_len.ensures.value c.split_at.ensures.front c.split_at.ensures.back c.in-Some.ensures.cases.0
    ∙ ap (λ b. b && list_all passes (slice_split is_blank c.in-Some.others.now)) (sym c.if-not-may_stand.ensures)
