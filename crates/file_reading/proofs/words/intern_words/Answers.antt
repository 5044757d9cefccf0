use Rattle.std.proofs.Common.{List, map, ◌++◌, sym, ap, ◌∙◌}
use Rattle.rb_base.specs.Names.{name_at}
use Rattle.event_trees.proofs.Known.{Grows-twice}
use Rattle.chunk_forms.proofs.Strings.{none_left}
use Rattle.file_model.specs.Filing.{Text}
use Rattle.file_model.specs.Words.{words_of}
use Rattle.file_reading.proofs.WordsOf.{one_word, words-more, words-last, words-step}
use Rattle.file_reading.proofs.words.intern_words.Goals as goal

pub returns-in-None-clause-words : goal.returns-in-None-clause-words
returns-in-None-clause-words c =
    let last = words-last c.words.rest.now c.split_at.result.0.now c.split_at.result.1.now c.word_len.result c.word_len.ensures.value c.split_at.ensures.front c.split_at.ensures.back (none_left c.split_at.result.1.now c.in-None.ensures.cases) in
    c.in_ok-push_word.ensures.words ∙ ap (λ (ws : List Text). map (name_at c.words.names) c.words.ids ++ ws) (sym last) ∙ c.words.invariant.0

pub words-preserved : goal.words-preserved
words-preserved c =
    let more = words-more c.words.rest.now c.split_at.result.0.now c.split_at.result.1.now c.in-Some.others.now c.word_len.result c.in-Some.field-0-0.now c.word_len.ensures.value c.split_at.ensures.front c.split_at.ensures.back c.in-Some.ensures.cases.0 in (
      words-step (map (name_at c.words.names) c.words.ids) (map (name_at c.push_word.new.names) c.push_word.new.ids) (words_of c.in-Some.others.now) (words_of c.args.text.now) (words_of c.words.rest.now) (one_word c.split_at.result.0.now) c.words.invariant.0 more c.in_ok-push_word.ensures.words,
      c.in_ok-push_word.ensures.known,
      Grows-twice c.words.invariant.2 c.in_ok-push_word.ensures.grows,
    )
