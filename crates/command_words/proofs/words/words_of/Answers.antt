use Rattle.std.proofs.Common.{Global, length, rules}
use Rattle.std.proofs.lemmas.Bool.{ltb-true, ltb-false}
use Rattle.std.specs.Prelude.{string_bytes}
use Rattle.command_words.proofs.Lengths.{too_few, too_many}
use Rattle.command_words.proofs.words.words_of.Goals.{in_default-via-then-words-lt1, in_default-via-else-words-lt1+else-words-lt2+else-words-lt3+else-words-lt4+else-words-lt5}
use Rattle.command_words.proofs.words.words_of.Goals as goal

pub returns-in_default : goal.returns-in_default
returns-in_default c = elim c.in_default.branch [
  | in_default-via-then-words-lt1 w ↦ too_few (string_bytes {Z = Global}) c.args.words.now (ltb-true (length c.args.words.now) 1 (search rules))
  | in_default-via-else-words-lt1+else-words-lt2+else-words-lt3+else-words-lt4+else-words-lt5 w ↦ too_many (string_bytes {Z = Global}) c.args.words.now (ltb-false (length c.args.words.now) 5 (search rules))
]
