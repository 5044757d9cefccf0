use Rattle.std.proofs.Common.{sym}
use Rattle.std.proofs.lemmas.Bool.{ne_eqb}
use Rattle.spelled_words.proofs.Keywords.{no_letter, no_word, row_ends}
use Rattle.spelled_words.proofs.spelling.are_keywords.Goals as goal

pub returns-then-not-is_letter : goal.returns-then-not-is_letter
returns-then-not-is_letter c = no_letter c.args.text.now c.loop-byte.begins c.loop-byte.rest.now c.loop-byte.invariant c.in-Some.byte.now c.in-Some.others.now c.if-begins.true c.in-Some.ensures.cases.0 (sym (c.if-not-is_letter.ensures))

pub returns-then-not-is_word : goal.returns-then-not-is_word
returns-then-not-is_word c = no_word c.args.text.now c.loop-byte.begins c.loop-byte.rest.now c.loop-byte.invariant c.in-Some.byte.now c.in-Some.others.now c.if-begins.false c.in-Some.ensures.cases.0 (ne_eqb c.in-Some.byte.now 58 c.if-byte-eq58.false) (sym (c.if-not-is_word.ensures))

pub returns : goal.returns
returns c = row_ends c.args.text.now c.loop-byte.begins c.loop-byte.rest.now c.loop-byte.invariant (c.in_default.ensures).cases
