-- The words that were read. Each leaves less to be read.
use Rattle.std.proofs.Common.{◌≡◌, ◌≤◌, ◌++◌, length, map}
use Rattle.std.specs.Prelude.{string_bytes}
use Rattle.case_tables.specs.CaseTexts.{words_text}
use Rattle.case_tables.proofs.case.read_words.Given as goal

abbrev pub invariant-loop-alloc : goal.invariant-loop-alloc
invariant-loop-alloc l = record {
  read : l.fn.table.rest.now ≡ words_text (map string_bytes l.words.items) ++ l.table.rest.now;
  shorter : length l.table.rest.now ≤ length l.fn.table.rest.now;
}

abbrev pub decreases-loop-alloc : goal.decreases-loop-alloc
decreases-loop-alloc l = length l.table.rest.now
