-- The parts of the case, one after the other.
use Rattle.std.proofs.Common.{refl, map, ap, ◌∙◌, ◌++◌}
use Rattle.std.specs.Prelude.{string_bytes}
use Rattle.rb_base.specs.FilesInMemory.{FilesInMemory}
use Rattle.case_tables.specs.CaseTexts.{WrittenCase}
use Rattle.case_tables.proofs.ReadCase.{case_read}
use Rattle.case_tables.proofs.case.Case.read.Goals as goal

pub returns-clause-ok : goal.returns-clause-ok
returns-clause-ok c =
    let (files, filed, are, shelf) = c.in_ok-shelf.ensures.ok in
    let (loads, loaded, fail) = c.in_ok-read_failing_loads.ensures.ok in
    let (sent, wanted, bytes, end) = c.in_ok-wanted.ensures.ok in
    let w : WrittenCase = record {
      name = c.in_ok-name.name.now;
      words = map string_bytes c.in_ok-words.words.items;
      files = files;
      loads = loads;
      puts = c.in_ok-sink.sink.refusals;
      status = c.in_ok-wanted.wanted.status;
      sent = sent;
      calls = c.in_ok-wanted.wanted.puts;
    } in (
      w,
      case_read w _ _ _ _ _ _ _ c.in_ok-name.ensures.ok c.in_ok-words.ensures.ok filed loaded c.in_ok-sink.ensures.ok wanted,
      record {
        name = refl;
        line = c.in_ok-name.ensures.name;
        words = refl;
        shelf = fail ∙ ap (λ (s : FilesInMemory). record s { refusals = s.refusals ++ loads }) shelf;
        files = are;
        puts = refl;
        nothing_sent = c.in_ok-sink.ensures.fresh;
        status = refl;
        sent = bytes;
        calls = refl;
      },
      end,
    )
