-- One file more.
use Rattle.std.proofs.Common.{rules, ◌++◌, refl, ap, ◌∙◌}
use Rattle.case_tables.specs.CaseTexts.{pieces_bytes}
use Rattle.case_tables.proofs.ReadCase.{file_more}
use Rattle.case_tables.proofs.case.read_files.Goals as goal

pub loop-alloc-preserved : goal.loop-alloc-preserved
loop-alloc-preserved c =
    let read = c.in_ok-pieces.ensures.ok in
    let bytes = c.as_slice.ensures.value ∙ read.bytes ∙ ap (λ l. l ++ pieces_bytes read.pieces) c.new-bytes.ensures.items in
    record {
      read = file_more _ _ _ _ _ c.in_ok-name.name.now c.as_slice.result.now c.loop-alloc.shelf c.put_file.new.self read.pieces c.loop-alloc.invariant.read (c.loop-alloc-test.ensures.read refl)
          c.in_ok-name.ensures.ok c.in_ok-name.ensures.line read.text bytes c.in_ok-put_file.ensures.ok;
      shorter = search rules;
    }
