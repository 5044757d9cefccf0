use Rattle.std.proofs.Common.{◌<◌, sym, subst, length, slice_get, List, ℕ}
use Rattle.tree_model.specs.AllNames.{SequenceNames}
use Rattle.st_tree.specs.View.{sequence_of}
use Rattle.class_table.specs.declared.record.DoIt.{DoIt}
use Rattle.canonical_image.proofs.Slots.{held}
use Rattle.canonical_image.proofs.format.doit_text.Goals as goal

pub format_doit-requires : goal.format_doit-requires
format_doit-requires g c =
    let found = held (λ (d : DoIt). d.body) (slice_get c.args.image.now.doits c.args.number) c.in-Some.body.now c.in-Some.ensures.body in
    subst (λ (names : List (List ℕ)). SequenceNames (λ n. n < length names) (sequence_of c.in-Some.body.now)) (sym c.names.ensures)
    (subst (λ b. SequenceNames (λ n. n < length c.args.image.now.names) (sequence_of b)) (sym found.2) (c.requires found.0 found.1))
