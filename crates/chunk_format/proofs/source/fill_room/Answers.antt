use Rattle.chunk_format.proofs.Blanks.{IsPaired-drop_blanks}
use Rattle.chunk_format.proofs.source.fill_room.Goals as goal

pub halve_marks-requires : goal.halve_marks-requires
halve_marks-requires c = rw c.without_blanks.ensures (IsPaired-drop_blanks _ c.requires.paired)
