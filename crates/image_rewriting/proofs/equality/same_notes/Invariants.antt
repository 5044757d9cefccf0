use Rattle.std.proofs.Common.{◌≡◌, ◌↔◌, drop}
use Rattle.image_rewriting.specs.Equal.{noted}
use Rattle.image_rewriting.proofs.equality.same_notes.Given as goal

abbrev pub invariant-loop-i : goal.invariant-loop-i
invariant-loop-i l = (noted l.a ≡ noted l.b) ↔ (noted (drop l.i l.a) ≡ noted (drop l.i l.b))
