use Rattle.std.proofs.Common.{◌≡◌, ◌↔◌, drop}
use Rattle.image_rewriting.proofs.equality.same_texts.Given as goal

abbrev pub invariant-loop-i : goal.invariant-loop-i
invariant-loop-i l = (l.a ≡ l.b) ↔ (drop l.i l.a ≡ drop l.i l.b)
