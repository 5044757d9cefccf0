use Rattle.std.proofs.Common.{◌≡◌, drop}
use Rattle.composites.specs.Pushed.{have_all}
use Rattle.composites.proofs.pushes.have_all.Given as goal

abbrev pub invariant-loop-class : goal.invariant-loop-class
invariant-loop-class l = have_all l.image (drop l.class-index l.classes) l.variable ≡ have_all l.image l.classes l.variable
