use Rattle.std.proofs.Common.{◌≡◌, take}
use Rattle.image_strip.proofs.anew.add_doits.Given as goal

abbrev pub invariant-loop-number : goal.invariant-loop-number
invariant-loop-number g l = l.made ≡ record l.initial.made { doits = take l.number l.image.doits }
