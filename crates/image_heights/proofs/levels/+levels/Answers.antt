use Rattle.std.proofs.Common.{◌≡◌, arith}
use Rattle.image_heights.proofs.OneLevel.{nothing_left}
use Rattle.image_heights.proofs.levels.+levels.Goals as goal

pub fits-returns-then-left-eq0 : goal.fits-returns-then-left-eq0
fits-returns-then-left-eq0 t c = let none : c.args.left ≡ 0 = omega (arith, c.if-left-eq0.true) in nothing_left c.args.node.now c.args.left none
