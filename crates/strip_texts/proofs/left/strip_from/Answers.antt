use Rattle.std.proofs.Common.{sym, subst}
use Rattle.image_strip.specs.Once.{HasMethodsOnce}
use Rattle.strip_texts.proofs.WhatIsLeft.{left-image}
use Rattle.strip_texts.proofs.left.strip_from.Goals as goal

pub reached-requires-clause-once : goal.reached-requires-clause-once
reached-requires-clause-once c = subst HasMethodsOnce (sym c.reindex.ensures) c.requires.once

pub strip-requires-clause-once : goal.strip-requires-clause-once
strip-requires-clause-once c = subst HasMethodsOnce (sym c.reindex.ensures) c.requires.once

pub returns-clause-image : goal.returns-clause-image
returns-clause-image c =
    left-image c.args.image.now c.reindex.new.self c.strip.new.image c.requires.orderly c.args.start.now c.requires.known _ c.reindex.ensures c.in_ok-found.ensures c.strip.ensures.image c.strip.ensures.names
