use Rattle.std.proofs.Common.{List, ℕ, map, sym, subst}
use Rattle.image_model.specs.Image.{ImageOf}
use Rattle.image_model.specs.Valid.{HasNoRepeat, signature}
use Rattle.class_table.specs.View.{image_of}
use Rattle.strip_texts.proofs.WhatIsLeft.{left-for}
use Rattle.strip_texts.proofs.left.strip_for.Goals as goal

pub strip_from-requires-clause-once : goal.strip_from-requires-clause-once
strip_from-requires-clause-once c = subst (λ (i : ImageOf (List ℕ)). HasNoRepeat (map signature i.methods)) (sym c.read_doit.ensures.image) c.requires.once

pub returns-in-Ok-clause-left : goal.returns-in-Ok-clause-left
returns-in-Ok-clause-left c =
    left-for c.args.expression.now (image_of c.args.image.now) (image_of c.read_doit.new.image) (image_of c.strip_from.new.image) _
    c.in_ok-start.ensures.tree c.read_doit.ensures.image c.in-Ok.ensures.image
