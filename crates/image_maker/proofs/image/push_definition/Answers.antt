use Rattle.std.proofs.lemmas.Result.{on_ok_weaker}
use Rattle.image_maker.proofs.Pieces.{three_behind}
use Rattle.image_maker.proofs.image.push_definition.Goals as goal

pub returns : goal.returns
returns c =
    on_ok_weaker c.push_slice.result
    (λ e. three_behind c.args.out.now c.push_superclass.new.out c.push_numbered.new.out c.push_slice.new.self _ _ _ c.in_ok-push_superclass.ensures c.in_ok-push_numbered.ensures e)
    c.push_slice.ensures.ok
