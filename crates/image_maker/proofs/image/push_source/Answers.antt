use Rattle.std.proofs.lemmas.Result.{on_ok_weaker}
use Rattle.image_maker.proofs.Pieces.{three_behind}
use Rattle.image_maker.proofs.image.push_source.Goals as goal

pub returns : goal.returns
returns c =
    on_ok_weaker c.push_body.result
    (λ e. three_behind c.args.out.now c.push_numbered.new.out c.push_slice.new.self c.push_body.new.out _ _ _ c.in_ok-push_numbered.ensures c.in_ok-push_slice.ensures.ok e)
    c.push_body.ensures
