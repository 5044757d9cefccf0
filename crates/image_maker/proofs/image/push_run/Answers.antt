use Rattle.std.proofs.lemmas.Result.{on_ok_weaker}
use Rattle.image_maker.proofs.Pieces.{four_behind}
use Rattle.image_maker.proofs.image.push_run.Goals as goal

pub returns : goal.returns
returns c =
    on_ok_weaker c.push_slice-2.result
    (λ e. four_behind c.args.out.now c.push_numbered.new.out c.push_slice.new.self c.push_source.new.out c.push_slice-2.new.self _ _ _ _ c.in_ok-push_numbered.ensures c.in_ok-push_slice.ensures.ok c.in_ok-push_source.ensures e)
    c.push_slice-2.ensures.ok
