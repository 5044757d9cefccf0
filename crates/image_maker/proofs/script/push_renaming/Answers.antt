use Rattle.std.proofs.lemmas.Result.{on_ok_weaker}
use Rattle.image_maker.proofs.Pieces.{three_behind}
use Rattle.image_maker.proofs.script.push_renaming.Goals as goal

pub returns : goal.returns
returns c =
    on_ok_weaker c.push_slice.result
    (λ e. three_behind c.args.out.now c.push_numbered.new.out c.push_numbered-2.new.out c.push_slice.new.self _ _ _ c.in_ok-push_numbered.ensures c.in_ok-push_numbered-2.ensures e)
    c.push_slice.ensures.ok
