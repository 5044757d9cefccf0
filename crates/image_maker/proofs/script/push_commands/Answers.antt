use Rattle.std.proofs.lemmas.Result.{on_ok_weaker}
use Rattle.image_maker.proofs.Pieces.{two_behind}
use Rattle.image_maker.proofs.script.push_commands.Goals as goal

pub returns : goal.returns
returns c =
    on_ok_weaker c.push_renaming-2.result
    (λ e. two_behind c.args.out.now c.push_renaming.new.out c.push_renaming-2.new.out _ _ c.in_ok-push_renaming.ensures e)
    c.push_renaming-2.ensures
