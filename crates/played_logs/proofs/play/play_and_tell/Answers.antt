use Rattle.std.proofs.Common.{List, ℕ, ap, refl, ◌∙◌}
use Rattle.image_model.specs.Image.{ImageOf}
use Rattle.class_table.specs.View.{image_of}
use Rattle.log_lang.specs.Shown.{events_in}
use Rattle.play_model.specs.Played.{played, Played}
use Rattle.played_logs.proofs.Answering.{wrong-log}
use Rattle.played_logs.proofs.play.play_and_tell.Goals as goal

pub returns-in_ok-play_counted-in-Ok : goal.returns-in_ok-play_counted-in-Ok
returns-in_ok-play_counted-in-Ok c =
    let events = events_in c.events_of.new.image.names c.in-Ok.events.items in
    Played events c.in-Ok.ensures.said refl
    (c.in_ok-play_counted-in-Ok.ensures ∙ ap (λ (i : ImageOf (List ℕ)). played i events) c.events_of.ensures.image)

pub returns-in_ok-push_script_line-in-Err : goal.returns-in_ok-push_script_line-in-Err
returns-in_ok-push_script_line-in-Err c =
    wrong-log (image_of c.args.image) c.args.log.now c.push_script_line.new.out c.in-Err.fault c.in-Err.ensures.fault (rw c.requires.empty at c.in_ok-push_script_line-in-Err.ensures.told)
