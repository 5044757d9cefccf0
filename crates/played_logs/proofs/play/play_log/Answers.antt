use Rattle.std.proofs.Common.{ℕ, List, ◌++◌, ap, sym, subst, ◌∙◌}
use Rattle.class_table.specs.View.{image_of}
use Rattle.play_model.specs.Played.{PlaysIn}
use Rattle.played_logs.proofs.play.play_log.Goals as goal

pub returns-clause-answered : goal.returns-clause-answered
returns-clause-answered c =
    subst (λ (sent : List ℕ). PlaysIn (image_of c.args.image) c.args.log.now c.in_ok-status.status sent)
    (sym (c.in_ok-append.ensures.ok ∙ ap (λ (t : List ℕ). t ++ c.play_and_tell.new.out) c.requires.empty)) c.in_ok-status.ensures
