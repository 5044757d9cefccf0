use Rattle.play_laws.proofs.Kept.{played-file}
use Rattle.play_laws.proofs.laws.law_played.Goals as goal

pub returns : goal.returns
returns c = λ image_line text log s sent plays e.
    played-file text (λ first second rule says. c.law_said_rule.ensures first second rule says)
    (λ i rs h is spelled v. c.law_script_files.ensures.matched text i rs h is spelled v)
    (λ i rs h is spelled v. c.law_script_files.ensures.valid text i rs h is spelled v)
    (λ i rs h is spelled v within. c.law_script_files.ensures.read_again text i rs h is spelled v within)
    (λ i rs h is spelled v. c.law_script_files.ensures.runs_again text i rs h is spelled v)
    image_line log s sent plays e
