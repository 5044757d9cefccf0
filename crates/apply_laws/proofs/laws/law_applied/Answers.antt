use Rattle.apply_laws.proofs.Kept.{done, condition}
use Rattle.apply_laws.proofs.laws.law_applied.Goals as goal

pub returns-clause-done : goal.returns-clause-done
returns-clause-done c = λ image_line text script s sent applies e.
    done text script (λ first second rule says. c.law_said_rule.ensures first second rule says)
    (λ i rs h is spelled v. c.law_script_files.ensures.matched text i rs h is spelled v)
    (λ i rs h v. c.law_ruled_nil.ensures i rs h v)
    (λ i rs h is spelled v. c.law_script_files.ensures.valid text i rs h is spelled v)
    (λ i rs h is spelled v within. c.law_script_files.ensures.read_again text i rs h is spelled v within)
    (λ i rs h is spelled v. c.law_script_files.ensures.runs_again text i rs h is spelled v)
    (λ i rs h x is spelled v a. c.law_script_files.ensures.admitted text i rs h x is spelled v a)
    image_line s sent applies e

pub returns-clause-condition : goal.returns-clause-condition
returns-clause-condition c = λ image_line text script s sent applies e. condition image_line text script s sent applies e
