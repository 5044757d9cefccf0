use Rattle.token_model.specs.declared.kind.Dialect.TheVariants.{Second}
use Rattle.st_kernel.specs.KernelText.{prelude_text}
use Rattle.apply_laws.proofs.SpelledRequests.{requests-spelled}
use Rattle.changes_laws.proofs.DoItsStay.{script-keeps}
use Rattle.changes_laws.proofs.Made.{done, condition}
use Rattle.changes_laws.proofs.laws.law_changes.Goals as goal

pub returns-clause-done : goal.returns-clause-done
returns-clause-done c = λ image_line text script s sent changes e short.
    done text script
    (record {
      one_image = λ j k p q. c.has_one_image.ensures.one_image Second prelude_text text j k p q;
      one_reading = λ rs qs p q. c.has_one_reading.ensures.requests script rs qs p q;
      applied = λ line t out applies is. c.law_applied.ensures.done line text script t out applies is;
      other = λ printed o within. (let f = o.changed in
          let kernel = f.is_image.kernel in
          let v = c.every_image_is_valid.ensures in
          let valid = v.valid Second text kernel f.image f.is_image.is_kernel f.is_image in
          let spelled = requests-spelled (λ first second rule says. c.law_said_rule.ensures first second rule says) script f.requests f.says in
          let kept = c.law_scripts.ensures.kept kernel f.image f.requests f.history f.is_image.is_kernel valid spelled f.accepted in
          let same = script-keeps f.image f.requests f.history f.accepted in
          record {
            valid = o.valid;
            fileable = kept.fileable (v.fileable Second text kernel f.image f.is_image.is_kernel f.is_image);
            first = kept.first (v.first Second text kernel f.image f.is_image.is_kernel f.is_image);
            few = within;
            doits = same.doits;
            heads = same.heads;
          });
      made = λ printed o other. c.law_changed_texts.ensures.makes text o.changed.is_image.kernel o.changed.image o.changed.history.now.image o.changed.is_image.is_kernel o.changed.is_image short other;
      named = λ printed o other pieces end has. c.law_changed_texts.ensures.names text o.changed.is_image.kernel o.changed.image o.changed.history.now.image pieces end o.changed.is_image.is_kernel o.changed.is_image other has;
    })
    image_line s sent changes e

pub returns-clause-condition : goal.returns-clause-condition
returns-clause-condition c = λ image_line text script s sent changes e. condition image_line text script s sent changes e
