use Rattle.std.proofs.Common.{ℕ, List, ◌++◌, refl, ap, ◌∙◌}
use Rattle.std.specs.Prelude.{codes}
use Rattle.rb_base.specs.Names.{name_at}
use Rattle.class_table.specs.View.{image_of}
use Rattle.file_model.specs.Written.{file_of}
use Rattle.pattern_model.specs.Named.{map_pattern}
use Rattle.pattern_model.specs.Patterns.{PatternOf}
use Rattle.pattern_model.specs.Rewritten.{RuleOf}
use Rattle.rewrite_model.specs.Saying.{Cause, SaysPattern, IsRefusedPattern, IsRefusedReplacement}
use Rattle.rewrite_model.specs.Rewritten.{rewritten_image}
use Rattle.image_forms.specs.Answers.{NoRule, NoReplacement, Rewritten}
use Rattle.image_forms.proofs.Refusing.{cause_told}
use Rattle.image_forms.proofs.rewriting.rewrite_in.Goals as goal

pub returns-in_ok-write_image-in-Ok : goal.returns-in_ok-write_image-in-Ok
returns-in_ok-write_image-in-Ok c =
    let f = name_at c.rule_in.new.image.names in
    let r : RuleOf (List ℕ) = record { pattern = map_pattern f c.in-Ok.rule.pattern; replacement = map_pattern f c.in-Ok.rule.replacement } in
    Rewritten r c.in-Ok.ensures.said refl
    (c.in_ok-write_image-in-Ok.ensures.ok ∙ ap (λ (t : List ℕ). t ++ file_of (image_of c.rewrite_image.new.image)) c.requires.empty
    ∙ ap file_of (c.in_ok-rewrite_image-in-Ok.ensures.image ∙ ap (rewritten_image r) c.rule_in.ensures.image))

pub returns-in_ok-push_text_refusal-in-Err-Pattern : goal.returns-in_ok-push_text_refusal-in-Err-Pattern
returns-in_ok-push_text_refusal-in-Err-Pattern c =
    let told = cause_told (codes "pattern") c.in-Err-Pattern.fault c.push_text_refusal.new.out (IsRefusedPattern c.args.pattern.now) (rw c.in-Err-Pattern.field-0-is at c.in-Err-Pattern.ensures.fault) c.in_ok-push_text_refusal-in-Err-Pattern.ensures in
    NoRule told.0 told.1 refl told.2

pub returns-in_ok-push_text_refusal-in-Err-Replacement : goal.returns-in_ok-push_text_refusal-in-Err-Replacement
returns-in_ok-push_text_refusal-in-Err-Replacement c =
    let told = cause_told (codes "replacement") c.in-Err-Replacement.fault c.push_text_refusal-in-Err-Replacement.new.out
    (λ (d : Cause). (p : PatternOf (List ℕ)) × SaysPattern c.args.pattern.now p × IsRefusedReplacement p c.args.replacement.now d) (rw c.in-Err-Replacement.field-0-is at c.in-Err-Replacement.ensures.fault) c.in_ok-push_text_refusal-in-Err-Replacement.ensures in
    NoReplacement told.1.0 told.0 told.1.1 told.1.2 refl told.2
