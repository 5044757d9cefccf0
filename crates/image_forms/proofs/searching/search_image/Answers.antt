use Rattle.std.proofs.Common.{◌≡◌, ℕ, List, ◌++◌, refl, sym, ap, subst, ◌∙◌}
use Rattle.std.specs.Prelude.{codes}
use Rattle.rb_base.specs.Names.{name_at}
use Rattle.image_model.specs.Image.{ImageOf}
use Rattle.class_table.specs.View.{image_of}
use Rattle.image_queries.specs.Spelled.{AreSpelled}
use Rattle.pattern_model.specs.Named.{map_pattern}
use Rattle.query_model.specs.Lines.{AreLines}
use Rattle.rewrite_model.specs.Saying.{IsRefusedPattern}
use Rattle.rewrite_model.specs.Searched.{matches}
use Rattle.image_forms.specs.Answers.{NoPattern, Matched}
use Rattle.image_forms.proofs.Refusing.{cause_told}
use Rattle.image_forms.proofs.searching.search_image.Goals as goal

pub write_matches-requires-clause-spelled : goal.write_matches-requires-clause-spelled
write_matches-requires-clause-spelled c = subst AreSpelled (sym c.pattern_in.ensures.image) c.requires.spelled

pub returns-in_ok-write_matches-in-Ok : goal.returns-in_ok-write_matches-in-Ok
returns-in_ok-write_matches-in-Ok c =
    let p = map_pattern (name_at c.pattern_in.new.image.names) c.in-Ok.pattern in
    let told = c.in_ok-write_matches-in-Ok.ensures.written in
    let same : c.write_matches.new.out ≡ told.0 = told.1 ∙ ap (λ (t : List ℕ). t ++ told.0) c.requires.empty in
    Matched p c.in-Ok.ensures.said
    (subst (λ (t : List ℕ). AreLines (image_of c.args.image.now) (matches p (image_of c.args.image.now)) t) (sym same)
    (subst (λ (i : ImageOf (List ℕ)). AreLines i (matches p i) told.0) c.pattern_in.ensures.image told.2)) refl

pub returns-in_ok-push_text_refusal-in-Err : goal.returns-in_ok-push_text_refusal-in-Err
returns-in_ok-push_text_refusal-in-Err c =
    let told = cause_told (codes "pattern") c.in-Err.fault c.push_text_refusal.new.out (IsRefusedPattern c.args.pattern.now) c.in-Err.ensures.fault c.in_ok-push_text_refusal-in-Err.ensures in
    NoPattern told.0 told.1 refl told.2
