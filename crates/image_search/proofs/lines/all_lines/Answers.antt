use Rattle.std.proofs.Common.{List, ℕ, ◌++◌, ◌∙◌, ap, sym, subst}
use Rattle.rb_base.specs.Names.{name_at}
use Rattle.pattern_model.specs.Named.{map_pattern}
use Rattle.query_model.specs.Lines.{AreLines}
use Rattle.rewrite_model.specs.Searched.{matches}
use Rattle.class_table.specs.View.{image_of}
use Rattle.image_search.proofs.Wholes.{matches_lined}
use Rattle.image_search.proofs.lines.all_lines.Goals as goal

pub returns : goal.returns
returns g c =
    let s = c.args.image.now in
    let p = c.args.pattern.now in
    subst (λ (text : List ℕ). AreLines (image_of s) (matches (map_pattern (name_at s.names) p) (image_of s)) text)
    (sym (c.in_ok-push_slice.ensures.ok ∙ ap (λ (t : List ℕ). c.in_ok-text.text ++ t) c.as_slice.ensures))
    (matches_lined s c.requires.orderly p c.requires.known c.in_ok-text.text c.in_ok-doits.doits c.in_ok-text.ensures c.in_ok-doits.ensures)
