use Rattle.std.proofs.Common.{List, ℕ, ◌++◌, ◌∙◌, ap, sym, subst}
use Rattle.rb_base.specs.Names.{name_at}
use Rattle.image_model.specs.Words.{text_words}
use Rattle.query_model.specs.Queries.{map_query, users_nodes}
use Rattle.query_model.specs.Lines.{AreLines}
use Rattle.class_table.specs.View.{image_of}
use Rattle.image_queries.specs.Asked.{query_of}
use Rattle.image_queries.proofs.Wholes.{nodes_lined}
use Rattle.image_queries.proofs.answers.asked_nodes.Goals as goal

pub returns : goal.returns
returns g c =
    let s = c.args.image.now in
    let q = query_of c.args.query.now in
    subst (λ (text : List ℕ). AreLines (image_of s) (users_nodes text_words (image_of s) (map_query (name_at s.names) q)) text)
    (sym (c.in_ok-push_slice.ensures.ok ∙ ap (λ (t : List ℕ). c.in_ok-text.text ++ t) c.as_slice.ensures))
    (nodes_lined s c.requires.orderly q c.requires.known c.in_ok-text.text c.in_ok-doits.doits c.requires.spelled c.in_ok-text.ensures c.in_ok-doits.ensures)
