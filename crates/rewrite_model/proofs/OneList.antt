-- Nodes have one list of lines.
use Rattle.std.proofs.Common.{◌≡◌, ℕ, List, [], ◌∷◌, ◌++◌, Some, refl, ap, sym, subst, ◌∙◌}
use Rattle.std.specs.Prelude.{false}
use Rattle.token_model.specs.declared.kind.Dialect.TheVariants.{Second}
use Rattle.grammar_model.specs.Spanned.{SpannedSequence, SpannedMethod}
use Rattle.grammar_model.specs.Spans.{Span, span_at}
use Rattle.grammar_model.specs.Spelling.{SpellsDoItAt, SpellsMethodAt}
use Rattle.grammar_model.proofs.Texts.{one_SpellsDoItAt, one_SpellsMethodAt}
use Rattle.image_model.specs.Image.{EntryOf, DoItOf, ImageOf}
use Rattle.image_model.specs.Nodes.{Place, in_method, in_doit, Use}
use Rattle.query_model.specs.Lines.{Text, StandsInMethod, StandsInDoIt, StandsAt, title, node_line, AreLines, no_lines, one_line}

-- a node of a method stands at one place in its source
one_in_method : (m n : EntryOf Text) (path : List ℕ) (x y : Span) → m ≡ n → StandsInMethod m path x → StandsInMethod n path y → x ≡ y
one_in_method m n path x y same a b =
    let trees : a.tree ≡ b.tree = one_SpellsMethodAt Second false n.source a.tree b.tree (subst (λ (e : EntryOf Text). SpellsMethodAt Second false e.source a.tree) same a.spells) b.spells in
    let found : Some x ≡ Some y = sym a.at ∙ ap (λ (t : SpannedMethod). span_at t.body path) trees ∙ b.at in
    cc

-- the same for do-its
one_in_doit : (d e : DoItOf Text) (path : List ℕ) (x y : Span) → d ≡ e → StandsInDoIt d path x → StandsInDoIt e path y → x ≡ y
one_in_doit d e path x y same a b =
    let trees : a.tree ≡ b.tree = one_SpellsDoItAt Second e.source a.tree b.tree (subst (λ (f : DoItOf Text). SpellsDoItAt Second f.source a.tree) same a.spells) b.spells in
    let found : Some x ≡ Some y = sym a.at ∙ ap (λ (t : SpannedSequence). span_at t path) trees ∙ b.at in
    cc

-- a node of an image stands at one place
one_place : (i : ImageOf Text) (place : Place) (path : List ℕ) (x y : Span) → StandsAt i place path x → StandsAt i place path y → x ≡ y
one_place i (in_method k) path x y (m, p, a) (n, q, b) = let found : Some m ≡ Some n = sym p ∙ q in let same : m ≡ n = cc in one_in_method m n path x y same a b
one_place i (in_doit k) path x y (d, p, a) (e, q, b) = let found : Some d ≡ Some e = sym p ∙ q in let same : d ≡ e = cc in one_in_doit d e path x y same a b

-- nodes have one text of lines
pub one_lines : (i : ImageOf Text) (us : List Use) (text other : Text) → AreLines i us text → AreLines i us other → text ≡ other
one_lines i [] text other no_lines no_lines = refl
one_lines i (u ∷ us) text other (one_line {text = x} v a l) (one_line {text = y} w b m) =
    λ j. node_line (title i u.place) (one_place i u.place u.path v w a b j) ++ one_lines i us x y l m j
