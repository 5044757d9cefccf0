-- A question has one answer.
use Rattle.std.proofs.Common.{◌≡◌, ℕ, List, [], ◌∷◌, ◌++◌, Some, refl, ap, sym, subst, ◌∙◌}
use Rattle.std.specs.Prelude.{false, flat_map}
use Rattle.token_model.specs.declared.kind.Dialect.TheVariants.{Second}
use Rattle.grammar_model.specs.Spanned.{SpannedSequence, SpannedMethod}
use Rattle.grammar_model.specs.Spans.{Span, span_at}
use Rattle.grammar_model.specs.Spelling.{SpellsDoItAt, SpellsMethodAt}
use Rattle.grammar_model.proofs.Texts.{one_SpellsDoItAt, one_SpellsMethodAt}
use Rattle.image_model.specs.Image.{EntryOf, DoItOf, ImageOf}
use Rattle.image_model.specs.Words.{text_words}
use Rattle.image_model.specs.Nodes.{Place, in_method, in_doit, Use}
use Rattle.query_model.specs.Queries.{QueryOf, methods_asked}
use Rattle.query_model.specs.Lines.{Text, StandsInMethod, StandsInDoIt, StandsAt, title, method_line, node_line, AreLines, no_lines, one_line, IsAnswer}

-- a node of a method stands at one place in its source
one_in_method : (m n : EntryOf Text) (path : List ℕ) (x y : Span) → m ≡ n → StandsInMethod m path x → StandsInMethod n path y → x ≡ y
one_in_method m n path x y same a b =
    let trees : a.tree ≡ b.tree = one_SpellsMethodAt Second false n.source a.tree b.tree (subst (λ (e : EntryOf Text). SpellsMethodAt Second false e.source a.tree) same a.spells) b.spells in
    let found : Some x ≡ Some y = sym a.at ∙ ap (λ (t : SpannedMethod). span_at t.body path) trees ∙ b.at in
    cc

-- a node of a do-it stands at one place in its source
one_in_doit : (d e : DoItOf Text) (path : List ℕ) (x y : Span) → d ≡ e → StandsInDoIt d path x → StandsInDoIt e path y → x ≡ y
one_in_doit d e path x y same a b =
    let trees : a.tree ≡ b.tree = one_SpellsDoItAt Second e.source a.tree b.tree (subst (λ (f : DoItOf Text). SpellsDoItAt Second f.source a.tree) same a.spells) b.spells in
    let found : Some x ≡ Some y = sym a.at ∙ ap (λ (t : SpannedSequence). span_at t path) trees ∙ b.at in
    cc

-- a node stands at one place
one_place : (i : ImageOf Text) (place : Place) (path : List ℕ) (x y : Span) → StandsAt i place path x → StandsAt i place path y → x ≡ y
one_place i (in_method k) path x y (m, p, a) (n, q, b) =
    let found : Some m ≡ Some n = sym p ∙ q in
    let same : m ≡ n = cc in
    one_in_method m n path x y same a b
one_place i (in_doit k) path x y (d, p, a) (e, q, b) =
    let found : Some d ≡ Some e = sym p ∙ q in
    let same : d ≡ e = cc in
    one_in_doit d e path x y same a b

-- the line of the first node, and the lines of the others
record Headed (i : ImageOf Text) (u : Use) (us : List Use) (text : Text) : Type 0 where
  span : Span
  rest : Text
  stands : StandsAt i u.place u.path span
  lines : AreLines i us rest
  is : text ≡ node_line (title i u.place) span ++ rest

headed : (i : ImageOf Text) (u : Use) (us : List Use) (text : Text) → AreLines i (u ∷ us) text → Headed i u us text
headed i u us text (one_line {text = rest} span stands lines) = record { span = span; rest = rest; stands = stands; lines = lines; is = refl }

-- no node has no line
none : (i : ImageOf Text) (text : Text) → AreLines i [] text → text ≡ []
none i text no_lines = refl

-- nodes have one text of lines
one_lines : (i : ImageOf Text) (us : List Use) (text other : Text) → AreLines i us text → AreLines i us other → text ≡ other
one_lines i [] text other a b = none i text a ∙ sym (none i other b)
one_lines i (u ∷ us) text other a b =
    let h = headed i u us text a in
    let k = headed i u us other b in
    let spans : h.span ≡ k.span = one_place i u.place u.path h.span k.span h.stands k.stands in
    let rests : h.rest ≡ k.rest = one_lines i us h.rest k.rest h.lines k.lines in
    h.is ∙ (λ j. node_line (title i u.place) (spans j) ++ rests j) ∙ sym k.is

-- a question has one answer
pub one_answer : (i : ImageOf Text) (q : QueryOf Text) (text other : Text) → IsAnswer i q text → IsAnswer i q other → text ≡ other
one_answer i q text other a b =
    a.is ∙ ap (λ (t : Text). flat_map method_line (methods_asked text_words i q) ++ t) (one_lines i _ a.nodes b.nodes a.lines b.lines) ∙ sym b.is
