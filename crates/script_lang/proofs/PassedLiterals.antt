-- What lines of `addParameter` ask for.
use Rattle.std.proofs.Common.{◌≡◌, ℕ, ◌<◌, Bool, true, false, if◌then◌else◌, List, [], ◌∷◌, length, Option, Some, None, Result, Ok, Err, get_or, refl, sym, ap, subst, ◌∙◌, arith}
use Rattle.std.specs.Option.{option_map, option_map_or}
use Rattle.token_model.specs.declared.kind.Dialect.TheVariants.{Second}
use Rattle.rb_base.specs.Names.{name_at}
use Rattle.rb_base.specs.declared.text.Span.{Span}
use Rattle.tree_model.specs.Tree.{LiteralOf, SequenceOf, map_literal, map_names, map_statements}
use Rattle.st_tree.specs.declared.tree.Statement.{Statement}
use Rattle.st_tree.specs.View.{statements_of}
use Rattle.grammar_model.specs.Spans as spans
use Rattle.grammar_model.specs.Spanned.{SpannedSequence, plain_sequence}
use Rattle.grammar_model.specs.Spelling.{SpellsDoIt}
use Rattle.grammar_model.proofs.Texts.{one_SpellsDoItAt}
use Rattle.event_spans.specs.Answers.{to_span, of_span}
use Rattle.event_trees.specs.Naming.{Grows}
use Rattle.event_trees.proofs.Known.{Grows-twice}
use Rattle.st_spans.specs.Trees.{OfDoIt}
use Rattle.command_model.specs.Commands.{AddParameter}
use Rattle.session_model.specs.Scripts.{Request}
use Rattle.script_model.specs.Makers.{Text, single}
use Rattle.script_model.specs.Commands.{Cause, BadArgument}
use Rattle.script_model.specs.Parameters.{Parameter, parameter_of, literal_of, only_literal, is_alone, stands_alone, literal_in, passing, AddsParameter, Read, Unreadable}
use Rattle.script_lang.specs.Passing as other
use Rattle.script_lang.specs.Passing.{IsNoLiteral}
use Rattle.script_lang.proofs.Growing.{name_at-grown}

-- where the first statement stands
pub alone-at : (t : Text) (o : Option spans.Span) (span : Span) → Some span ≡ option_map to_span o → is_alone t (of_span span) ≡ option_map_or (is_alone t) o false
alone-at t None span e = absurd (cc)
alone-at t (Some x) span e = let same : span ≡ to_span x = cc in ap (λ (s : Span). is_alone t (of_span s)) same

pub alone-nowhere : (t : Text) (o : Option spans.Span) → (let n : Option Span = None in n) ≡ option_map to_span o → false ≡ option_map_or (is_alone t) o false
alone-nowhere t None e = refl
alone-nowhere t (Some x) e = absurd (cc)

module _ (t : Text) (alone : Bool) (found : OfDoIt t (λ s. alone ≡ stands_alone t s)) where
  -- a text that is not one node alone
  pub not-alone : alone ≡ false → OfDoIt t (λ s. literal_in t s ≡ None)
  not-alone e = record {
    tree = found.tree;
    spells = found.spells;
    holds = ap (λ (b : Bool). if b then only_literal (plain_sequence found.tree).statements else None) (sym found.holds ∙ e);
  }

  -- a text whose first node stands alone
  pub read-literal : (body : SequenceOf Text) (o : Option (LiteralOf Text)) → alone ≡ true → SpellsDoIt Second t body → o ≡ only_literal body.statements → OfDoIt t (λ s. literal_in t s ≡ o)
  read-literal body o e spelled is =
      let trees : spelled.spanned ≡ found.tree = one_SpellsDoItAt Second t spelled.spanned found.tree spelled.spells found.spells in
      record {
        tree = found.tree;
        spells = found.spells;
        holds =
            ap (λ (b : Bool). if b then only_literal (plain_sequence found.tree).statements else None) (sym found.holds ∙ e)
            ∙ ap (λ (s : SpannedSequence). only_literal (plain_sequence s).statements) (sym trees)
            ∙ ap (λ (s : SequenceOf Text). only_literal s.statements) (sym spelled.same)
            ∙ sym is;
      }

module _ {t : Text} (p : Parameter) (is : parameter_of t ≡ Some p) where
  -- a text that is no literal
  pub no-literal : IsNoLiteral p.passed → AddsParameter t (Err BadArgument)
  no-literal (other.Unreadable f) = Unreadable p f.0 is f.1 refl
  no-literal (other.Other found) = Read p found.tree is found.spells (ap (passing p) (sym found.holds))

  -- a literal, over a table of names that grew
  pub passes-literal : (l : LiteralOf Text) → OfDoIt p.passed (λ s. literal_in p.passed s ≡ Some l) → AddsParameter t (Ok (single (AddParameter p.selector p.to p.name l)))
  passes-literal l found = Read p found.tree is found.spells (ap (passing p) (sym found.holds))

  pub passed-said : {one two three later : List Text} (s u x : ℕ) (l : LiteralOf ℕ) → Grows one two → Grows two three → Grows three later →
      s < length one → u < length two → x < length three → name_at one s ≡ p.selector → name_at two u ≡ p.to → name_at three x ≡ p.name →
      OfDoIt p.passed (λ tree. literal_in p.passed tree ≡ Some (map_literal (name_at later) l)) →
      AddsParameter t (Ok (single (AddParameter (name_at later s) (name_at later u) (name_at later x) (map_literal (name_at later) l))))
  passed-said {one} {two} {three} {later} s u x l g h j known there here a b c found =
      let first : name_at later s ≡ p.selector = name_at-grown (Grows-twice (Grows-twice g h) j) s known ∙ a in
      let second : name_at later u ≡ p.to = name_at-grown (Grows-twice h j) u there ∙ b in
      let third : name_at later x ≡ p.name = name_at-grown j x here ∙ c in
      subst (AddsParameter t) (λ i. let r : Result Request Cause = Ok (single (AddParameter (sym first i) (sym second i) (sym third i) (map_literal (name_at later) l))) in r) (passes-literal (map_literal (name_at later) l) found)

-- a statement alone, and statements that are not one
pub one-statement : (f : ℕ → Text) (ss : List Statement) (a : Statement) → length ss ≡ 1 → a ≡ get_or ss 0 a → literal_of (map_names f a.node) ≡ only_literal (map_statements f (statements_of ss))
one-statement f [] a h e = absurd (omega (arith, h))
one-statement f (s ∷ []) a h e = ap (λ (x : Statement). literal_of (map_names f x.node)) e
one-statement f (s ∷ t ∷ ss) a h e = absurd (omega (arith, h))

pub no-statement : (f : ℕ → Text) (ss : List Statement) → (length ss ≡ 1 → ⊥) → None ≡ only_literal (map_statements f (statements_of ss))
no-statement f [] h = refl
no-statement f (s ∷ []) h = absurd (h refl)
no-statement f (s ∷ t ∷ ss) h = refl
