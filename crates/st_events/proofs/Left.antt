-- What is left of a text gives the rest of what is found in the whole.
use Rattle.std.proofs.Common.{◌≡◌, ◌≢◌, ℕ, true, false, List, [], refl, sym, ◌∙◌, ap}
use Rattle.std.specs.Prelude.{if◌then◌else◌}
use Rattle.token_model.specs.declared.kind.Dialect.TheVariants.{Second}
use Rattle.tree_model.specs.Tree.{Notes, LiteralOf}
use Rattle.grammar_model.specs.Terminal.{Text}
use Rattle.grammar_model.specs.Input.{Lexeme, lex}
use Rattle.grammar_model.specs.Whole.{Form}
use Rattle.grammar_model.specs.PatternTokens.{IsLexedAs}
use Rattle.st_faults.specs.declared.sort.Sort.{Sort}
use Rattle.st_faults.specs.declared.sort.Sort.TheVariants.{TextEnd}
use Rattle.st_faults.specs.Sorts.{terminal}
use Rattle.st_faults.specs.Lexing.{IsLexedFrom}
use Rattle.st_faults.proofs.Listed.{lexed_from}
use Rattle.st_events.specs.declared.reader.Reader.{Reader}
use Rattle.st_events.specs.declared.token.Token.{Token}
use Rattle.st_events.specs.Classes.{is_end}
use Rattle.st_events.specs.Steps.{step, run}
use Rattle.st_events.specs.Tokens.{seen, Begins}

-- the reader that stands at a place of the text comes to the end
pub record Left (form : Form) (t : Text) (at : ℕ) (r end : Reader) : Type 0 where
  pub rest : List Lexeme
  pub lexed : IsLexedFrom form t at [] rest
  pub same : end ≡ run r rest

-- nothing was read yet
pub left_whole : (form : Form) (t : Text) (r : Reader) (ts : List Lexeme) → IsLexedAs form Second t ts → Left form t 0 r (run r ts)
left_whole form t r ts lexed = record { rest = ts; lexed = lexed_from form t ts lexed; same = refl }

-- the sort of the end
end_seen : (sort : Sort) (s : Text) (l : LiteralOf Text) → sort ≡ TextEnd → is_end (terminal sort s l) ≡ true
end_seen sort s l e = ap (λ x. is_end (terminal x s l)) e

-- any other sort
other_seen : (sort : Sort) (s : Text) (l : LiteralOf Text) → sort ≢ TextEnd → is_end (terminal sort s l) ≡ false
other_seen TextEnd s l other = absurd (other refl)
other_seen sort s l other = refl

-- one token was read
pub left_one : (form : Form) (t : Text) (at : ℕ) (k : Token) (notes : Notes) (r s end : Reader) (h : Left form t at r end) → Begins form t k notes h.rest → k.sort ≢ TextEnd → s ≡ step r.stack r (lex notes k.from k.to (seen k)) → Left form t k.to s end
left_one form t at k notes r s end h b other e =
    let one = step r.stack r (lex notes k.from k.to (seen k)) in
    record {
      rest = b.rest;
      lexed = b.behind other;
      same = h.same ∙ ap (run r) b.whole ∙ ap (λ x. if x then one else run one b.rest) (other_seen k.sort k.text.now _ other) ∙ ap (λ x. run x b.rest) (sym e);
    }

-- the last token was read
pub left_last : (form : Form) (t : Text) (at : ℕ) (k : Token) (notes : Notes) (r s end : Reader) (h : Left form t at r end) → Begins form t k notes h.rest → k.sort ≡ TextEnd → s ≡ step r.stack r (lex notes k.from k.to (seen k)) → s ≡ end
left_last form t at k notes r s end h b last e =
    let one = step r.stack r (lex notes k.from k.to (seen k)) in
    e ∙ sym (h.same ∙ ap (run r) b.whole ∙ ap (λ x. if x then one else run one b.rest) (end_seen k.sort k.text.now _ last))
