-- The places of metavariables, read token by token.
use Rattle.std.proofs.Common.{◌≡◌, ℕ, Bool, false, List, [], ◌∷◌, ◌++◌, Option, Some, None, refl, sym, ap, subst, ◌∙◌}
use Rattle.std.specs.Prelude.{◌≢◌, slice_index, slice_range}
use Rattle.token_model.specs.Bytes.{is_digit}
use Rattle.token_model.specs.TokenLists.{Piece}
use Rattle.token_model.specs.declared.kind.Dialect.TheVariants.{Second}
use Rattle.token_model.specs.declared.kind.TokenKind.{TokenKind}
use Rattle.token_model.specs.declared.kind.TokenKind.TheVariants.{End}
use Rattle.token_model.specs.declared.fault.LexFault.{LexFault}
use Rattle.tree_model.specs.Tree.{Notes}
use Rattle.grammar_model.specs.Terminal.{Text, Terminal}
use Rattle.grammar_model.specs.Input.{Lexeme}
use Rattle.grammar_model.specs.Lexemes.{lexemes_by, begins_numeral}
use Rattle.grammar_model.specs.PatternTokens.{IsPatternNext, IsPatternNextFault, HasPatternTokens, Ended, Stopped, Further, pattern_terminal_of, IsPatternLexed}
use Rattle.grammar_model.specs.Whole.{PatternText}
use Rattle.grammar_model.proofs.MetaTokens.{HasPatternTokens-same}
use Rattle.st_faults.proofs.Signs.{begins_numeral-digit}
use Rattle.pattern_trees.specs.Faults.{meta_places}
use Rattle.pattern_faults.specs.Metas.{places_from}

-- the places among the tokens of these pieces
abbrev pub places_of : Text → Bool → List Piece → List ℕ
places_of t ends ps = meta_places ends (lexemes_by pattern_terminal_of t [] ps)

-- comments before a token change no place
held_free : (t : Text) (ends : Bool) (c d : Notes) (ps : List Piece) → meta_places ends (lexemes_by pattern_terminal_of t c ps) ≡ meta_places ends (lexemes_by pattern_terminal_of t d ps)
held_free t ends c d [] = refl
held_free t ends c d (p ∷ ps) = by (pattern_terminal_of p.kind (slice_range t p.from p.to) (begins_numeral p.to ps)) refl (held_free t ends (c ++ slice_range t p.from p.to ∷ []) (d ++ slice_range t p.from p.to ∷ []) ps)
  where
    by : (o : Option Terminal) → pattern_terminal_of p.kind (slice_range t p.from p.to) (begins_numeral p.to ps) ≡ o
        → meta_places ends (lexemes_by pattern_terminal_of t (c ++ slice_range t p.from p.to ∷ []) ps) ≡ meta_places ends (lexemes_by pattern_terminal_of t (d ++ slice_range t p.from p.to ∷ []) ps)
        → meta_places ends (lexemes_by pattern_terminal_of t c (p ∷ ps)) ≡ meta_places ends (lexemes_by pattern_terminal_of t d (p ∷ ps))
    by None e rest = rw e rest
    by (Some k) e rest = rw e refl

-- the places from one token on
one_token : (t : Text) (ends : Bool) (p : Piece) (ps : List Piece)
    → places_of t ends (p ∷ ps) ≡ places_from ends (pattern_terminal_of p.kind (slice_range t p.from p.to) (begins_numeral p.to ps)) p.from (λ later. places_of t later ps)
one_token t ends p ps = by (pattern_terminal_of p.kind (slice_range t p.from p.to) (begins_numeral p.to ps)) refl
  where
    by : (o : Option Terminal) → pattern_terminal_of p.kind (slice_range t p.from p.to) (begins_numeral p.to ps) ≡ o → places_of t ends (p ∷ ps) ≡ places_from ends o p.from (λ later. places_of t later ps)
    by None e = rw e (held_free t ends (slice_range t p.from p.to ∷ []) [] ps)
    by (Some k) e = rw e refl

-- Up to here the text has no lexical fault, and these places: what comes further on is what comes behind them.
pub record ReadTo (t : Text) (at : ℕ) (ends : Bool) (places : List ℕ) : Type 0 where
  pub joined : (ps : List Piece) → HasPatternTokens Second t at ps None → (qs : List Piece) × HasPatternTokens Second t 0 qs None × (places_of t false qs ≡ places ++ places_of t ends ps)
  pub fault : (ps : List Piece) (x : LexFault) → HasPatternTokens Second t at ps (Some x) → (qs : List Piece) × HasPatternTokens Second t 0 qs (Some x)

pub none_read : (t : Text) → ReadTo t 0 false []
none_read t = record { joined = λ ps h. (ps, h, refl); fault = λ ps x h. (ps, h) }

-- one more token
pub one_read : (t : Text) (at : ℕ) (ends later : Bool) (places more : List ℕ) (p : Piece) (o : Option Terminal) → ReadTo t at ends places → IsPatternNext Second t at p → p.kind ≢ End
    → pattern_terminal_of p.kind (slice_range t p.from p.to) (is_digit (slice_index t p.to)) ≡ o
    → ((rest : Bool → List ℕ) → more ++ rest later ≡ places ++ places_from ends o p.from rest) → ReadTo t p.to later more
one_read t at ends later places more p o r n e seen put = record {
  joined = λ ps h.
      let all = r.joined (p ∷ ps) (Further at p ps None n e h) in
      let digit : begins_numeral p.to ps ≡ is_digit (slice_index t p.to) = begins_numeral-digit PatternText t p.to ps h in (
        all.0,
        all.1,
        all.2
            ∙ ap (λ xs. places ++ xs) (one_token t ends p ps ∙ ap (λ x. places_from ends x p.from (λ l. places_of t l ps)) (ap (pattern_terminal_of p.kind (slice_range t p.from p.to)) digit ∙ seen))
            ∙ sym (put (λ l. places_of t l ps)),
      );
  fault = λ ps x h. r.fault (p ∷ ps) x (Further at p ps (Some x) n e h);
}

-- the end of the text
pub last_read : (t : Text) (at : ℕ) (ends : Bool) (places : List ℕ) (p : Piece) → ReadTo t at ends places → IsPatternNext Second t at p → p.kind ≡ End
    → (tokens : List Lexeme) → IsPatternLexed Second t tokens → places ≡ meta_places false tokens
last_read t at ends places p r n e tokens l =
    let all = r.joined (p ∷ []) (Ended at p n e) in
    let same = (HasPatternTokens-same Second t 0 all.0 l.pieces None None all.1 l.read).0 in
    sym (append_nil places)
    ∙ ap (λ xs. places ++ xs) (sym (none_behind (begins_numeral p.to []) p.kind e))
    ∙ sym all.2 ∙ ap (λ qs. places_of t false qs) same ∙ ap (λ ts. meta_places false ts) (sym l.same)
  where
    append_nil : (xs : List ℕ) → xs ++ [] ≡ xs
    append_nil [] = refl
    append_nil (x ∷ xs) = ap (λ ys. x ∷ ys) (append_nil xs)

    none_behind : (b : Bool) (kind : TokenKind) → kind ≡ End → places_of t ends (p ∷ []) ≡ []
    none_behind b kind h = one_token t ends p [] ∙ subst (λ k. places_from ends (pattern_terminal_of k (slice_range t p.from p.to) (begins_numeral p.to [])) p.from (λ later. []) ≡ []) (sym e) refl

-- a fault
pub fault_read : (t : Text) (at : ℕ) (ends : Bool) (places : List ℕ) (x : LexFault) → ReadTo t at ends places → IsPatternNextFault Second t at x → (tokens : List Lexeme) → ¬ IsPatternLexed Second t tokens
fault_read t at ends places x r f tokens = λ l.
    let all = r.fault [] x (Stopped at x f) in
    let bad : Some x ≡ None = (HasPatternTokens-same Second t 0 all.0 l.pieces (Some x) None all.1 l.read).1 in
    let worse : ⊥ = cc bad in worse
