-- A text spells one tree or has one first fault.
use Rattle.std.proofs.Common.{◌≡◌, ℕ, arith, Bool, false, List, [], ◌∷◌, ◌++◌, Option, Some, None, refl, ap, sym, subst, ◌∙◌, ◌⊎◌, inl, inr}
use Rattle.std.specs.Option.{option_map_or}
use Rattle.std.specs.Prelude.{slice_range}
use Rattle.token_model.specs.TokenLists.{Piece, HasTokens, Ended, Stopped, Further}
use Rattle.token_model.specs.declared.kind.Dialect.{Dialect}
use Rattle.token_model.specs.declared.kind.Dialect.TheVariants.{Second}
use Rattle.token_model.specs.declared.kind.TokenKind.{TokenKind}
use Rattle.token_model.specs.declared.kind.TokenKind.TheVariants as token
use Rattle.token_model.specs.declared.fault.LexFault.{LexFault}
use Rattle.token_model.proofs.Begins.{lists}
use Rattle.token_model.proofs.Lists.{HasTokens-same}
use Rattle.tree_model.specs.Tree.{Notes, TreeOf, SequenceOf, MethodOf}
use Rattle.grammar_model.specs.Terminal.{Text, Terminal}
use Rattle.grammar_model.specs.Input.{Lexeme, lex, IsEnded}
use Rattle.grammar_model.specs.Spanned.{SpannedSequence, SpannedMethod, SpannedTree, plain_tree, plain_sequence, plain_method}
use Rattle.grammar_model.specs.Ahead.{Longest}
use Rattle.grammar_model.specs.Lexemes.{terminal_of, begins_numeral, lexemes_by, lexemes_of, IsLexed}
use Rattle.grammar_model.specs.PatternTokens as pattern
use Rattle.grammar_model.specs.PatternTokens.{HasPatternTokens, pattern_terminal_of, IsPatternLexed}
use Rattle.grammar_model.specs.Whole.{Form, DoIt, Method, IsDoIt, IsMethod, PatternText, IsPatternText}
use Rattle.grammar_model.specs.Checks.{Fault}
use Rattle.grammar_model.specs.Spelling.{SpellsDoItAt, SpellsMethodAt, SpellsPatternAt, SpellsDoIt, SpellsMethod, SpellsPattern, HasFirstFault, HasFirstPatternFault}
use Rattle.grammar_model.proofs.OneTree.{one_Expression}
use Rattle.grammar_model.proofs.OneWhole.{one_IsDoIt, one_IsMethod}
use Rattle.grammar_model.proofs.MetaTokens.{pattern_lists, HasPatternTokens-same}
use Rattle.grammar_model.proofs.FirstFaults.{some_fault, some_or_none, Lexing, IsSoundText, sound_or_fault, sound_or_faulty, one_HasFaultOf}

-- one more token in front
ended_more : (c : Notes) (f e : ℕ) (k : Terminal) (ts : List Lexeme) → IsEnded ts → IsEnded (lex c f e k ∷ ts)
ended_more c f e k [] h = absurd h
ended_more c f e k (t ∷ ts) h = h

-- one token more or a comment
ended_option : (o : Option Terminal) (c : Notes) (f e : ℕ) (ts us : List Lexeme) → IsEnded ts → IsEnded us → IsEnded (option_map_or (λ k. lex c f e k ∷ ts) o us)
ended_option None c f e ts us h g = g
ended_option (Some k) c f e ts us h g = ended_more c f e k ts h

-- the last token is the end
ended_last : (k : TokenKind) (c : Notes) (f e : ℕ) (s : Text) (b : Bool) → k ≡ token.End → IsEnded (option_map_or (λ k. lex c f e k ∷ []) (terminal_of k s b) [])
ended_last k c f e s b h = subst (λ k. IsEnded (option_map_or (λ k. lex c f e k ∷ []) (terminal_of k s b) [])) (sym h) refl

-- the tokens of a text without a lexical fault end with its end
ended_tokens : (d : Dialect) (t : Text) (at : ℕ) (ps : List Piece) (fault : Option LexFault) (held : Notes) → HasTokens d t at ps fault → fault ≡ None → IsEnded (lexemes_of t held ps)
ended_tokens d t at ps fault held (Ended here p n e) none = ended_last p.kind held p.from p.to (slice_range t p.from p.to) false e
ended_tokens d t at ps fault held (Stopped here f n) none = let k : Some f ≡ None = none in cc
ended_tokens d t at ps fault held (Further here p qs f n e r) none =
    ended_option (terminal_of p.kind (slice_range t p.from p.to) (begins_numeral p.to qs)) held p.from p.to (lexemes_of t [] qs) (lexemes_of t (held ++ slice_range t p.from p.to ∷ []) qs)
    (ended_tokens d t p.to qs f [] r none) (ended_tokens d t p.to qs f (held ++ slice_range t p.from p.to ∷ []) r none)

-- the tokens of a text end with its end
pub IsLexed-ended : (d : Dialect) (t : Text) (ts : List Lexeme) → IsLexed d t ts → IsEnded ts
IsLexed-ended d t ts l = subst IsEnded (sym l.same) (ended_tokens d t 0 l.pieces None [] l.read refl)

-- a text has one list of tokens
pub IsLexed-same : (d : Dialect) (t : Text) (ts us : List Lexeme) → IsLexed d t ts → IsLexed d t us → ts ≡ us
IsLexed-same d t ts us a b = a.same ∙ ap (lexemes_of t []) (HasTokens-same d t 0 a.pieces b.pieces None None a.read b.read).0 ∙ sym b.same

-- the last token of a pattern is the end
pattern_ended_last : (k : TokenKind) (c : Notes) (f e : ℕ) (s : Text) (b : Bool) → k ≡ token.End → IsEnded (option_map_or (λ k. lex c f e k ∷ []) (pattern_terminal_of k s b) [])
pattern_ended_last k c f e s b h = subst (λ k. IsEnded (option_map_or (λ k. lex c f e k ∷ []) (pattern_terminal_of k s b) [])) (sym h) refl

-- the tokens of a pattern without a lexical fault end with its end
pattern_ended_tokens : (d : Dialect) (t : Text) (at : ℕ) (ps : List Piece) (fault : Option LexFault) (held : Notes) → HasPatternTokens d t at ps fault → fault ≡ None → IsEnded (lexemes_by pattern_terminal_of t held ps)
pattern_ended_tokens d t at ps fault held (pattern.Ended here p n e) none = pattern_ended_last p.kind held p.from p.to (slice_range t p.from p.to) false e
pattern_ended_tokens d t at ps fault held (pattern.Stopped here f n) none = let k : Some f ≡ None = none in cc
pattern_ended_tokens d t at ps fault held (pattern.Further here p qs f n e r) none =
    ended_option (pattern_terminal_of p.kind (slice_range t p.from p.to) (begins_numeral p.to qs)) held p.from p.to (lexemes_by pattern_terminal_of t [] qs) (lexemes_by pattern_terminal_of t (held ++ slice_range t p.from p.to ∷ []) qs)
    (pattern_ended_tokens d t p.to qs f [] r none) (pattern_ended_tokens d t p.to qs f (held ++ slice_range t p.from p.to ∷ []) r none)

-- a pattern has one list of tokens
pub IsPatternLexed-same : (d : Dialect) (t : Text) (ts us : List Lexeme) → IsPatternLexed d t ts → IsPatternLexed d t us → ts ≡ us
IsPatternLexed-same d t ts us a b = a.same ∙ ap (lexemes_by pattern_terminal_of t []) (HasPatternTokens-same d t 0 a.pieces b.pieces None None a.read b.read).0 ∙ sym b.same

-- how a text is read has one result
lexing : (d : Dialect) (t : Text) → Lexing (HasTokens d t 0) (IsLexed d t)
lexing d t = record {
  either = decide (lists d t 0 (omega arith));
  same = IsLexed-same d t;
  ended = IsLexed-ended d t;
  one_fault = λ ps qs e f h g. some_fault (HasTokens-same d t 0 ps qs (Some e) (Some f) h g).1;
  not_both = λ ps e ts h l. some_or_none (HasTokens-same d t 0 ps l.pieces (Some e) None h l.read).1;
}
  where
    decide : (ps : List Piece) × (f : Option LexFault) × HasTokens d t 0 ps f → ((ts : List Lexeme) × IsLexed d t ts) ⊎ ((ps : List Piece) × (fault : LexFault) × HasTokens d t 0 ps (Some fault))
    decide (ps, None, h) = inl (lexemes_of t [] ps, record { pieces = ps; read = h; same = refl })
    decide (ps, Some f, h) = inr (ps, f, h)

-- how a pattern is read has one result
pattern_lexing : (d : Dialect) (t : Text) → Lexing (HasPatternTokens d t 0) (IsPatternLexed d t)
pattern_lexing d t = record {
  either = decide (pattern_lists d t 0 (omega arith));
  same = IsPatternLexed-same d t;
  ended = λ ts l. subst IsEnded (sym l.same) (pattern_ended_tokens d t 0 l.pieces None [] l.read refl);
  one_fault = λ ps qs e f h g. some_fault (HasPatternTokens-same d t 0 ps qs (Some e) (Some f) h g).1;
  not_both = λ ps e ts h l. some_or_none (HasPatternTokens-same d t 0 ps l.pieces (Some e) None h l.read).1;
}
  where
    decide : (ps : List Piece) × (f : Option LexFault) × HasPatternTokens d t 0 ps f → ((ts : List Lexeme) × IsPatternLexed d t ts) ⊎ ((ps : List Piece) × (fault : LexFault) × HasPatternTokens d t 0 ps (Some fault))
    decide (ps, None, h) = inl (lexemes_by pattern_terminal_of t [] ps, record { pieces = ps; read = h; same = refl })
    decide (ps, Some f, h) = inr (ps, f, h)

-- a text spells one tree
pub one_SpellsDoItAt : (d : Dialect) (t : Text) (v w : SpannedSequence) → SpellsDoItAt d t v → SpellsDoItAt d t w → v ≡ w
one_SpellsDoItAt d t v w a b = one_IsDoIt v w (subst (λ ts. IsDoIt Longest ts v) (IsLexed-same d t a.tokens b.tokens a.lexed b.lexed) a.grammar) b.grammar

-- the same for methods
pub one_SpellsMethodAt : (d : Dialect) (kernel : Bool) (t : Text) (v w : SpannedMethod) → SpellsMethodAt d kernel t v → SpellsMethodAt d kernel t w → v ≡ w
one_SpellsMethodAt d kernel t v w a b = one_IsMethod v w (subst (λ ts. IsMethod Longest kernel ts v) (IsLexed-same d t a.tokens b.tokens a.lexed b.lexed) a.grammar) b.grammar

-- the same without places
pub one_SpellsDoIt : (d : Dialect) (t : Text) (v w : SequenceOf Text) → SpellsDoIt d t v → SpellsDoIt d t w → v ≡ w
one_SpellsDoIt d t v w a b = a.same ∙ ap plain_sequence (one_SpellsDoItAt d t a.spanned b.spanned a.spells b.spells) ∙ sym b.same

-- the same for methods without places
pub one_SpellsMethod : (d : Dialect) (kernel : Bool) (t : Text) (v w : MethodOf Text) → SpellsMethod d kernel t v → SpellsMethod d kernel t w → v ≡ w
one_SpellsMethod d kernel t v w a b = a.same ∙ ap plain_method (one_SpellsMethodAt d kernel t a.spanned b.spanned a.spells b.spells) ∙ sym b.same

-- a text spells one pattern
pub one_SpellsPatternAt : (d : Dialect) (t : Text) (p q : SpannedTree) → SpellsPatternAt d t p → SpellsPatternAt d t q → p ≡ q
one_SpellsPatternAt d t p q a b =
    (one_Expression (subst (λ ts. IsPatternText Longest ts p) (IsPatternLexed-same d t a.tokens b.tokens a.lexed b.lexed) a.grammar).expression b.grammar.expression refl).0

-- the same without places
pub one_SpellsPattern : (t : Text) (p q : TreeOf Text) → SpellsPattern t p → SpellsPattern t q → p ≡ q
one_SpellsPattern t p q a b = a.same ∙ ap plain_tree (one_SpellsPatternAt Second t a.spanned b.spanned a.spells b.spells) ∙ sym b.same

-- a text has one first fault at most
pub one_HasFirstFault : (d : Dialect) (form : Form) (t : Text) (v w : Fault) → HasFirstFault d form t v → HasFirstFault d form t w → v ≡ w
one_HasFirstFault d form t v w a b = one_HasFaultOf (lexing d t) form v w a b

-- the same of patterns
pub one_HasFirstPatternFault : (t : Text) (v w : Fault) → HasFirstPatternFault t v → HasFirstPatternFault t w → v ≡ w
one_HasFirstPatternFault t v w a b = one_HasFaultOf (pattern_lexing Second t) PatternText v w a b

-- a do-it without any fault has no first fault
pub no_fault_DoIt : (d : Dialect) (t : Text) (s : SequenceOf Text) (v : Fault) → SpellsDoIt d t s → ¬ HasFirstFault d DoIt t v
no_fault_DoIt d t s v a f =
    let h = a.spells in
    sound_or_faulty (lexing d t) DoIt v (record { tokens = h.tokens; lexed = h.lexed; shallow = h.shallow; sound = (a.spanned, h.grammar, h.sound) }) f

-- the same for methods
pub no_fault_Method : (d : Dialect) (kernel : Bool) (t : Text) (m : MethodOf Text) (v : Fault) → SpellsMethod d kernel t m → ¬ HasFirstFault d (Method kernel) t v
no_fault_Method d kernel t m v a f =
    let h = a.spells in
    sound_or_faulty (lexing d t) (Method kernel) v (record { tokens = h.tokens; lexed = h.lexed; shallow = h.shallow; sound = (a.spanned, h.grammar, h.sound) }) f

-- the same for patterns
pub no_fault_Pattern : (t : Text) (p : TreeOf Text) (v : Fault) → SpellsPattern t p → ¬ HasFirstPatternFault t v
no_fault_Pattern t p v a f =
    let h = a.spells in
    sound_or_faulty (pattern_lexing Second t) PatternText v (record { tokens = h.tokens; lexed = h.lexed; shallow = h.shallow; sound = (a.spanned, h.grammar, h.sound) }) f

-- what a text spells, with the places of its parts; as no pattern, since none of its tokens is a metavariable
abbrev pub SpellsSome : Dialect → Form → Text → Type 0
SpellsSome d DoIt t = (s : SpannedSequence) × SpellsDoItAt d t s
SpellsSome d (Method kernel) t = (m : SpannedMethod) × SpellsMethodAt d kernel t m
SpellsSome d PatternText t = IsSoundText (IsLexed d t) PatternText

-- a text without a fault spells something
spells_some : (d : Dialect) (form : Form) (t : Text) → IsSoundText (IsLexed d t) form → SpellsSome d form t
spells_some d DoIt t h = (h.sound.0, record { tokens = h.tokens; lexed = h.lexed; shallow = h.shallow; grammar = h.sound.1; sound = h.sound.2 })
spells_some d (Method kernel) t h = (h.sound.0, record { tokens = h.tokens; lexed = h.lexed; shallow = h.shallow; grammar = h.sound.1; sound = h.sound.2 })
spells_some d PatternText t h = h

-- each text spells something or has a first fault
pub spells_or_fault : (d : Dialect) (form : Form) (t : Text) → SpellsSome d form t ⊎ ((fault : Fault) × HasFirstFault d form t fault)
spells_or_fault d form t = elim (sound_or_fault (lexing d t) form) [
  | inl h ↦ inl (spells_some d form t h)
  | inr f ↦ inr f
]

-- each text spells a do-it or has a fault
pub doit_or_fault : (d : Dialect) (t : Text) → ((s : SequenceOf Text) × SpellsDoIt d t s) ⊎ ((fault : Fault) × HasFirstFault d DoIt t fault)
doit_or_fault d t = decide (spells_or_fault d DoIt t)
  where
    decide : SpellsSome d DoIt t ⊎ ((fault : Fault) × HasFirstFault d DoIt t fault) → ((s : SequenceOf Text) × SpellsDoIt d t s) ⊎ ((fault : Fault) × HasFirstFault d DoIt t fault)
    decide (inl (s, h)) = inl (plain_sequence s, record { spanned = s; spells = h; same = refl })
    decide (inr f) = inr f

-- each text spells a method or has a fault
pub method_or_fault : (d : Dialect) (kernel : Bool) (t : Text) → ((m : MethodOf Text) × SpellsMethod d kernel t m) ⊎ ((fault : Fault) × HasFirstFault d (Method kernel) t fault)
method_or_fault d kernel t = decide (spells_or_fault d (Method kernel) t)
  where
    decide : SpellsSome d (Method kernel) t ⊎ ((fault : Fault) × HasFirstFault d (Method kernel) t fault) → ((m : MethodOf Text) × SpellsMethod d kernel t m) ⊎ ((fault : Fault) × HasFirstFault d (Method kernel) t fault)
    decide (inl (m, h)) = inl (plain_method m, record { spanned = m; spells = h; same = refl })
    decide (inr f) = inr f

-- each text spells a pattern or has a fault
pub pattern_or_fault : (t : Text) → ((p : TreeOf Text) × SpellsPattern t p) ⊎ ((fault : Fault) × HasFirstPatternFault t fault)
pattern_or_fault t = decide (sound_or_fault (pattern_lexing Second t) PatternText)
  where
    decide : IsSoundText (IsPatternLexed Second t) PatternText ⊎ ((fault : Fault) × HasFirstPatternFault t fault) → ((p : TreeOf Text) × SpellsPattern t p) ⊎ ((fault : Fault) × HasFirstPatternFault t fault)
    decide (inl h) =
        let p = h.sound.0 in
        inl (plain_tree p, record { spanned = p; spells = record { tokens = h.tokens; lexed = h.lexed; shallow = h.shallow; grammar = h.sound.1; sound = h.sound.2 }; same = refl })
    decide (inr f) = inr f
