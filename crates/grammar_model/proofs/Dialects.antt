-- A text without brace arrays is the same in both dialects.
use Rattle.std.proofs.Common.{◌≡◌, ℕ, Bool, List, Option, Some, None, refl}
use Rattle.token_model.specs.TokenLists.{Piece, IsNext, HasTokens, Ended, Stopped, Further}
use Rattle.token_model.specs.declared.kind.Dialect.TheVariants.{First, Second}
use Rattle.token_model.specs.declared.fault.LexFault.{LexFault}
use Rattle.token_model.proofs.Dialects.{IsToken-second}
use Rattle.tree_model.specs.Tree.{SequenceOf, MethodOf}
use Rattle.grammar_model.specs.Terminal.{Text}
use Rattle.grammar_model.specs.Input.{Lexeme}
use Rattle.grammar_model.specs.Lexemes.{IsLexed}
use Rattle.grammar_model.specs.Spelling.{SpellsDoIt, SpellsMethod}

-- the next token is the same
next_second : (t : Text) (at : ℕ) (p : Piece) → IsNext First t at p → IsNext Second t at p
next_second t at p n = record { blanks = n.blanks; token = IsToken-second p.kind t p.from p.to n.token }

-- all tokens are the same
tokens_second : (t : Text) (at : ℕ) (ps : List Piece) (fault : Option LexFault) → HasTokens First t at ps fault → fault ≡ None → HasTokens Second t at ps None
tokens_second t at ps fault (Ended here p n e) none = Ended here p (next_second t here p n) e
tokens_second t at ps fault (Stopped here f n) none = let k : Some f ≡ None = none in cc
tokens_second t at ps fault (Further here p qs f n e r) none = Further here p qs None (next_second t here p n) e (tokens_second t p.to qs f r none)

-- the grammar sees the same tokens
lexed_second : (t : Text) (ts : List Lexeme) → IsLexed First t ts → IsLexed Second t ts
lexed_second t ts l = record { pieces = l.pieces; read = tokens_second t 0 l.pieces None l.read refl; same = l.same }

-- what a text spells in the first dialect it spells in the second
pub doit_second : (t : Text) (s : SequenceOf Text) → SpellsDoIt First t s → SpellsDoIt Second t s
doit_second t s d = record { spanned = d.spanned; spells = record { tokens = d.spells.tokens; lexed = lexed_second t d.spells.tokens d.spells.lexed; shallow = d.spells.shallow; grammar = d.spells.grammar; sound = d.spells.sound }; same = d.same }

-- what a method spells in the first dialect it spells in the second
pub method_second : (kernel : Bool) (t : Text) (m : MethodOf Text) → SpellsMethod First kernel t m → SpellsMethod Second kernel t m
method_second kernel t m d = record { spanned = d.spanned; spells = record { tokens = d.spells.tokens; lexed = lexed_second t d.spells.tokens d.spells.lexed; shallow = d.spells.shallow; grammar = d.spells.grammar; sound = d.spells.sound }; same = d.same }
