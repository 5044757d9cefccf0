-- The tokens of a text, one after the other, with blanks between them.
use Rattle.std.specs.Prelude.{◌≡◌, ◌≢◌, ℕ, ◌≤◌, List, [], ◌∷◌, ◌++◌, slice_range, Option, Some, None}
use Rattle.token_model.specs.Bytes.{is_blank, IsRun}
use Rattle.token_model.specs.Tokens.{IsToken}
use Rattle.token_model.specs.Faults.{IsFault}
use Rattle.token_model.specs.declared.kind.Dialect.{Dialect}
use Rattle.token_model.specs.declared.kind.TokenKind.{TokenKind}
use Rattle.token_model.specs.declared.kind.TokenKind.TheVariants.{End}
use Rattle.token_model.specs.declared.fault.LexFault.{LexFault}

-- a token's kind and its span in the text
pub record Piece : Type 0 where
  pub kind : TokenKind
  pub from : ℕ
  pub to : ℕ

-- behind the blanks from at on stands this token
pub record IsNext (dialect : Dialect) (text : List ℕ) (at : ℕ) (p : Piece) : Type 0 where
  pub blanks : IsRun is_blank text at p.from
  pub token : IsToken dialect p.kind text p.from p.to

-- behind the blanks from at on no token begins, with this fault
pub record IsNextFault (dialect : Dialect) (text : List ℕ) (at : ℕ) (fault : LexFault) : Type 0 where
  pub from : ℕ
  pub blanks : IsRun is_blank text at from
  pub fails : IsFault dialect text from fault

-- the tokens of the text from at on: up to the end, or up to the first fault
pub data HasTokens (dialect : Dialect) (text : List ℕ) : ℕ → List Piece → Option LexFault → Type 0 where
  Ended : (at : ℕ) (p : Piece) → IsNext dialect text at p → p.kind ≡ End → HasTokens dialect text at (p ∷ []) None
  Stopped : (at : ℕ) (fault : LexFault) → IsNextFault dialect text at fault → HasTokens dialect text at [] (Some fault)
  Further : (at : ℕ) (p : Piece) (ps : List Piece) (fault : Option LexFault) → IsNext dialect text at p → p.kind ≢ End → HasTokens dialect text p.to ps fault → HasTokens dialect text at (p ∷ ps) fault

-- the spans are in order from at on
abbrev pub AreInOrder : ℕ → List Piece → Type 0
AreInOrder at [] = Unit {0}
AreInOrder at (p ∷ ps) = (at ≤ p.from) × (p.from ≤ p.to) × AreInOrder p.to ps

-- the tokens from at on and what stands between them, joined
abbrev pub joined : List ℕ → ℕ → List Piece → List ℕ
joined text at [] = []
joined text at (p ∷ ps) = slice_range text at p.from ++ slice_range text p.from p.to ++ joined text p.to ps
