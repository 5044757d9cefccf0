-- Bytes by the tokens that they are or begin.
use Rattle.std.specs.Prelude.{◌≢◌, ℕ, ◌+◌, ◌<◌, List, length}
use Rattle.token_model.specs.Bytes.{is_letter, is_digit, is_binary, Has, Fails}
use Rattle.token_model.specs.Tokens.{IsToken, NoToken}
use Rattle.token_model.specs.declared.kind.Dialect.TheVariants.{Second}
use Rattle.token_model.specs.declared.kind.TokenKind.{TokenKind}

-- the byte is a token of the kind, whatever follows it
abbrev pub IsAlone : ℕ → TokenKind → Type 0
IsAlone byte kind = (text : List ℕ) (i : ℕ) → Has text i byte → IsToken Second kind text i (i + 1)

-- the byte begins no token, unless it is a letter, a digit, a binary character or one of : # ' " $
abbrev pub BeginsNoMark : ℕ → Type 0
BeginsNoMark byte =
    (text : List ℕ) (i : ℕ) → Has text i byte → i < length text → Fails is_letter text i → Fails is_digit text i → Fails is_binary text i → byte ≢ 58 → byte ≢ 35 → byte ≢ 39 → byte ≢ 34 → byte ≢ 36 → NoToken Second text i
