-- The heights of what events build.
use Rattle.std.specs.Prelude.{ℕ, zero, suc, ◌+◌, ◌-◌, nat_lt, Bool, true, ◌&&◌, if◌then◌else◌, List, [], ◌∷◌, ◌++◌, length, take, drop, max, min, Option, Some, None}
use Rattle.std.specs.Option.{option_or}
use Rattle.parse_events.specs.declared.event.Event.{Event}
use Rattle.parse_events.specs.declared.event.Event.TheVariants.{Number, Str, Symbol, Char, Word, Array, Bytes, Literal, Var, Send, Message, Cascade, Target, Assign, Enter, Block, Brace, Return, Statement}

-- a height, where all above 200 are told alike
abbrev pub cut : ℕ → ℕ
cut n = min n 201

-- the greatest of some heights, and 0 where there is none
abbrev pub greatest : List ℕ → ℕ
greatest [] = 0
greatest (h ∷ hs) = max h (greatest hs)

-- one height in the place of those from an index on: so many levels more than the greatest of them
abbrev pub raised : ℕ → ℕ → List ℕ → List ℕ
raised below levels hs = take below hs ++ cut (greatest (drop below hs) + levels) ∷ []

-- the heights of the parts that stand behind an event, the last one at the end
abbrev pub heights_behind : Event → List ℕ → List ℕ
heights_behind (Number t) hs = hs ++ 1 ∷ []
heights_behind (Str t) hs = hs ++ 1 ∷ []
heights_behind (Symbol t) hs = hs ++ 1 ∷ []
heights_behind (Char b) hs = hs ++ 1 ∷ []
heights_behind (Word n) hs = hs ++ 1 ∷ []
heights_behind (Array n) hs = raised (length hs - n) 1 hs
heights_behind (Bytes n) hs = take (length hs - n) hs ++ 1 ∷ []
heights_behind (Literal f e) hs = hs
heights_behind (Var f e n) hs = hs ++ 1 ∷ []
heights_behind (Send f e n s) hs = raised (length hs - n - 1) 1 hs
heights_behind (Message s n) hs = raised (length hs - n) 0 hs
heights_behind (Cascade f e n) hs = raised (length hs - n - 1) 1 hs
heights_behind (Target f n) hs = hs
heights_behind (Assign f e) hs = raised (length hs - 1) 1 hs
heights_behind (Enter ps ds) hs = hs
heights_behind (Block f e n c) hs = raised (length hs - n) 1 hs
heights_behind (Brace f e n) hs = raised (length hs - n) 1 hs
heights_behind (Return f e) hs = raised (length hs - 1) 1 hs
heights_behind (Statement f c) hs = hs

-- how many blocks are open behind an event
abbrev pub open_behind : Event → ℕ → ℕ
open_behind (Enter ps ds) inside = suc inside
open_behind (Block f e n c) inside = inside - 1
open_behind e inside = inside

-- the place of a statement outside all blocks that is higher than 200
abbrev pub tall_at : Event → ℕ → List ℕ → Option ℕ
tall_at (Statement f c) zero hs = if nat_lt 200 (greatest (drop (length hs - 1) hs)) then Some f else None
tall_at e inside hs = None

-- the first statement outside all blocks that is higher than 200
abbrev pub first_tall_in : ℕ → List ℕ → List Event → Option ℕ
first_tall_in inside hs [] = None
first_tall_in inside hs (e ∷ es) = option_or (tall_at e inside hs) (first_tall_in (open_behind e inside) (heights_behind e hs) es)

-- how many more events the statement outside all blocks may have, where it may have this many before an event
abbrev pub left_behind : Event → ℕ → ℕ → ℕ
left_behind (Statement f c) zero left = 200
left_behind e inside left = left - 1

-- whether an event ends no statement outside all blocks that has too many events
abbrev pub short_at : Event → ℕ → ℕ → Bool
short_at (Statement f c) zero left = nat_lt 0 left
short_at e inside left = true

-- whether each statement outside all blocks has 200 events at most, with its own
abbrev pub all_short : ℕ → ℕ → List Event → Bool
all_short inside left [] = true
all_short inside left (e ∷ es) = short_at e inside left && all_short (open_behind e inside) (left_behind e inside left) es
