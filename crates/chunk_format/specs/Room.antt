-- What the room of a source ends as, once the source's borrow of it ends.
use Rattle.std.specs.Prelude.{◌≡◌, ℕ, Bool, List, Result, MatchBool, MatchResult}
use Rattle.std.specs.Borrow.{Fml, Bor, MutBor}
use Rattle.std.specs.Io.BufRead.{Rests}
use Rattle.rb_base.specs.contracts.text.Text.{the_row}

-- where the chunk is doubled and its source was made, the room is the source; else it is as before
abbrev pub EndsAs : {E : Type 0} → Bool → MutBor (List ℕ) → Result (Bor (List ℕ)) E → Fml
EndsAs doubled room r =
    Rests the_row room (λ new. MatchBool doubled (MatchResult r (λ source. new ≡ source.now) (λ _. new ≡ room.now)) (new ≡ room.now))
