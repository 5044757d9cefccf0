-- What becomes of a script in an image.
use Rattle.std.specs.Prelude.{◌≡◌, ℕ, ◌+◌, suc, List, [], ◌∷◌, ◌++◌, length, Result, Ok, Err}
use Rattle.history_model.specs.Rules.{RulesOf, RequestOf}
use Rattle.history_model.specs.History.{HistoryOf, by_result, opened, stepped}

-- the command of this number is refused with this condition; commands are counted from 1, and lines that say none do not count
pub record RefusalOf (Q : Type 0) : Type 0 where
  pub number : ℕ
  pub condition : Q

module _ {I C X Q R : Type 0} (rules : RulesOf I C X Q R) where
  -- what becomes of commands in a history, the first of which has this number
  abbrev pub judged_from : ℕ → HistoryOf I R → List (RequestOf X) → Result (HistoryOf I R) (RefusalOf Q)
  judged_from k h [] = Ok h
  judged_from k h (x ∷ xs) = by_result (λ g. judged_from (suc k) g xs) (λ q. Err (record { number = k; condition = q })) (stepped rules h x)

  -- the history after all commands, or the first one that is refused
  abbrev pub verdict : I → List (RequestOf X) → Result (HistoryOf I R) (RefusalOf Q)
  verdict i script = judged_from 1 (opened rules i) script

  -- the commands before this one are accepted, and it is refused with this condition
  pub record IsRefusedAt (i : I) (script : List (RequestOf X)) (refusal : RefusalOf Q) : Type 0 where
    pub before : List (RequestOf X)
    pub line : RequestOf X
    pub after : List (RequestOf X)
    pub history : HistoryOf I R
    pub parts : script ≡ before ++ line ∷ after
    pub numbered : refusal.number ≡ length before + 1
    pub accepted : verdict i before ≡ Ok history
    pub refused : stepped rules history line ≡ Err refusal.condition
