-- Who is open and who is late, in terms of the places of a log.
use Rattle.std.specs.Prelude.{◌≡◌, ℕ, ◌+◌, false, IsTrue, List, [], ◌∷◌, ◌++◌, length}
use Rattle.std.specs.List.{AllByRecursion}
use Rattle.team_core.specs.declared.entry.Entry.{Entry}
use Rattle.team_core.specs.declared.entry.Stand.TheVariants.{Idle}
use Rattle.team_core.specs.Journal.{is_mover, revision, opens, closes, standing}
use Rattle.team_core.specs.Events.{PointOf}

-- the event neither opens nor closes the session
abbrev pub LeavesOpen : ℕ → Entry → Type 0
LeavesOpen s e = s ≡ e.session → (opens e ≡ false) × (closes e ≡ false)

-- the session began at an accepted begin, these events stand behind it, and none of them is a commit or an accepted begin of the session
pub record IsOpenSince (s : ℕ) (log between : List Entry) : Type 0 where
  pub before : List Entry
  pub begin : Entry
  pub splits : log ≡ before ++ begin ∷ between
  pub own : s ≡ begin.session
  pub opened : IsTrue (opens begin)
  pub still : AllByRecursion (LeavesOpen s) between

-- a mover stands there
pub record HasMover (log : List Entry) : Type 0 where
  pub before : List Entry
  pub mover : Entry
  pub after : List Entry
  pub splits : log ≡ before ++ mover ∷ after
  pub moves : IsTrue (is_mover mover)

-- the session is open, and a mover stands between its begin and here
abbrev pub IsLate : ℕ → List Entry → Type 0
IsLate s log = (between : List Entry) × IsOpenSince s log between × HasMover between

-- the last mover, its number and the revision after it
pub record IsLastMover (log : List Entry) (number now : ℕ) : Type 0 where
  pub before : List Entry
  pub mover : Entry
  pub after : List Entry
  pub splits : log ≡ before ++ mover ∷ after
  pub moves : IsTrue (is_mover mover)
  pub none_later : revision after ≡ 0
  pub number_is : number ≡ length before + 1
  pub now_is : now ≡ revision (before ++ mover ∷ [])

-- no session has commands proposed while it is idle
abbrev pub HasNoneIdle : {S C : Type 0} → PointOf S C → Type 0
HasNoneIdle p = (s : ℕ) → standing s p.log ≡ Idle → p.proposed s ≡ []
