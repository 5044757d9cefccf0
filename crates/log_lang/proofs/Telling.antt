-- Faults that are told of a line.
use Rattle.std.proofs.Common.{◌≡◌, ℕ, ◌≤◌, Bool, true, false, if◌then◌else◌, List, [], ◌∷◌, ◌++◌, length, Option, Some, None, Err, Ok, Result, refl, sym, ap, subst, ◌∙◌, arith}
use Rattle.std.specs.Prelude.{◌≢◌, nat_lt}
use Rattle.std.specs.Option.{option_map}
use Rattle.std.proofs.lemmas.Bool.{ltb-true}
use Rattle.script_model.specs.Makers.{Text}
use Rattle.history_model.specs.Rules.{Perform, Undo, Redo}
use Rattle.ruled_model.specs.RuledScripts.{Line, Acts, Applies}
use Rattle.proposals.specs.declared.proposal.Asked.{Asked}
use Rattle.script_model.specs.Commands.{Cause, BadArgument, TooMany}
use Rattle.script_lang.specs.declared.asked.ScriptLine.{ScriptLine}
use Rattle.script_lang.specs.Shown.{line_in, lines_in, IsKnownLine, AreKnown}
use Rattle.log_model.specs.Events.{Act, Event, proposing, EventSays, IsWrong}
use Rattle.log_lang.specs.Shown.{answer_of}

-- a line and a cause
abbrev pub Fault : Type 0
Fault = Option (ℕ × Cause)

abbrev pub fault_at : ℕ → Cause → Fault
fault_at line cause = Some (line, cause)

-- the cause that a fault tells
pub told-cause : (line n : ℕ) (told cause : Cause) (P : Cause → Type 0) → P told → fault_at line told ≡ fault_at n cause → (n ≡ line) × P cause
told-cause line n told cause P p e =
    let here : ℕ × Cause = (line, told) in
    let there : ℕ × Cause = (n, cause) in
    let same : here ≡ there = cc in
    (sym (ap (λ (x : ℕ × Cause). x.0) same), subst P (ap (λ (x : ℕ × Cause). x.1) same) p)

-- a fault at another line
pub told-elsewhere : (line n : ℕ) (cause : Cause) (f g : Fault) → g ≡ option_map (λ (x : ℕ × Cause). (line, x.1)) f → g ≡ fault_at n cause → (n ≡ line) × (m : ℕ) × (f ≡ fault_at m cause)
told-elsewhere line n cause None g e is = absurd (let bad : fault_at n cause ≡ None = sym is ∙ e in cc)
told-elsewhere line n cause (Some x) g e is =
    let both = told-cause line n x.1 cause (λ c. x.1 ≡ c) refl (sym e ∙ is) in
    (both.0, x.0, ap (fault_at x.0) both.1)

-- an event for which there is no room
pub no-room : (line : Text) (count : ℕ) (event : Event) → EventSays line (Ok event) → 10000 ≤ count → IsWrong line count TooMany
no-room line count event says full = record { answer = Ok event; says = says; wrong = by (nat_lt count 10000) refl }
  where
    by : (b : Bool) → nat_lt count 10000 ≡ b → (let o : Option Cause = if b then None else Some TooMany in o) ≡ Some TooMany
    by true e = absurd (omega (arith, full, ltb-true count 10000 e))
    by false e = refl

-- a line that asks for nothing
pub wrong-line : (line : Text) (count : ℕ) (cause : Cause) → EventSays line (Err cause) → IsWrong line count cause
wrong-line line count cause says = record { answer = Err cause; says = says; wrong = refl }

-- several lines propose nothing
abbrev pub Answer : Type 0
Answer = Result Act Cause

several : (q r : Line) (rs : List Line) → (let o : Answer = Err BadArgument in proposing (q ∷ r ∷ rs) ≡ o)
several (Perform (Acts a)) r rs = refl
several (Perform (Applies c)) r rs = refl
several Undo r rs = refl
several Redo r rs = refl

pub several-propose : (names : List Text) (front : List ScriptLine) (last : ScriptLine) → front ≢ [] → proposing (lines_in names (front ++ last ∷ [])) ≡ answer_of names None
several-propose names [] last some = absurd (some refl)
several-propose names (q ∷ []) last some = several (line_in names q) (line_in names last) []
several-propose names (q ∷ r ∷ rs) last some = several (line_in names q) (line_in names r) (lines_in names (rs ++ last ∷ []))

-- one of them proposes what it does alone
pub one-proposes : (names : List Text) (all front : List ScriptLine) (last : ScriptLine) (found : Option Asked) → all ≡ front ++ last ∷ [] → front ≡ [] → proposing (line_in names last ∷ []) ≡ answer_of names found
    → proposing (lines_in names all) ≡ answer_of names found
one-proposes names all front last found e none is = ap (λ (ls : List ScriptLine). proposing (lines_in names ls)) (e ∙ ap (λ (ls : List ScriptLine). ls ++ last ∷ []) none) ∙ is

pub one-known : (names : List Text) (all front : List ScriptLine) (last : ScriptLine) → all ≡ front ++ last ∷ [] → length front ≡ 0 → AreKnown names all → IsKnownLine names last
one-known names all [] last e none known = (subst (AreKnown names) e known).0
one-known names all (l ∷ ls) last e none known = absurd (omega (arith, none))
