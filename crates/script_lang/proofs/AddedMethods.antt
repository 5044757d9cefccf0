-- What lines of `addMethod` ask for.
use Rattle.std.proofs.Common.{◌≡◌, ℕ, ◌<◌, ◌≤◌, Bool, true, false, if◌then◌else◌, List, length, Option, Some, None, Result, Ok, refl, sym, ap, subst, ◌∙◌, arith}
use Rattle.std.specs.Prelude.{nat_lt}
use Rattle.std.proofs.lemmas.Bool.{ltb-true}
use Rattle.token_model.specs.declared.kind.Dialect.TheVariants.{Second}
use Rattle.tree_model.specs.Tree.{MethodOf, map_method}
use Rattle.grammar_model.specs.Spelling.{SpellsMethod}
use Rattle.rb_base.specs.Names.{name_at}
use Rattle.event_trees.specs.Naming.{Grows}
use Rattle.command_model.specs.Commands.{AddMethod}
use Rattle.session_model.specs.Scripts.{Request}
use Rattle.ruled_model.specs.RuledScripts.{Line}
use Rattle.script_model.specs.Makers.{Text, single}
use Rattle.script_model.specs.Commands.{Cause, TooMany}
use Rattle.script_model.specs.Additions.{Addition, addition_of, AddsMethod, Spelled}
use Rattle.script_model.specs.Scripts.{LineSays, IsWrong}
use Rattle.script_lang.proofs.Growing.{name_at-grown}

-- a method that a text spells, over a table of names that grew
pub added : {one later : List Text} {t : Text} (a : Addition) (class : ℕ) (protocol source : Text) (m : MethodOf ℕ) → addition_of t ≡ Some a → Grows one later → class < length one →
    name_at one class ≡ a.class → protocol ≡ a.protocol → source ≡ a.text → SpellsMethod Second false a.text (map_method (name_at later) m) →
    AddsMethod t (Ok (single (AddMethod (name_at later class) a.meta protocol source (map_method (name_at later) m))))
added {one} {later} a class protocol source m is g known named p s spells =
    let class_is : name_at later class ≡ a.class = name_at-grown g class known ∙ named in
    Spelled a (map_method (name_at later) m) is spells (λ i. let r : Result Request Cause = Ok (single (AddMethod (class_is i) a.meta (p i) (s i) (map_method (name_at later) m))) in r)

-- the cause that a fault tells
pub told-cause : (line n : ℕ) (told cause : Cause) (P : Cause → Type 0) → P told → (let one : Option (ℕ × Cause) = Some (line, told) in let other : Option (ℕ × Cause) = Some (n, cause) in one ≡ other) → (n ≡ line) × P cause
told-cause line n told cause P p e =
    let here : ℕ × Cause = (line, told) in
    let there : ℕ × Cause = (n, cause) in
    let same : here ≡ there = cc in
    (sym (ap (λ (x : ℕ × Cause). x.0) same), subst P (ap (λ (x : ℕ × Cause). x.1) same) p)

-- a command for which there is no room
pub no-room : (line : Text) (count : ℕ) (r : Line) → LineSays line (Ok r) → 10000 ≤ count → IsWrong line count TooMany
no-room line count r says full = record { answer = Ok r; says = says; wrong = by (nat_lt count 10000) refl }
  where
    by : (b : Bool) → nat_lt count 10000 ≡ b → (let o : Option Cause = if b then None else Some TooMany in o) ≡ Some TooMany
    by true e = absurd (omega (arith, full, ltb-true count 10000 e))
    by false e = refl
