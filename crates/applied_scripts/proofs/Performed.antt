-- Lines that are performed one by one.
use Rattle.std.proofs.Common.{◌≡◌, ℕ, suc, ◌+◌, List, [], ◌∷◌, ◌++◌, length, Option, Some, Result, Ok, Err, refl, sym, ap, subst, ◌∙◌, arith}
use Rattle.std.specs.Prelude.{map}
use Rattle.std.proofs.lemmas.List.{append_assoc, append-nil, length-append}
use Rattle.rb_base.specs.Names.{name_at}
use Rattle.event_trees.specs.Naming.{Grows}
use Rattle.history_model.specs.History.{by_result, stepped}
use Rattle.history_model.specs.Verdicts.{judged_from}
use Rattle.history_model.proofs.Parts.{parts}
use Rattle.command_numbers.specs.MappedCommands.{map_condition}
use Rattle.command_model.specs.Conditions.{ConditionOf}
use Rattle.run_model.specs.Values.{Name}
use Rattle.session_model.specs.Scripts.{Request, rules}
use Rattle.commands.specs.Views.{condition_of}
use Rattle.commands.specs.declared.condition.Condition.{Condition}
use Rattle.certificates.specs.declared.certificate.Certificate.{Certificate}
use Rattle.certificates.specs.Shown.{step_shown}
use Rattle.rule_model.specs.RuleCommands.{Reason, Unmet, Derived}
use Rattle.ruled_model.specs.RuledScripts.{Line, History, Refusal, ruled, as_line}
use Rattle.script_model.specs.Makers.{Text}
use Rattle.script_lang.specs.declared.asked.ScriptLine.{ScriptLine}
use Rattle.script_lang.specs.Shown.{line_in, lines_in, AreKnown}
use Rattle.script_lang.proofs.Growing.{line-grown}
use Rattle.applied_scripts.specs.declared.lines.Stop.{Stop}
use Rattle.applied_scripts.specs.declared.lines.Stop.TheVariants as stop
use Rattle.applied_scripts.specs.Refused.{refusal_shown, StopsAt}
use Rattle.applied_scripts.specs.Changed.{IsAfterLines}

-- a line that asks for no rule makes of a history what it makes by itself
abbrev pub WithoutRules : Type 0
WithoutRules = (h : History) (x : Request) → stepped ruled h (as_line x) ≡ by_result (λ g. Ok g) (λ q. Err (Unmet q)) (stepped rules h x)

module _ (law : WithoutRules) (h : History) (x : Request) where
  pub plain-done : (g : History) → stepped rules h x ≡ Ok g → stepped ruled h (as_line x) ≡ Ok g
  plain-done g e = law h x ∙ ap (by_result (λ k. Ok k) (λ q. Err (Unmet q))) e

  pub plain-refused : (q : ConditionOf Name) → stepped rules h x ≡ Err q → stepped ruled h (as_line x) ≡ Err (Unmet q)
  plain-refused q e = law h x ∙ ap (by_result (λ k. Ok k) (λ p. Err (Unmet p))) e

-- the refusal of the line of a number, and what is so of its reason
told : (number : ℕ) (q : Reason) (P : Reason → Type 0) → P q → (r : Refusal) → (let one : Option Refusal = Some (record { number = number; condition = q }) in one ≡ Some r) → (r.number ≡ number) × P r.condition
told number q P p r e =
    let here : Refusal = record { number = number; condition = q } in
    let same : here ≡ r = cc in
    (ap (λ (s : Refusal). s.number) (sym same), subst P (ap (λ (s : Refusal). s.condition) same) p)

module _ (names : List Text) (number : ℕ) (result : Result History Reason) where
  pub refused-line : (c : Condition) → result ≡ Err (Unmet (map_condition (name_at names) (condition_of c))) → (r : Refusal) → refusal_shown names (stop.Refused number c) ≡ Some r → (r.number ≡ number) × (result ≡ Err r.condition)
  refused-line c e r is = told number (Unmet (map_condition (name_at names) (condition_of c))) (λ q. result ≡ Err q) e r is

  pub underived-line : (c : Certificate) → result ≡ Err (Derived (map step_shown c.steps.items)) → (r : Refusal) → refusal_shown names (stop.NotDerived number c) ≡ Some r → (r.number ≡ number) × (result ≡ Err r.condition)
  underived-line c e r is = told number (Derived (map step_shown c.steps.items)) (λ q. result ≡ Err q) e r is

-- the lines before those that are left: as many as were performed, and accepted
pub record HasFront (h : History) (all left : List Line) (number : ℕ) (now : History) : Type 0 where
  pub front : List Line
  pub parted : all ≡ front ++ left
  pub many : length front ≡ number
  pub accepted : judged_from ruled 1 h front ≡ Ok now

-- a list of no length
pub no-items : {X : Type 0} (xs : List X) → length xs ≡ 0 → xs ≡ []
no-items [] e = refl
no-items (x ∷ xs) e = absurd (omega (arith, e))

module _ (h : History) (all : List Line) where
  -- none are performed
  pub front-none : (left : List Line) → left ≡ all → HasFront h all left 0 h
  front-none left same = record { front = []; parted = sym same; many = refl; accepted = refl }

  -- all are
  pub front-all : (left : List Line) (number : ℕ) (now : History) → left ≡ [] → HasFront h all left number now → judged_from ruled 1 h all ≡ Ok now
  front-all left number now none has = ap (judged_from ruled 1 h) (has.parted ∙ ap (λ (ls : List Line). has.front ++ ls) none ∙ append-nil has.front) ∙ has.accepted

  pub front-part : (left : List Line) (number : ℕ) (now : History) → HasFront h all left number now → IsAfterLines h all now
  front-part left number now has = record { before = has.front; after = left; parts = has.parted; accepted = has.accepted }

  -- lines that stop are refused there
  pub stops-judged : (r : Refusal) (g : History) → StopsAt h all r g → judged_from ruled 1 h all ≡ Err r
  stops-judged r g at =
      let number : 1 + length at.before ≡ r.number = omega (arith, at.numbered) in
      ap (judged_from ruled 1 h) at.parts
      ∙ parts ruled 1 h at.before (at.line ∷ at.after) g at.accepted
      ∙ ap (by_result (λ n. judged_from ruled (suc (1 + length at.before)) n at.after) (λ q. Err (record { number = 1 + length at.before; condition = q }))) at.refused
      ∙ ap (λ (n : ℕ). let v : Result History Refusal = Err (record { number = n; condition = r.condition }) in v) number

-- the next of the lines that are left, over the names before and those of the image
module _ {first names : List Text} (grown : Grows first names) (left rest : List ScriptLine) (l : ScriptLine) (next : left ≡ l ∷ rest) (known : AreKnown first left) (h now : History) (all : List Line) (number : ℕ)
    (has : HasFront h all (lines_in first left) number now) where
  pub next-known : AreKnown first (l ∷ rest)
  next-known = subst (AreKnown first) next known

  abbrev one : List Line
  one = line_in first l ∷ []

  parted-next : all ≡ has.front ++ (one ++ lines_in first rest)
  parted-next = has.parted ∙ ap (λ (ls : List ScriptLine). has.front ++ lines_in first ls) next

  -- what becomes of it
  stepped-next : (r : Result History Reason) → stepped ruled now (line_in names l) ≡ r → stepped ruled now (line_in first l) ≡ r
  stepped-next r e = ap (stepped ruled now) (sym (line-grown grown l next-known.0)) ∙ e

  pub next-done : (n : History) → stepped ruled now (line_in names l) ≡ Ok n → HasFront h all (lines_in first rest) (number + 1) n
  next-done n e = record {
    front = has.front ++ one;
    parted = parted-next ∙ sym (append_assoc has.front one (lines_in first rest));
    many = length-append has.front one ∙ ap (λ (k : ℕ). k + 1) has.many;
    accepted = parts ruled 1 h has.front one now has.accepted ∙ ap (by_result (λ g. Ok g) (λ q. Err (record { number = 1 + length has.front; condition = q }))) (stepped-next (Ok n) e);
  }

  pub next-refused : (r : Refusal) → r.number ≡ number + 1 → stepped ruled now (line_in names l) ≡ Err r.condition → StopsAt h all r now
  next-refused r numbered e = record {
    before = has.front;
    line = line_in first l;
    after = lines_in first rest;
    parts = parted-next;
    numbered = numbered ∙ ap (λ (k : ℕ). k + 1) (sym has.many);
    accepted = has.accepted;
    refused = stepped-next (Err r.condition) e;
  }
