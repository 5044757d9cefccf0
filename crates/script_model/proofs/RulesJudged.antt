-- The examples of lines of `applyRule` are as the definitions have them.
use Rattle.std.proofs.Common.{◌≡◌, ℕ, zero, suc, ◌<◌, Bool, true, false, List, [], ◌∷◌, ◌++◌, refl, sym, arith, codes}
use Rattle.std.specs.Prelude.{Ok, Err}
use Rattle.std.specs.Fmt.{decimal}
use Rattle.std.proofs.lemmas.Fmt.{decimal_digit}
use Rattle.certified_model.specs.Certificates.{CertStep}
use Rattle.certificate_model.specs.CertificateTexts.{certificate_text, SaysCertificate, HasBadStep}
use Rattle.rule_model.specs.RuleCommands.{RuleCommand}
use Rattle.rule_model.specs.RuleLines.{HasArrowAt, IsCut, BadSteps, NoArrow, Asks, AsksNot}
use Rattle.script_model.specs.Makers.{Text}
use Rattle.script_model.specs.Scripts.{OfRule}
use Rattle.script_model.specs.Examples.{wrong_rules, AllWrongRules, IsRuleLine}

-- a step at the root
abbrev forth : ℕ → CertStep
forth n = record { law = n; forward = true; path = [] }

eight : codes "8" ≡ decimal 8
eight = sym (decimal_digit 8 (omega arith))

says_one : SaysCertificate (codes "+8@") (forth 8 ∷ [])
says_one = record {
  some = λ e. cc;
  steps = (record { from_one = omega arith; to_ten = omega arith; path = tt }, tt);
  spelled = λ i. (codes "+" ++ (eight i ++ (codes "@" ++ []))) ++ [];
}

-- an empty text says no certificate
says_none : (xs : List CertStep) → SaysCertificate [] xs → ⊥
says_none [] says = says.some refl
says_none (x ∷ xs) says = by x.forward says.spelled
  where
    by : (b : Bool) → ◌≡◌ {A = Text} [] (certificate_text (record x { forward = b } ∷ xs)) → ⊥
    by true e = cc
    by false e = cc

bad_at_once : HasBadStep [] 0
bad_at_once = record {
  within = omega arith;
  before = record { rest = codes "+8@"; steps = forth 8 ∷ []; says = says_one };
  no_further = λ l. omega (arith, l);
  none = says_none;
}

no_arrow : (k : ℕ) → HasArrowAt (codes " x") k → ⊥
no_arrow zero a = let e = a.1 in cc
no_arrow (suc zero) a = let e = a.1 in cc
no_arrow (suc (suc zero)) a = let e = a.1 in cc
no_arrow (suc (suc (suc k))) a = let e = a.1 in cc

pub finds_wrong_rules : AllWrongRules wrong_rules
finds_wrong_rules = (
  OfRule (Err tt) refl (AsksNot (BadSteps 0 bad_at_once)) refl,
  (OfRule (Err tt) refl (AsksNot (NoArrow no_arrow)) refl, tt),
)

-- the first arrow
first_arrow : IsCut (codes " `x ==> `x ==> ") (codes " `x") (codes "`x ==> ")
first_arrow = record { parts = refl; earliest = earlier }
  where
    earlier : (k : ℕ) → k < 3 → HasArrowAt (codes " `x ==> `x ==> ") k → ⊥
    earlier zero l a = let e = a.1 in (let bad : ◌≡◌ {A = ℕ} 96 61 = cc in absurd (omega (arith, bad)))
    earlier (suc zero) l a = let e = a.1 in (let bad : ◌≡◌ {A = ℕ} 96 32 = cc in absurd (omega (arith, bad)))
    earlier (suc (suc zero)) l a = let e = a.1 in (let bad : ◌≡◌ {A = ℕ} 120 32 = cc in absurd (omega (arith, bad)))
    earlier (suc (suc (suc k))) l a = omega (arith, l)

pub says_rule : IsRuleLine
says_rule rule says =
    let command : RuleCommand = record { certificate = forth 8 ∷ []; rule = rule } in
    OfRule (Ok command) refl (Asks command (record { first = codes " `x"; second = codes "`x ==> "; certificate = says_one; cut = first_arrow; rule = says })) refl
